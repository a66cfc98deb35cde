-- The three lines of an order.
use Rattle.std.specs.Prelude.{ℕ, ◌+◌, ◌^◌, cond, List, [], ◌∷◌, length, Some, None, Ok, Err, Option, Result, ◌==◌, nat_lt}
use Rattle.acknowledgement.specs.Acu.{acu_from}
use Rattle.acknowledgement.specs.declared.fields.AcuFields.{AcuFields}
use Rattle.answers.specs.Troubled.{understood, accepted, at_field}
use Rattle.answers.specs.declared.parts.Fault.{Fault}
use Rattle.answers.specs.declared.parts.Trouble.{Trouble}
use Rattle.answers.specs.declared.parts.Trouble.TheVariants.{Missing, Unclear}
use Rattle.blocks.specs.Block.{Opened, putting}
use Rattle.orders.specs.declared.parts.Form.{Form}
use Rattle.orders.specs.declared.parts.Form.TheVariants.{Binary, Decimal}
use Rattle.orders.specs.declared.parts.Lines.{Lines}
use Rattle.orders.specs.declared.parts.Order.{Order}
use Rattle.reserved.specs.declared.numbers.CodeNumbers.{CodeNumbers}
use Rattle.text.specs.Field.{fields_of}
use Rattle.text.specs.Number.{number_in}

-- ---- the first line: the contents, in hexadecimal

-- One field of the first line: its number is put into the block.
abbrev pub put_field : Option ℕ → Opened → Result Opened Trouble
put_field None block = Err Unclear
put_field (Some number) block = accepted (putting number block)

-- Further fields, from a place on, where the block holds what was put before; a fault stays.
abbrev pub put_fields : ℕ → Result Opened Fault → List (List ℕ) → Result Opened Fault
put_fields place held [] = held
put_fields place (Err fault) (f ∷ fs) = Err fault
put_fields place (Ok block) (f ∷ fs) = put_fields (place + 1) (at_field 1 place (put_field (number_in 16 f) block)) fs

-- The block that the first line makes, begun with some codes.
abbrev pub contents_line : CodeNumbers → List ℕ → Result Opened Fault
contents_line codes line = put_fields 1 (Ok (record { codes = codes; contents = [] })) (fields_of line)

-- ---- numbers of the other lines

-- The number that a field makes: of exactly so many binary digits, or of decimal digits.
abbrev pub read_as : Form → List ℕ → Option ℕ
read_as (Binary digits) field = cond (length field == digits) (number_in 2 field) None
read_as Decimal field = number_in 10 field

-- The number of the next of some fields.
abbrev pub number_next : Form → List (List ℕ) → Result ℕ Trouble
number_next form [] = Err Missing
number_next form (f ∷ fs) = understood (read_as form f)

-- There has to be no further field.
abbrev pub end_next : List (List ℕ) → Result (Unit {0}) Trouble
end_next [] = Ok tt
end_next (f ∷ fs) = Err Unclear

-- The fields behind the first.
abbrev pub behind : List (List ℕ) → List (List ℕ)
behind [] = []
behind (f ∷ fs) = fs

-- ---- the second line: the indicators as eleven binary digits, the block acknowledged and the block's own number

-- Of several faults the first counts. An ACU that is refused is refused for the first of its numbers that is too large.
abbrev pub acu_of_fields : Result ℕ Fault → Result ℕ Fault → Result ℕ Fault → Result (Unit {0}) Fault → Result AcuFields Fault
acu_of_fields (Err fault) acknowledged number end = Err fault
acu_of_fields (Ok i) (Err fault) number end = Err fault
acu_of_fields (Ok i) (Ok a) (Err fault) end = Err fault
acu_of_fields (Ok i) (Ok a) (Ok n) (Err fault) = Err fault
acu_of_fields (Ok i) (Ok a) (Ok n) (Ok u) = at_field 2 (cond (nat_lt a (2 ^ 3)) 3 2) (accepted (acu_from (record { indicators = i; acknowledged = a; number = n })))

-- The ACU that some fields make.
abbrev pub acu_of_line : List (List ℕ) → Result AcuFields Fault
acu_of_line fields =
    acu_of_fields (at_field 2 1 (number_next (Binary 11) fields)) (at_field 2 2 (number_next Decimal (behind fields)))
    (at_field 2 3 (number_next Decimal (behind (behind fields)))) (at_field 2 4 (end_next (behind (behind (behind fields)))))

-- The ACU of the second line.
abbrev pub acu_line : List ℕ → Result AcuFields Fault
acu_line line = acu_of_line (fields_of line)

-- ---- the third line: the marks as twelve binary digits

abbrev pub marks_of_fields : Result ℕ Fault → Result (Unit {0}) Fault → Result ℕ Fault
marks_of_fields (Err fault) end = Err fault
marks_of_fields (Ok marks) (Err fault) = Err fault
marks_of_fields (Ok marks) (Ok u) = Ok marks

-- The marks of the third line, the mark of place 1 the highest bit.
abbrev pub marks_line : List ℕ → Result ℕ Fault
marks_line line =
    marks_of_fields (at_field 3 1 (number_next (Binary 12) (fields_of line))) (at_field 3 2 (end_next (behind (fields_of line))))

-- ---- the order

-- Of several faults the first counts.
abbrev pub order_of : Result Opened Fault → Result AcuFields Fault → Result ℕ Fault → Result Order Fault
order_of (Err fault) acu marks = Err fault
order_of (Ok block) (Err fault) marks = Err fault
order_of (Ok block) (Ok acu) (Err fault) = Err fault
order_of (Ok block) (Ok acu) (Ok marks) = Ok (record { block = block; acu = acu; marks = marks })

-- The order of three lines, its block begun with some codes.
abbrev pub order_from : CodeNumbers → Lines → Result Order Fault
order_from codes lines = order_of (contents_line codes lines.contents.now) (acu_line lines.acu.now) (marks_line lines.marks.now)
