-- What is printed of the answer to an order, as bytes.
use Rattle.std.specs.Prelude.{ℕ, List, [], ◌∷◌, ◌++◌, Some, None, Ok, Err, codes, decimal, Option, Result}
use Rattle.std.specs.List.{flat_map}
use Rattle.answers.specs.Good.{good_in}
use Rattle.answers.specs.declared.parts.Arrival.{Arrival}
use Rattle.answers.specs.declared.parts.Fault.{Fault}
use Rattle.answers.specs.declared.parts.Trouble.{Trouble}
use Rattle.answers.specs.declared.parts.Trouble.TheVariants.{Missing, Unclear, Refused}
use Rattle.words.specs.Refusals.{number_of}
use Rattle.printing.specs.Hex.{hex_of}

-- A line ends with byte 10.
abbrev pub line_text : List ℕ → List ℕ
line_text text = text ++ 10 ∷ []

-- What a number reads as: good, with the content, or spoiled.
abbrev pub reading_text : Option ℕ → List ℕ
reading_text None = codes "spoiled"
reading_text (Some content) = codes "good " ++ hex_of 5 content

-- A place: its number, the number sent, the number that arrived, and what that reads as, with a space between each two.
abbrev pub place_text : Arrival → List ℕ
place_text a =
    decimal a.place ++ (codes " " ++ (hex_of 7 a.sent ++ (codes " " ++ (hex_of 7 a.arrived ++ (codes " " ++ reading_text a.reading)))))

-- The places, a line each.
abbrev pub place_lines : List Arrival → List ℕ
place_lines arrivals = flat_map (λ a. line_text (place_text a)) arrivals

-- The places, and then how many of the twelve arrived good.
abbrev pub report_text : List Arrival → List ℕ
report_text arrivals = place_lines arrivals ++ (decimal (good_in arrivals) ++ line_text (codes " of 12 good"))

-- What is wrong with a field.
abbrev pub trouble_text : Trouble → List ℕ
trouble_text Missing = codes "missing"
trouble_text Unclear = codes "cannot be understood"
trouble_text (Refused refusal) = codes "refused, " ++ decimal (number_of refusal)

-- A fault: the line, the place of the field in it, and what is wrong.
abbrev pub fault_line : Fault → List ℕ
fault_line f = codes "line " ++ (decimal f.line ++ (codes ", field " ++ (decimal f.place ++ (codes ": " ++ line_text (trouble_text f.trouble)))))

-- The answer to an order.
abbrev pub answer_text : Result (List Arrival) Fault → List ℕ
answer_text (Ok arrivals) = report_text arrivals
answer_text (Err fault) = fault_line fault
