-- The acknowledgement unit (ACU).
use Rattle.std.specs.Prelude.{ℕ, ◌+◌, ◌*◌, ◌^◌, Bool, cond, ◌&&◌, Ok, Err, Result, nat_lt}
use Rattle.acknowledgement.specs.declared.fields.AcuFields.{AcuFields}
use Rattle.words.specs.declared.refusals.Refusal.{Refusal}
use Rattle.words.specs.declared.refusals.Refusal.TheVariants.{OutOfRange}

-- Its content: the bits 011, eleven indicators in the order of the units (0 accepted, 1 not), three bits for the number of the
-- block acknowledged, and three for the number of its own block.
abbrev pub acu_of : AcuFields → ℕ
acu_of a = 0b011 * 2 ^ 17 + a.indicators * 2 ^ 6 + a.acknowledged * 2 ^ 3 + a.number

-- The indicators have at most eleven bits, and the two block numbers three.
abbrev pub short : AcuFields → Bool
short a = nat_lt a.indicators (2 ^ 11) && nat_lt a.acknowledged (2 ^ 3) && nat_lt a.number (2 ^ 3)

-- An ACU from plain numbers: the fields, or the refusal.
abbrev pub acu_from : AcuFields → Result AcuFields Refusal
acu_from a = cond (short a) (Ok a) (Err OutOfRange)
