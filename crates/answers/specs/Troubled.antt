-- What is wrong with the lines of an order.
use Rattle.std.specs.Prelude.{ℕ, Some, None, Ok, Err, Option, Result}
use Rattle.words.specs.declared.refusals.Refusal.{Refusal}
use Rattle.answers.specs.declared.parts.Fault.{Fault}
use Rattle.answers.specs.declared.parts.Trouble.{Trouble}
use Rattle.answers.specs.declared.parts.Trouble.TheVariants.{Unclear, Refused}

-- What a field was read as, if it could be understood.
abbrev pub understood : {X : Type 0} → Option X → Result X Trouble
understood None = Err Unclear
understood (Some x) = Ok x

-- What a call answered, a refusal as the trouble with a field.
abbrev pub accepted : {X : Type 0} → Result X Refusal → Result X Trouble
accepted (Ok x) = Ok x
accepted (Err refusal) = Err (Refused refusal)

-- What came of a field, the trouble with it as a fault that names its line and its place in the line, both from 1.
abbrev pub at_field : {X : Type 0} → ℕ → ℕ → Result X Trouble → Result X Fault
at_field line place (Ok x) = Ok x
at_field line place (Err trouble) = Err (record { line = line; place = place; trouble = trouble })
