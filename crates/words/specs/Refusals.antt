-- The refusals by number.
use Rattle.std.specs.Prelude.{ℕ}
use Rattle.words.specs.declared.refusals.Refusal.{Refusal}
use Rattle.words.specs.declared.refusals.Refusal.TheVariants.{OutOfTurn, Settings, DelaysTooLong, OutOfRange, WrongLength, ReservedContent, LimitPassed, HoldFull, NothingThere, BlockFull}

-- The table of refusals. Where several apply to one call, the lowest number decides.
abbrev pub number_of : Refusal → ℕ
number_of OutOfTurn = 1
number_of Settings = 2
number_of DelaysTooLong = 3
number_of OutOfRange = 4
number_of WrongLength = 5
number_of ReservedContent = 6
number_of LimitPassed = 7
number_of HoldFull = 8
number_of NothingThere = 9
number_of BlockFull = 10
