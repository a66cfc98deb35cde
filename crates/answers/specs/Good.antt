-- What arrived good.
use Rattle.std.specs.Prelude.{ℕ, Bool, List}
use Rattle.std.specs.List.{count_by}
use Rattle.std.specs.Option.{is_some}
use Rattle.answers.specs.declared.parts.Arrival.{Arrival}

-- A place arrived good where the number that arrived reads as a content.
abbrev pub arrived_good : Arrival → Bool
arrived_good a = is_some a.reading

-- How many arrived good.
abbrev pub good_in : List Arrival → ℕ
good_in arrivals = count_by arrived_good arrivals
