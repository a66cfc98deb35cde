-- The lines of a report, written one after another.
use Rattle.std.proofs.Common.{◌≡◌, ℕ, ◌+◌, ◌<◌, ◌≤◌, List, ◌++◌, length, get_or, take, [], sym, ap, ◌∙◌}
use Rattle.std.proofs.lemmas.List.{flat_map_more, take_more, take_all}
use Rattle.answers.specs.Print.{place_text, line_text, place_lines}
use Rattle.answers.specs.declared.parts.Arrival.{Arrival}

pub lines_more : (arrivals : List Arrival) (i : ℕ) (d : Arrival) → i < length arrivals → place_lines (take i arrivals) ++ line_text (place_text (get_or arrivals i d)) ≡ place_lines (take (i + 1) arrivals)
lines_more arrivals i d h =
    flat_map_more (λ a. line_text (place_text a)) [] (take i arrivals) (get_or arrivals i d) ∙ sym (ap place_lines (take_more arrivals i d h))

pub lines_all : (arrivals : List Arrival) (i : ℕ) → length arrivals ≤ i → place_lines (take i arrivals) ≡ place_lines arrivals
lines_all arrivals i h = ap place_lines (take_all i arrivals h)
