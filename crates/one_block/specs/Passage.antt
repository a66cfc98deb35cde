-- A block on its way.
use Rattle.std.specs.Prelude.{ℕ, ◌+◌, ◌-◌, ◌/◌, ◌%◌, ◌^◌, Bool, cond, List, map, Some, None, Option, ◌==◌, slice_index}
use Rattle.std.specs.List.{range_with_len}
use Rattle.answers.specs.declared.parts.Arrival.{Arrival}
use Rattle.coding.specs.Word.{reading_of, last_bit_inverted}

-- Whether a place, 1 to 12, is marked: the mark of place 1 is the highest of twelve bits.
abbrev pub marked : ℕ → ℕ → Bool
marked marks place = marks / 2 ^ (12 - place) % 2 == 1

-- At a marked place the last bit is inverted on the way.
abbrev pub arriving : ℕ → ℕ → ℕ → ℕ
arriving marks place word = cond (marked marks place) (last_bit_inverted word) word

-- What is seen at a place where a word is sent.
abbrev pub passage_of : ℕ → ℕ → ℕ → Arrival
passage_of marks place word = record { place = place; sent = word; arrived = arriving marks place word; reading = reading_of (arriving marks place word) }

-- The twelve places of a block.
unfoldable pub passages : ℕ → List ℕ → List Arrival
passages marks words = map (λ i. passage_of marks (i + 1) (slice_index words i)) (range_with_len 0 12)

-- What is read at each place.
abbrev pub readings : List Arrival → List (Option ℕ)
readings arrivals = map (λ a. a.reading) arrivals

-- What has to be read at each place: a spoiled number where it is marked, and elsewhere the content that was sent there.
unfoldable pub outcomes : ℕ → List ℕ → List (Option ℕ)
outcomes marks contents = map (λ i. cond (marked marks (i + 1)) None (Some (slice_index contents i))) (range_with_len 0 12)
