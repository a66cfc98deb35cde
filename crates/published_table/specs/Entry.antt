-- An entry of a table of remainders.
use Rattle.std.specs.Prelude.{ℕ, ◌%◌, ◌^◌, Bool, false, Some, None, Option, ◌==◌}
use Rattle.coding.specs.Word.{inverted, word_of}

-- An entry shows the remainder of a content where it can be read, and is the last eight bits of the content's word, each
-- inverted.
abbrev pub shows_remainder : ℕ → Option ℕ → Bool
shows_remainder content None = false
shows_remainder content (Some remainder) = remainder == inverted (word_of content % 2 ^ 8)
