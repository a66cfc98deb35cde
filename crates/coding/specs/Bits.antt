-- Bits of a content by their places. Bit 1 is the highest of twenty.
use Rattle.std.specs.Prelude.{ℕ, ◌+◌, ◌-◌, ◌/◌, ◌%◌, ◌^◌}

-- The bits of a content from one place to another, both with it, as a number.
abbrev pub bits : ℕ → ℕ → ℕ → ℕ
bits from to content = content / 2 ^ (20 - to) % 2 ^ (to + 1 - from)
