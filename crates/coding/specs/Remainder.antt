-- The remainder of a content's first n bits, worked out bit by bit. A content has twenty bits, and bit 1 is its highest.
use Rattle.std.specs.Prelude.{ℕ, zero, suc, ◌-◌, ◌*◌, ◌/◌, ◌%◌, ◌^◌, cond, bit_xor, nat_lt}
use Rattle.coding.specs.Polynomial.{divisor}

-- The first n bits of a content, as a number; n is from 0 to 20.
abbrev pub first : ℕ → ℕ → ℕ
first n content = content / 2 ^ (20 - n)

-- Bit n of a content: the last of its first n bits.
abbrev pub bit : ℕ → ℕ → ℕ
bit n content = first n content % 2

-- What a polynomial of degree 8 or less leaves: the divisor is taken off once, if it goes in.
abbrev pub reduced : ℕ → ℕ
reduced s = cond (nat_lt s (2 ^ 8)) s (bit_xor s divisor)

-- The remainder of the first n bits times X^8. No bits have remainder 0. With one bit more, the remainder so far is
-- multiplied by X, and the new bit stands before X^8.
unfoldable pub remainder_of : ℕ → ℕ → ℕ
remainder_of content zero = 0
remainder_of content (suc n) = reduced (bit_xor (remainder_of content n * 2) (bit (suc n) content * 2 ^ 8))
