-- Numbers written in hexadecimal.
use Rattle.std.specs.Prelude.{ℕ, zero, suc, ◌+◌, ◌/◌, ◌%◌, ◌^◌, cond, List, [], ◌∷◌, nat_lt}

-- The byte of a hexadecimal digit: `0` to `9`, and then the capitals `A` to `F`.
abbrev pub glyph : ℕ → ℕ
glyph digit = cond (nat_lt digit 10) (48 + digit) (55 + digit)

-- The last k hexadecimal digits of a number, leading zeros with them.
unfoldable pub hex_of : ℕ → ℕ → List ℕ
hex_of zero number = []
hex_of (suc k) number = glyph (number / 16 ^ k % 16) ∷ hex_of k number
