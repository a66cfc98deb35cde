-- Numbers read from the bytes of a field.
use Rattle.std.specs.Prelude.{ℕ, ◌+◌, ◌-◌, ◌*◌, ◌^◌, Bool, cond, ◌&&◌, List, [], ◌∷◌, length, Some, None, Option, ◌==◌, nat_le, nat_lt}

-- The byte lies between two others.
abbrev pub between : ℕ → ℕ → ℕ → Bool
between low high byte = nat_le low byte && nat_le byte high

-- The value of a digit: `0` to `9`, `A` to `F` and `a` to `f`.
abbrev pub digit_of : ℕ → Option ℕ
digit_of byte =
    cond (between 48 57 byte) (Some (byte - 48)) (cond (between 65 70 byte) (Some (byte - 55)) (cond (between 97 102 byte) (Some (byte - 87)) None))

-- One digit more behind a number: it has to be a digit of the base, and what it makes has to fit 32 bits.
abbrev pub appended : ℕ → ℕ → Option ℕ → Option ℕ
appended base number None = None
appended base number (Some digit) = cond (nat_lt digit base && nat_lt (number * base + digit) (2 ^ 32)) (Some (number * base + digit)) None

-- The number that a list of bytes makes behind a number.
abbrev pub number_from : ℕ → Option ℕ → List ℕ → Option ℕ
number_from base number [] = number
number_from base None (b ∷ bs) = None
number_from base (Some number) (b ∷ bs) = number_from base (appended base number (digit_of b)) bs

-- The number that a field writes in a base; nothing where the field is empty, a byte is no digit of the base, or the number
-- does not fit 32 bits.
abbrev pub number_in : ℕ → List ℕ → Option ℕ
number_in base field = cond (length field == 0) None (number_from base (Some 0) field)
