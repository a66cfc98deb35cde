-- Polynomials over bits, and what remains of one on division by X^8 + X^2 + X + 1.
-- A number stands for the polynomial whose coefficients are its binary digits: 0b1011 is X^3 + X + 1. So 2 ^ k is X^k,
-- a polynomial has degree below k where its number is below 2 ^ k, and the sum, which adds coefficients modulo 2, is
-- the exclusive or, `bit_xor`.
use Rattle.std.specs.Prelude.{◌≡◌, ℕ, zero, suc, ◌+◌, ◌*◌, ◌/◌, ◌%◌, ◌^◌, ◌<◌, bit_xor}

-- The product of p with the k lowest coefficients of q: the lowest one times p, plus X times the product with the rest.
unfoldable pub product : ℕ → ℕ → ℕ → ℕ
product zero q p = 0
product (suc k) q p = bit_xor (q % 2 * p) (product k (q / 2) p * 2)

-- The product of two polynomials. A number q has at most q binary digits, so none of its coefficients is left out.
abbrev pub times : ℕ → ℕ → ℕ
times q p = product q q p

-- X^8 + X^2 + X + 1
abbrev pub divisor : ℕ
divisor = 2 ^ 8 + 2 ^ 2 + 2 ^ 1 + 1

-- r remains of a on division by the divisor: its degree is below 8, and for some quotient q, a is q times the divisor
-- plus r.
abbrev pub Remains : ℕ → ℕ → Type 0
Remains a r = (r < 2 ^ 8) × (q : ℕ) × (a ≡ bit_xor (times q divisor) r)

-- r remains of a, and nothing else does.
unfoldable pub OnlyRemainder : ℕ → ℕ → Type 0
OnlyRemainder a r = Remains a r × ((s : ℕ) → Remains a s → s ≡ r)
