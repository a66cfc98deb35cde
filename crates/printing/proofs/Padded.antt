-- What `{:0k$X}` writes of the last k hexadecimal digits of a number is `hex_of k` of the number.
use Rattle.std.proofs.Common.{◌≡◌, ℕ, zero, suc, ◌+◌, ◌-◌, ◌*◌, ◌/◌, ◌%◌, ◌^◌, ◌<◌, true, false, List, [], ◌∷◌, ◌++◌, length, replicate, refl, sym, ap, ◌∙◌, ⊎_elim, arith, pow-suc, append-nil, div-one}
use Rattle.std.proofs.Math.Nat.{zero-div, div-div-eq-div-mul, pow-succ', one-le-pow, mod-le}
use Rattle.std.proofs.lemmas.Nat.{mod_below}
use Rattle.std.proofs.Math.Arith.{mod-mul}
use Rattle.std.proofs.DigitsParse.{digits_onto-nil, digits_onto_last, digits_onto_step}
use Rattle.std.proofs.lemmas.Bool.{cases_lt}
use Rattle.std.proofs.Padding.{padded_integral_zeros}
use Rattle.std.specs.Fmt.{digits, digits_onto, padded_integral, format_spec}
use Rattle.printing.specs.Hex.{glyph, hex_of}

-- the last digit stands last
hex_last : (k n : ℕ) (rest : List ℕ) → hex_of (suc k) n ++ rest ≡ hex_of k (n / 16) ++ glyph (n % 16) ∷ rest
unfolding hex_of
hex_last zero n rest = ap (λ m. glyph (m % 16) ∷ rest) (div-one n)
hex_last (suc k) n rest =
    let shorter = ap (λ m. n / m) (pow-succ' 16 k) ∙ sym (div-div-eq-div-mul n 16 (16 ^ k)) in
    λ i. glyph (shorter i % 16) ∷ hex_last k n rest i

hex_zeros : (k : ℕ) → hex_of k 0 ≡ replicate k 48
unfolding hex_of
hex_zeros zero = refl
hex_zeros (suc k) = λ i. glyph (zero-div (16 ^ k) i % 16) ∷ hex_zeros k i

-- the digits further left do not matter
hex_mod : (k n : ℕ) (rest : List ℕ) → hex_of k (n % 16 ^ k) ++ rest ≡ hex_of k n ++ rest
unfolding hex_of
hex_mod zero n rest = refl
hex_mod (suc k) n rest =
    let split : n % 16 ^ suc k ≡ (n / 16 % 16 ^ k) * 16 + n % 16 = ap (λ p. n % p) (pow-suc 16 k) ∙ mod-mul n (one-le-pow k 16 (omega arith)) (omega arith) in
    let front : n % 16 ^ suc k / 16 ≡ n / 16 % 16 ^ k = omega arith in
    let last : n % 16 ^ suc k % 16 ≡ n % 16 = omega arith in
    rw (hex_last k (n % 16 ^ suc k) rest, hex_last k n rest, front, last) (hex_mod k (n / 16) (glyph (n % 16) ∷ rest))

-- the digits of n, `room` of them at most, with zeros before them and the rest after them, w bytes in all
abbrev IsPadded : ℕ → ℕ → ℕ → ℕ → List ℕ → Type 0
IsPadded w k room n rest = replicate (w - length (digits_onto room 16 true n rest)) 48 ++ digits_onto room 16 true n rest ≡ hex_of k n ++ rest

one_digit : (w k room n : ℕ) (rest : List ℕ) → w ≡ suc k + length rest → n < 16 → IsPadded w (suc k) (suc room) n rest
one_digit w k room n rest whole low =
    let none : n / 16 ≡ 0 = omega arith in
    let left : w - suc (length rest) ≡ k = omega arith in
    rw (digits_onto_last 16 true n rest (suc room) (omega arith) none, left, hex_last k n rest, none, hex_zeros k)

padded : (w k room n : ℕ) (rest : List ℕ) → w ≡ suc k + length rest → n < 16 ^ suc k → n < 16 ^ suc room → IsPadded w (suc k) (suc room) n rest
padded w zero room n rest whole small fits = one_digit w zero room n rest whole small
padded w (suc k) zero n rest whole small fits = one_digit w (suc k) zero n rest whole fits
padded w (suc k) (suc room) n rest whole small fits = ⊎_elim (one_digit w (suc k) (suc room) n rest whole)
    (λ high.
    let less : suc (suc room) - 1 ≡ suc room = omega arith in
    rw (digits_onto_step 16 true n rest (suc (suc room)) (omega arith) (λ e. omega arith), less, hex_last (suc k) n rest)
    (padded w k room (n / 16) (glyph (n % 16) ∷ rest) (omega arith) (omega arith) (omega arith)))
    (cases_lt n 16)

pub padded_hex : (k n : ℕ) → 0 < k → n < 2 ^ 64 → padded_integral (format_spec 32 0 4 k (2 ^ 64 - 1)) false [] (digits 16 true (n % 16 ^ k)) ≡ hex_of k n
padded_hex zero n some small = absurd (omega arith)
padded_hex (suc k) n some small =
    let m : ℕ = n % 16 ^ suc k in
    let fits : m < 16 ^ suc k = mod_below n (16 ^ suc k) (one-le-pow (suc k) 16 (omega arith)) in
    padded_integral_zeros (format_spec 32 0 4 (suc k) (2 ^ 64 - 1)) (digits 16 true m) refl refl
    ∙ rw (← digits_onto-nil 16 true m) (padded (suc k) k 63 m [] (omega arith) fits (omega (arith, mod-le n (16 ^ suc k))))
    ∙ hex_mod (suc k) n [] ∙ append-nil (hex_of (suc k) n)
