-- The product of polynomials.
use Rattle.std.proofs.Common.{◌≡◌, ℕ, zero, suc, ◌+◌, ◌*◌, ◌/◌, ◌%◌, ◌^◌, ◌<◌, ◌≤◌, sym, refl, ap, ◌∙◌, ap₂, zero-mul, arith}
use native.Mathlib.Decide.{le_ind}
use native.Mathlib.Nat.{pow-le-pow_right, two-pow-succ}
use lib.Bits.{bit_xor, xor_comm, xor_lt, xor_mod, xor_self, xor_shr, xor_zero_r}
use Rattle.coding.specs.Polynomial.{divisor, product, times}
use Rattle.coding.proofs.Sums.{sum_shift, sum_moved, sum_crossed}

-- ---- coefficients that are left out

-- a number has fewer binary digits than itself
digits_few : (n : ℕ) → n < 2 ^ n
digits_few zero = omega arith
digits_few (suc n) = let h = digits_few n in let e = two-pow-succ n in omega arith

-- a coefficient above the highest one adds nothing
product_idle : (k q p : ℕ) → q < 2 ^ k → product (suc k) q p ≡ product k q p
unfolding product
product_idle zero q p h =
    let none : q % 2 * p ≡ 0 = ap (λ x. x * p) (let e : q % 2 ≡ 0 = omega arith in e) ∙ zero-mul p in
    ap (λ x. bit_xor x (0 * 2)) none
product_idle (suc k) q p h =
    let e = two-pow-succ k in
    ap (λ x. bit_xor (q % 2 * p) (x * 2)) (product_idle k (q / 2) p (omega arith))

-- so any number of coefficients does that is not too small
times_is : (q p k : ℕ) → q ≤ k → product k q p ≡ times q p
times_is q p =
    le_ind (λ k. product k q p ≡ times q p) refl
    (λ k h e.
    let wide : 2 ^ q ≤ 2 ^ k = pow-le-pow_right (omega arith) h in
    let few = digits_few q in
    product_idle k q p (omega arith) ∙ e)

-- one coefficient more at the low end
pub times_more : (q t p : ℕ) → t < 2 → times (q * 2 + t) p ≡ bit_xor (t * p) (times q p * 2)
unfolding product
times_more q t p h =
    let low : (q * 2 + t) % 2 ≡ t = omega arith in
    let high : (q * 2 + t) / 2 ≡ q = omega arith in
    sym (times_is (q * 2 + t) p (suc (q * 2 + t)) (omega arith))
    ∙ ap₂ (λ x y. bit_xor (x * p) (product (q * 2 + t) y p * 2)) low high
    ∙ ap (λ x. bit_xor (t * p) (x * 2)) (times_is q p (q * 2 + t) (omega arith))

-- ---- the product with a sum is the sum of the products

by_bits : (x y p : ℕ) → x < 2 → y < 2 → bit_xor (x * p) (y * p) ≡ bit_xor x y * p
by_bits zero y p h k = ap (λ x. bit_xor x (y * p)) (zero-mul p)
by_bits (suc zero) zero p h k = ap (bit_xor (1 * p)) (zero-mul p) ∙ xor_zero_r (1 * p)
by_bits (suc zero) (suc zero) p h k = xor_self (1 * p) ∙ sym (zero-mul p)
by_bits (suc zero) (suc (suc y)) p h k = absurd (omega arith)
by_bits (suc (suc x)) y p h k = absurd (omega arith)

product_sum : (k a b p : ℕ) → bit_xor (product k a p) (product k b p) ≡ product k (bit_xor a b) p
unfolding product
product_sum zero a b p = refl
product_sum (suc k) a b p =
    sum_crossed (a % 2 * p) (product k (a / 2) p * 2) (b % 2 * p) (product k (b / 2) p * 2)
    ∙ ap₂ bit_xor
    (by_bits (a % 2) (b % 2) p (omega arith) (omega arith) ∙ ap (λ x. x * p) (sym (xor_mod a b 1)))
    (sym (sum_shift 1 (product k (a / 2) p) (product k (b / 2) p))
    ∙ ap (λ x. x * 2) (product_sum k (a / 2) (b / 2) p ∙ ap (λ x. product k x p) (sym (xor_shr a b 1))))

-- ---- a multiple of the divisor that has degree below 8 is 0

product_low : (k q : ℕ) → product k q divisor < 2 ^ 8 → product k q divisor ≡ 0
unfolding product
product_low zero q h = refl
product_low (suc k) q h =
    let rest = product k (q / 2) divisor in
    let low = q % 2 * divisor in
    let whole = bit_xor low (rest * 2) in
    let same : rest * 2 / 2 ≡ rest = omega arith in
    let half : whole / 2 ≡ bit_xor (low / 2) rest = xor_shr low (rest * 2) 1 ∙ ap (bit_xor (low / 2)) same in
    let back : rest ≡ bit_xor (whole / 2) (low / 2) = sum_moved (whole / 2) rest (low / 2) (half ∙ xor_comm (low / 2) rest) in
    let small : bit_xor (whole / 2) (low / 2) < 2 ^ 8 = xor_lt 8 (whole / 2) (low / 2) (omega arith) (omega arith) in
    let none : rest ≡ 0 = product_low k (q / 2) (omega arith) in
    let left : whole ≡ low = ap (λ x. bit_xor low (x * 2)) none ∙ xor_zero_r low in
    omega arith

-- two multiples of the divisor whose sum has degree below 8 are equal
pub times_apart : (q s : ℕ) → bit_xor (times q divisor) (times s divisor) < 2 ^ 8 → bit_xor (times q divisor) (times s divisor) ≡ 0
times_apart q s h =
    let k = q + s in
    let one = times_is q divisor k (omega arith) in
    let other = times_is s divisor k (omega arith) in
    let sum : bit_xor (times q divisor) (times s divisor) ≡ product k (bit_xor q s) divisor =
    ap₂ bit_xor (sym one) (sym other) ∙ product_sum k q s divisor in
    sum ∙ product_low k (bit_xor q s) (omega arith)
