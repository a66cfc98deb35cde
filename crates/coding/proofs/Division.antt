-- The remainder that is worked out bit by bit is the remainder of a division, and there is no other.
use Rattle.std.proofs.Common.{◌≡◌, ℕ, zero, suc, ◌+◌, ◌-◌, ◌*◌, ◌/◌, ◌^◌, ◌<◌, ◌≤◌, sym, refl, ap, ◌∙◌, subst, ap₂, ⊎_elim, arith}
use lib.Bits.{bit_xor, xor_assoc, xor_comm, xor_lt, xor_shr, xor_zero_r}
use Rattle.std.proofs.lemmas.Nat.{shr-shr}
use Rattle.std.proofs.lemmas.Bool.{cases_lt, cond_above, cond_below}
use Rattle.coding.specs.Polynomial.{divisor, product, times, Remains, OnlyRemainder}
use Rattle.coding.specs.Remainder.{first, bit, reduced, remainder_of}
use Rattle.coding.proofs.Products.{times_apart, times_more}
use Rattle.coding.proofs.Sums.{sum_cancel, sum_moved, sum_shift}

-- ---- no other

pub only : (a r s : ℕ) → Remains a r → Remains a s → r ≡ s
only a r s f g =
    let p = times f.1 divisor in
    let q = times g.1 divisor in
    let p_is : p ≡ bit_xor a r = sum_moved a p r f.2 in
    let q_is : q ≡ bit_xor s a = sum_moved a q s g.2 ∙ xor_comm a s in
    let sum : bit_xor p q ≡ bit_xor r s = ap₂ bit_xor p_is q_is ∙ sum_cancel a r s in
    let small : bit_xor r s < 2 ^ 8 = xor_lt 8 r s f.0 g.0 in
    let none : bit_xor p q ≡ 0 = times_apart f.1 g.1 (omega arith) in
    sum_moved (bit_xor r s) r s refl ∙ ap (λ x. bit_xor x s) (sym sum ∙ none)

-- ---- one bit more

first_more : (n content : ℕ) → n < 20 → first (suc n) content ≡ first n content * 2 + bit (suc n) content
first_more n content h =
    let e : 20 - n ≡ (20 - suc n) + 1 = omega arith in
    let half : first n content ≡ first (suc n) content / 2 = ap (λ j. content / 2 ^ j) e ∙ sym (shr-shr content (20 - suc n) 1) in
    omega arith

reduced_low : (s : ℕ) → s < 2 ^ 8 → s ≡ reduced s
reduced_low s h = cond_below s (2 ^ 8) s (bit_xor s divisor) h

reduced_high : (s : ℕ) → 2 ^ 8 ≤ s → bit_xor s divisor ≡ reduced s
reduced_high s h = cond_above s (2 ^ 8) s (bit_xor s divisor) (bit_xor s divisor) h refl

-- The divisor went into s t times, and left degree below 8.
abbrev Went : ℕ → ℕ → Type 0
Went s t = (t < 2) × (reduced s < 2 ^ 8) × (reduced s ≡ bit_xor s (t * divisor))

went : (s : ℕ) → s < 2 ^ 9 → (t : ℕ) × Went s t
went s h =
    ⊎_elim
    (λ low. let is = reduced_low s low in (0, (omega arith, omega arith, sym is ∙ sym (xor_zero_r s))))
    (λ high.
    let is = reduced_high s high in
    let top : s / 2 ^ 8 ≡ 1 = omega arith in
    let gone : bit_xor s divisor / 2 ^ 8 ≡ 0 = xor_shr s divisor 8 ∙ ap (λ x. bit_xor x 1) top in
    (1, (omega arith, omega arith, sym is)))
    (cases_lt s (2 ^ 8))

-- ---- there is a quotient

-- The remainder worked out from the first n bits is what remains of them, times X^8.
pub divides : (content : ℕ) → content < 2 ^ 20 → (n : ℕ) → n ≤ 20 → Remains (times (first n content) (2 ^ 8)) (remainder_of content n)
unfolding remainder_of product
divides content short zero h =
    let none : first 0 content ≡ 0 = omega arith in
    (omega arith, 0, ap (λ x. times x (2 ^ 8)) none)
divides content short (suc n) h =
    let so_far = divides content short n (omega arith) in
    let r = remainder_of content n in
    let b = bit (suc n) content in
    let s = bit_xor (r * 2) (b * 2 ^ 8) in
    let q = so_far.1 in
    let a = times q divisor in
    let digit : b < 2 = omega arith in
    let w = went s (xor_lt 9 (r * 2) (b * 2 ^ 8) (omega arith) (omega arith)) in
    let t = w.0 in
    let all : times (first (suc n) content) (2 ^ 8) ≡ bit_xor (a * 2) s =
    ap (λ x. times x (2 ^ 8)) (first_more n content h) ∙ times_more (first n content) b (2 ^ 8) digit
    ∙ ap (λ x. bit_xor (b * 2 ^ 8) (x * 2)) so_far.2 ∙ ap (bit_xor (b * 2 ^ 8)) (sum_shift 1 a r)
    ∙ xor_comm (b * 2 ^ 8) (bit_xor (a * 2) (r * 2)) ∙ xor_assoc (a * 2) (r * 2) (b * 2 ^ 8) in
    let back = ap₂ bit_xor (times_more q t divisor w.1.0) w.1.2 ∙ sum_cancel (t * divisor) (a * 2) s in
    (w.1.1, q * 2 + t, all ∙ sym back)

-- It is the only one.
pub divides_only : (content n r : ℕ) → content < 2 ^ 20 → n ≤ 20 → r ≡ remainder_of content n → OnlyRemainder (times (first n content) (2 ^ 8)) r
unfolding OnlyRemainder
divides_only content n r short h is =
    let remains = subst (Remains (times (first n content) (2 ^ 8))) (sym is) (divides content short n h) in
    (remains, λ s other. only _ s _ other remains)

-- ---- the remainder as it is worked out

pub remainder_none : (content n : ℕ) → n ≡ 0 → 0 ≡ remainder_of content n
unfolding remainder_of
remainder_none content n e = ap (remainder_of content) (sym e)

remainder_more : (content n : ℕ) → (n ≡ 0 → ⊥) → remainder_of content n ≡ reduced (bit_xor (remainder_of content (n - 1) * 2) (bit n content * 2 ^ 8))
unfolding remainder_of
remainder_more content zero some = absurd (some refl)
remainder_more content (suc n) some =
    let back : n ≡ suc n - 1 = omega arith in
    ap (λ k. reduced (bit_xor (remainder_of content k * 2) (bit (suc n) content * 2 ^ 8))) back

-- from the remainder of the bits before
pub remainder_next : (content n before : ℕ) → (n ≡ 0 → ⊥) → before ≡ remainder_of content (n - 1) → reduced (bit_xor (before * 2) (bit n content * 2 ^ 8)) ≡ remainder_of content n
remainder_next content n before some is =
    ap (λ r. reduced (bit_xor (r * 2) (bit n content * 2 ^ 8))) is ∙ sym (remainder_more content n some)

-- which has eight bits
pub next_below : (content n before : ℕ) → content < 2 ^ 20 → n ≤ 20 → (n ≡ 0 → ⊥) → before ≡ remainder_of content (n - 1) → reduced (bit_xor (before * 2) (bit n content * 2 ^ 8)) < 2 ^ 8
next_below content n before short h some is =
    subst (λ r. r < 2 ^ 8) (sym (remainder_next content n before some is)) (divides content short n h).0
