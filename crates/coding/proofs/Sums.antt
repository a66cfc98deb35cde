-- Laws of the sum of polynomials, which is the exclusive or.
use Rattle.std.proofs.Common.{◌≡◌, ℕ, ◌*◌, ◌^◌, ◌<◌, sym, ap, ◌∙◌, ap₂, add-zero}
use lib.Bits.{bit_xor, xor_assoc, xor_block, xor_comm, xor_self, xor_zero_r}
use Rattle.std.proofs.lemmas.Nat.{pow_pos}

-- times a power of X
pub sum_shift : (j a b : ℕ) → bit_xor a b * 2 ^ j ≡ bit_xor (a * 2 ^ j) (b * 2 ^ j)
sum_shift j a b =
    let none : 0 < 2 ^ j = pow_pos j in
    sym (add-zero (bit_xor a b * 2 ^ j)) ∙ sym (xor_block j a b 0 0 none none)
    ∙ ap₂ bit_xor (add-zero (a * 2 ^ j)) (add-zero (b * 2 ^ j))

-- a term moves to the other side
pub sum_moved : (x y z : ℕ) → x ≡ bit_xor y z → y ≡ bit_xor x z
sum_moved x y z e = sym (ap (λ w. bit_xor w z) e ∙ xor_assoc y z z ∙ ap (bit_xor y) (xor_self z) ∙ xor_zero_r y)

-- the two middle terms change places
pub sum_crossed : (x y z w : ℕ) → bit_xor (bit_xor x y) (bit_xor z w) ≡ bit_xor (bit_xor x z) (bit_xor y w)
sum_crossed x y z w =
    xor_assoc x y (bit_xor z w)
    ∙ ap (bit_xor x) (sym (xor_assoc y z w) ∙ ap (λ v. bit_xor v w) (xor_comm y z) ∙ xor_assoc z y w)
    ∙ sym (xor_assoc x z (bit_xor y w))

-- a term that stands on both sides falls out
pub sum_cancel : (p a s : ℕ) → bit_xor (bit_xor p a) (bit_xor s p) ≡ bit_xor a s
sum_cancel p a s =
    sum_crossed p a s p ∙ ap (λ x. bit_xor x (bit_xor a p)) (xor_comm p s) ∙ sum_crossed s p a p
    ∙ ap (bit_xor (bit_xor s a)) (xor_self p) ∙ xor_zero_r (bit_xor s a) ∙ xor_comm s a
