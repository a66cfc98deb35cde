-- Arrays whose elements a closure gives, one for each index.
use Rattle.std.proofs.Common.{◌≡◌, ℕ, zero, suc, ◌+◌, ◌<◌, ◌≤◌, List, get_or, sym, subst, ⊎_elim, arith}
use Rattle.std.proofs.lemmas.Bool.{cases_lt}
use Rattle.std.specs.Array.{IsFromFnResult, IsFromFnResultFrom}
use denote.Param.Members.{Mut, Called}

-- A call leaves the closure as it was, with its captured values. So each element has what a call at its index gives.
module _ {F B : Type 0} (g : Mut F (ℕ × Unit {0}) B) (f : F) (Gives : ℕ → B → Type 0)
    (call : (i : ℕ) (y : B) (after : F) → Called g f (i, tt) y after → Gives i y × (after ≡ f)) (ys : List B) where
  each_from : (i n : ℕ) → IsFromFnResultFrom g f ys i n → (k : ℕ) (d : B) → i ≤ k → k < i + n → Gives k (get_or ys k d)
  each_from i zero r k d low high = absurd (omega arith)
  each_from i (suc n) r k d low high =
      let made = call i r.1 r.0 r.3 in
      ⊎_elim
      (λ more. each_from (i + 1) n (subst (λ p. IsFromFnResultFrom g p ys (i + 1) n) made.1 r.4) k d (omega arith) (omega arith))
      (λ here. let at : i ≡ k = omega arith in subst (λ j. Gives j (get_or ys j d)) at (subst (Gives i) (sym (r.2.1 d)) made.0))
      (cases_lt i k)

  pub each_given : (n : ℕ) → IsFromFnResult g f ys n → (k : ℕ) (d : B) → k < n → Gives k (get_or ys k d)
  each_given n r k d below = each_from 0 n r.each k d (omega arith) (omega arith)
