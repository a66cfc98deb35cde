-- A number, read digit by digit.
use Rattle.std.proofs.Common.{◌≡◌, ℕ, List, [], ◌∷◌, Some, None, Option, Iter, sym, refl, ap, ◌∙◌, subst, arith}
use Rattle.std.proofs.lemmas.Fn.{fronts}
use Rattle.std.proofs.lemmas.List.{drop_all}
use Rattle.std.specs.ControlFlow.{continue_value}
use Rattle.std.specs.Iterator.{Yields, TryFoldTurn, TryFoldsItems}
use Rattle.std.specs.List.{FoldsTo}
use Rattle.std.specs.Fn.{Called}
use denote.Param.Members.{Mut}
use denote.Ref.{Bor}
use Rattle.text.specs.Number.{digit_of, appended, number_from}

-- what has failed stays so
number_none : (base : ℕ) (bs : List ℕ) → number_from base None bs ≡ None
number_none base [] = refl
number_none base (b ∷ bs) = refl

-- calls of a closure that puts one digit more behind a number
module _ {F : Type 0} (E : Type 0) (g : Mut F (ℕ × (Bor ℕ × Unit {0})) (Option ℕ)) (f : F) (base : ℕ)
    (appends : (number : ℕ) (byte : Bor ℕ) (r : Option ℕ) (q : F) → Called g f (number, (byte, tt)) r q → (q ≡ f) × (r ≡ appended base number (digit_of byte.now))) where
  abbrev Turns : F × ℕ → List (Bor ℕ) → F × ℕ → Type 0
  Turns = FoldsTo (TryFoldTurn {E = E} g (λ v k. v ≡ continue_value k))

  -- what is left makes the number of the whole
  read_on : (xs : List (Bor ℕ)) (s t : Iter ℕ) (number total : ℕ) (q : F) → Yields fronts s xs t → Turns (f, number) xs (q, total) → (q ≡ f) × (number_from base (Some number) s.rest.now ≡ number_from base (Some total) t.rest.now)
  read_on [] s t number total q same stays =
      (sym (ap (λ p. p.0) stays), ap (λ i. number_from base (Some number) i.rest.now) same ∙ ap (λ p. number_from base (Some p.1) t.rest.now) stays)
  read_on (x ∷ xs) s t number total q (j, here, ys) (p, (v, called, goes), turns) =
      let turn = appends number x v p.0 called in
      let later = read_on xs j t p.1 total q ys (subst (λ k. Turns (k, p.1) xs (q, total)) turn.0 turns) in
      (later.0, cc)

  pub number_read : (s u : Iter ℕ) (r : Option ℕ) → TryFoldsItems fronts {E = E} g (λ v k. v ≡ continue_value k) (λ e o. o ≡ None) s f 0 r u → r ≡ number_from base (Some 0) s.rest.now
  number_read s u r (xs, None, q, total, (t, ys, stops), turns, is) =
      let so_far = read_on xs s t 0 total q ys turns in
      let ended = drop_all 0 t.rest.now (omega arith) in
      cc
  number_read s u r (xs, Some x, q, total, (t, ys, here), turns, (v, h, e, called, fails, is)) =
      let so_far = read_on xs s t 0 total q ys turns in
      let turn = appends total x v h (subst (λ k. Called g k (total, (x, tt)) v h) so_far.0 called) in
      let none = number_none base u.rest.now in
      cc
