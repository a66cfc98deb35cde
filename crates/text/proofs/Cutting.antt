-- A line cut at its blanks.
use Rattle.std.proofs.Common.{◌≡◌, ℕ, ◌<◌, Bool, false, not, position, List, [], ◌∷◌, ◌++◌, length, get_or, take, drop, Some, None, sym, refl, ap, ◌∙◌, inl, inr, arith, append_assoc, append-nil, length-append, ◌+◌, ◌≤◌, not-suc-le-zero, one-add}
use Rattle.std.proofs.lemmas.Bool.{cases_Bool}
use Rattle.std.proofs.lemmas.List.{drop_all}
use Rattle.std.proofs.lemmas.List.Quantifiers.{position-Some}
use Rattle.std.proofs.lemmas.Grind.{common_steps}
use Rattle.std.specs.List.{position_or_len, take_while}
use Rattle.text.specs.Field.{blank, ended, fields_behind, fields_of}

-- a byte that is no blank
abbrev other : ℕ → Bool
other byte = not (blank byte)

-- how many bytes stand before the first blank
abbrev run_len : List ℕ → ℕ
run_len bs = length (take_while other bs)

-- blanks at the front are passed over
blanks_passed : (bs : List ℕ) → fields_of bs ≡ fields_of (drop (position_or_len other bs) bs)
blanks_passed [] = refl
blanks_passed (b ∷ bs) = elim (cases_Bool (blank b)) [ inl e ↦ simp (e, one-add) (blanks_passed bs) | inr e ↦ simp e ]

-- a run goes on to the first blank, or to the end of the line
run_ends : (run bs : List ℕ) → fields_behind run bs ≡ ended (run ++ take (run_len bs) bs) ++ fields_of (drop (run_len bs) bs)
run_ends run [] = simp append-nil
run_ends run (b ∷ bs) =
    elim (cases_Bool (blank b)) [ inl e ↦ simp (e, append-nil) | inr e ↦ simp (e, one-add) (simp append_assoc at (run_ends (run ++ b ∷ []) bs)) ]

-- a line that begins with a field
field_first : (bs : List ℕ) → 0 < length bs → blank (get_or bs 0 0) ≡ false → fields_of bs ≡ take (run_len bs) bs ∷ fields_of (drop (run_len bs) bs)
field_first [] some e = absurd (not-suc-le-zero some)
field_first (b ∷ bs) some e = simp (e, one-add) (run_ends (b ∷ []) bs)

-- a line of blanks alone
pub no_field : (line : List ℕ) → None ≡ position other line → fields_of line ≡ []
no_field line e = blanks_passed line ∙ ap fields_of (drop_all (position_or_len other line) line (grind (arith, common_steps, e)))

-- a line whose first byte that is no blank stands at n
pub one_field : (line : List ℕ) (n : ℕ) → Some n ≡ position other line → let rest = drop n line in fields_of line ≡ take (run_len rest) rest ∷ fields_of (drop (run_len rest) rest)
one_field line n e =
    let is : position_or_len other line ≡ n = grind (arith, common_steps, e) in
    let at = position-Some other line n 0 (sym e) in
    (rw is at (blanks_passed line)) ∙ field_first (drop n line) (grind (arith, common_steps, at)) (grind (arith, common_steps, at))

-- a line has no more fields than bytes
ended_le : (run : List ℕ) → length (ended run) ≤ 1
ended_le [] = omega arith
ended_le (b ∷ bs) = omega arith

behind_le : (run bs : List ℕ) → length (fields_behind run bs) ≤ length (ended run) + length bs
behind_le run [] = omega arith
behind_le run (b ∷ bs) = elim (cases_Bool (blank b)) [
  | inl e ↦ let rest = behind_le [] bs in simp (e, length-append) (omega arith)
  | inr e ↦ let rest = behind_le (run ++ b ∷ []) bs in let one = ended_le (run ++ b ∷ []) in simp e (omega arith)
]

pub fields_le : (line : List ℕ) → length (fields_of line) ≤ length line
fields_le line = let le = behind_le [] line in omega arith
