-- Words worked out by hand.
use Rattle.std.specs.Prelude.{◌≡◌, ℕ, Bool, true, not, ◌&&◌, List, [], ◌∷◌, Some, None, Option, ◌==◌}
use Rattle.std.specs.List.{list_all}
use Rattle.coding.specs.Word.{word_of, checks}

-- A number, and the content whose word it is, if it is one. 60015 is an acknowledgement unit with no indicator set, which
-- acknowledges block 2 and stands in block 5.
abbrev pub examples : List (ℕ × Option ℕ)
examples =
    (0x00000FF, Some 0x00000) ∷ (0x00001F8, Some 0x00001) ∷ (0x0008076, Some 0x00080) ∷ (0x000FF0C, Some 0x000FF)
    ∷ (0x60015E9, Some 0x60015) ∷ (0x00001F9, None) ∷ (0x100001F8, None) ∷ []

-- An example agrees with the definitions where its content makes its number, which checks; and where it has no content, its
-- number does not check.
abbrev pub agrees : ℕ → Option ℕ → Bool
agrees number (Some content) = word_of content == number && checks number
agrees number None = not (checks number)

abbrev pub all_agree : List (ℕ × Option ℕ) → Bool
all_agree rows = list_all (λ row. agrees row.0 row.1) rows

abbrev pub ExamplesAgree : Type 0
ExamplesAgree = all_agree examples ≡ true
