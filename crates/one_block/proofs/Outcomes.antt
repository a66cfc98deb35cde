-- What is seen of a block, and what has to be read of it.
use Rattle.std.proofs.Common.{◌≡◌, ℕ, zero, suc, ◌+◌, ◌<◌, Bool, true, false, cond, List, ◌∷◌, map, length, get_or, Some, None, sym, refl, ap, ◌∙◌, ap₂, arith}
use Rattle.std.specs.List.{range_with_len}
use Rattle.std.proofs.lemmas.List.{get_or-map, length-map}
use Rattle.std.proofs.lemmas.Bool.Decides.{nat_tests}
use Rattle.coding.specs.Word.{checks, reading_of, last_bit_inverted}
use Rattle.coding.proofs.Making.{inverted_spoils}
use Rattle.one_block.specs.Passage.{marked, arriving, passages, readings, outcomes}

-- two functions that agree on the numbers counted
map_alike : {X : Type 0} (f g : ℕ → X) (a n : ℕ) → ((i : ℕ) → i < a + n → f i ≡ g i) → map f (range_with_len a n) ≡ map g (range_with_len a n)
map_alike f g a zero same = refl
map_alike f g a (suc n) same = ap₂ ◌∷◌ (same a (omega arith)) (map_alike f g (a + 1) n (λ i h. same i (omega arith)))

-- a word that reads as a content is spoiled where its last bit is inverted, and else arrives as it was sent
reads_as : (word content : ℕ) (mark : Bool) → reading_of word ≡ Some content → reading_of (cond mark (last_bit_inverted word) word) ≡ cond mark None (Some content)
reads_as word content true e = inverted_spoils word (let t : checks word ≡ true = grind (arith, nat_tests) in t)
reads_as word content false e = e

pub outcome : (marks : ℕ) (words contents : List ℕ) → length words ≡ 12 → map reading_of words ≡ map Some contents → readings (passages marks words) ≡ outcomes marks contents
unfolding passages outcomes
outcome marks words contents size read =
    map_alike (λ i. reading_of (arriving marks (i + 1) (get_or words i 0))) (λ i. cond (marked marks (i + 1)) None (Some (get_or contents i 0))) 0 12
    (λ i h.
    let long : length contents ≡ 12 = sym (length-map contents Some) ∙ ap length (sym read) ∙ length-map words reading_of ∙ size in
    let at : reading_of (get_or words i 0) ≡ Some (get_or contents i 0) =
    sym (get_or-map reading_of words i 0 None (omega arith)) ∙ ap (λ rs. get_or rs i None) read ∙ get_or-map Some contents i 0 None (omega arith) in
    reads_as (get_or words i 0) (get_or contents i 0) (marked marks (i + 1)) at)
