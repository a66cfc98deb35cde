use Rattle.std.proofs.Common.{◌≡◌, ◌<◌, ◌≤◌, ℕ, true, map, arith, length, get_or, rules, sym, ◌∙◌, Some}
use Rattle.std.proofs.lemmas.Bool.{eq-eqb}
use Rattle.coding.specs.Word.{word_of, reading_of}
use Rattle.blocks.specs.Block.{contents_of, block_of, is_acu}
use Rattle.blocks.proofs.Arrays.{each_given}
use Rattle.blocks.proofs.Places.{twelve, words_made, words_read, reads_sound}
use Rattle.blocks.proofs.moves.OpenBlock.close.Goals as goal

-- the block has room for the ACU, and w is the word of the content at place i, counted from 0, and can be read
abbrev Made : goal.After-from_fn → ℕ → ℕ → Type 0
Made c i w =
    let content = get_or (contents_of c.args.self c.content-acu.result) i 0 in
    (length c.args.self.contents ≤ 11) × (w ≡ word_of content) × (reading_of w ≡ Some content)

each : (c : goal.After-from_fn) (i : ℕ) → i < 12 → Made c i (get_or c.from_fn.result i 0)
each c = λ i h. each_given _ _ (Made c) (λ i w after k. search rules) c.from_fn.result 12 c.from_fn.ensures.items i 0 h

words : (c : goal.After-from_fn) → c.from_fn.result ≡ block_of c.args.self c.content-acu.result
words c =
    let full = twelve c.args.self c.content-acu.result (each c 0 (omega arith)).0 in
    words_made c.from_fn.result (contents_of c.args.self c.content-acu.result) (c.from_fn.ensures.items.long ∙ sym full) (λ i h. (each c i (omega arith)).1)

reads : (c : goal.After-from_fn) → map reading_of c.from_fn.result ≡ map Some (contents_of c.args.self c.content-acu.result)
reads c =
    let full = twelve c.args.self c.content-acu.result (each c 0 (omega arith)).0 in
    words_read c.from_fn.result (contents_of c.args.self c.content-acu.result) (c.from_fn.ensures.items.long ∙ sym full) (λ i h. (each c i (omega arith)).2)

pub invariant_of-result : goal.invariant_of-result
invariant_of-result c =
    let acu : is_acu c.content-acu.result ≡ true = eq-eqb _ _ c.content-acu.ensures.layout.0 in
    reads_sound c.from_fn.result c.args.self c.content-acu.result (each c 0 (omega arith)).0 acu (reads c)

pub returns : goal.returns
returns c =
    let is = c.content-acu.ensures.value in
    record { words = rw is at (words c); reads = rw is at (reads c) }
