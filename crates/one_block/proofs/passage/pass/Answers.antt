use Rattle.std.proofs.Common.{◌≡◌, ◌+◌, map, length, get_or, rules, ◌∙◌, ap}
use Rattle.coding.specs.Word.{reading_of}
use Rattle.std.proofs.lemmas.List.FromFn.{fill_by_all}
use Rattle.blocks.proofs.Arrays.{each_given}
use Rattle.one_block.specs.Passage.{passage_of, passages, readings}
use Rattle.one_block.proofs.Outcomes.{outcome}
use Rattle.one_block.proofs.passage.pass.Goals as goal

-- what is seen at each place is what passes there
all_pass : (c : goal.After-from_fn) → c.from_fn.result ≡ passages c.args.order.marks c.send-words.result
unfolding passages
all_pass c =
    let marks = c.args.order.marks in
    let words = c.send-words.result in
    fill_by_all (λ i. passage_of marks (i + 1) (get_or words i 0)) c.from_fn.result 12 (passage_of 0 0 0) c.from_fn.ensures.items.long
    (λ i h.
    each_given _ _ (λ i a. a ≡ passage_of marks (i + 1) (get_or words i 0)) (λ i a after k. search rules)
    c.from_fn.result 12 c.from_fn.ensures.items i (passage_of 0 0 0) h)

pub returns : goal.returns
returns c =
    let is = c.send-words.ensures.value in
    let size : length c.send-words.result ≡ 12 = search rules in
    record {
      seen = all_pass c ∙ ap (passages c.args.order.marks) (is ∙ c.close.ensures.words);
      outcome = ap readings (all_pass c) ∙ outcome c.args.order.marks c.send-words.result _ size (ap (map reading_of) is ∙ c.close.ensures.reads);
    }
