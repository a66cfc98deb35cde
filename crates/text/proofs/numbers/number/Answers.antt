use Rattle.std.proofs.Common.{rules, tests, arith}
use Rattle.std.proofs.lemmas.Grind.{common_steps}
use Rattle.text.proofs.Reading.{number_read}
use Rattle.text.proofs.numbers.number.Goals as goal

pub returns : goal.returns
returns c =
    let read = number_read _ _ _ c.args.base (λ number byte r q k. search (rules, tests)) c.iter.result c.try_fold.new.self c.try_fold.result c.try_fold.ensures.ran in
    grind (arith, common_steps, read)
