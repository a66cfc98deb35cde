use Rattle.std.proofs.Common.{ℕ, List, ◌++◌, codes, decimal, refl, ap, ap₂, ◌∙◌, arith}
use Rattle.std.proofs.Output.{has_written_of_eq, has_written_append}
use Rattle.answers.specs.Print.{line_text, place_lines}
use Rattle.answers.proofs.Lines.{lines_more, lines_all}
use Rattle.answers.proofs.showing.ReportDisplay.fmt.Goals as goal

pub loop-arrival-preserved : goal.loop-arrival-preserved
loop-arrival-preserved g c plain =
    let long = c.self.invariant in
    let so_far = c.loop-arrival.invariant plain in
    has_written_of_eq g.W.Write.write_str_gives c.args.f.now _ _ _ (lines_more c.self.inside.arrivals c.loop-arrival.arrival-index _ (omega arith))
    (has_written_append g.W.Write.write_str_gives c.args.f.now _ _ _ _ so_far (c.in_ok-writeln.ensures.writes so_far.plain refl))

pub returns-clause-writes : goal.returns-clause-writes
returns-clause-writes g c plain ok =
    let long = c.self.invariant in
    let so_far = c.loop-arrival.invariant plain in
    let all = lines_all c.self.inside.arrivals c.loop-arrival.arrival-index (omega arith) ∙ ap place_lines c.self.view_is in
    let is = ap₂ (λ (a b : List ℕ). a ++ b) all (ap (λ n. decimal n ++ line_text (codes " of 12 good")) c.good-good.ensures) in
    has_written_of_eq g.W.Write.write_str_gives c.args.f.now _ _ _ is
    (has_written_append g.W.Write.write_str_gives c.args.f.now _ _ _ _ so_far (c.writeln-2.ensures.writes so_far.plain ok))
