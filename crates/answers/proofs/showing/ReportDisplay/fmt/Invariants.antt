use Rattle.std.proofs.Common.{take}
use Rattle.std.specs.Fmt.{IsPlainFormatter, HasWritten}
use Rattle.answers.specs.Print.{place_lines}
use Rattle.answers.proofs.showing.ReportDisplay.fmt.Given as goal

-- the lines of the places so far are written
abbrev pub invariant-loop-arrival : goal.invariant-loop-arrival
invariant-loop-arrival g l = IsPlainFormatter l.initial.f → HasWritten g.W.Write.write_str_gives l.initial.f (place_lines (take l.arrival-index l.arrival-items)) l.f
