use Rattle.std.proofs.Common.{◌<◌, ◌^◌, arith, rules, mod-eq_of_lt, lt_of_lt_of_le, lt_of_le_of_lt}
use Rattle.std.proofs.Math.Nat.{one-le-pow, pow-le-pow_right}
use Rattle.printing.specs.Hex.{hex_of}
use Rattle.printing.proofs.Padded.{padded_hex}
use Rattle.printing.proofs.hexadecimal.HexDisplay.fmt.Goals as goal

pub pow-requires : goal.pow-requires
pow-requires g c = lt_of_le_of_lt (pow-le-pow_right (omega arith) {j = 7} (omega arith)) (omega arith)

pub nonzero_rem-number : goal.nonzero_rem-number
nonzero_rem-number g c = omega (arith, c.pow.ensures, one-le-pow g.row.DIGITS 16 (omega arith))

pub returns-in-0-clause-writes : goal.returns-in-0-clause-writes
unfolding hex_of
returns-in-0-clause-writes g c = search rules

pub returns-in-1-to-7-clause-writes : goal.returns-in-1-to-7-clause-writes
returns-in-1-to-7-clause-writes g c =
    rw (← padded_hex g.row.DIGITS c.args.self.now.0 (omega arith) (omega arith), ← c.pow.ensures) (search rules)

pub returns-in_default-clause-writes : goal.returns-in_default-clause-writes
returns-in_default-clause-writes g c =
    let fits : c.args.self.now.0 < 16 ^ g.row.DIGITS = lt_of_lt_of_le (omega arith) (pow-le-pow_right (omega arith) {i = 8} (omega arith)) in
    rw (← padded_hex g.row.DIGITS c.args.self.now.0 (omega arith) (omega arith), mod-eq_of_lt fits) (search rules)
