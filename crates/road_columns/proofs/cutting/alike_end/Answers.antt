-- The cells of the zones visited so far are alike.
use Rattle.std.proofs.Common.{◌+◌, ◌*◌, ◌/◌, ◌<◌, arith}
use Rattle.std.proofs.Math.Nat.{div-lt_iff_lt-mul, mul-le-mul_right}
use Rattle.road_columns.proofs.cutting.alike_end.Goals as goal

pub returns-clause-behind : goal.returns-clause-behind
returns-clause-behind c cell before small =
    let more = c.loop-next.invariant.more in
    let wide = mul-le-mul_right {m = c.args.zone + 1} {n = c.loop-next.next} c.args.width (omega arith) in
    omega arith

pub returns-clause-alike : goal.returns-clause-alike
returns-clause-alike c cell from before =
    let less : cell < c.loop-next.next * c.args.width = omega arith in
    c.loop-next.invariant.alike (cell / c.args.width) from ((div-lt_iff_lt-mul {k = c.args.width} {x = cell} {y = c.loop-next.next} c.requires.wide).1 less)
