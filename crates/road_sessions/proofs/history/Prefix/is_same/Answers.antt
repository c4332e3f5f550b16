-- Two histories that are prefixes of each other are equal.
use Rattle.std.proofs.Common.{◌≤◌, ◌<◌, Bool, length, subst}
use Rattle.std.specs.Prelude.{MatchBool}
use Rattle.road_sessions.proofs.Prefixes.{whole_prefix}
use Rattle.road_sessions.proofs.history.Prefix.is_same.Goals as goal

pub returns-then-is_prefix_of : goal.returns-then-is_prefix_of
returns-then-is_prefix_of g c is =
    let this = c.args.self.now in
    let that = c.args.other.now in
    let short : length that ≤ length this = subst (λ (b : Bool). MatchBool b (length that ≤ length this) (length this < length that)) is c.is_prefix_of-then-is_prefix_of.ensures.length in
    whole_prefix this that short c.if-is_prefix_of.ensures.prefix
