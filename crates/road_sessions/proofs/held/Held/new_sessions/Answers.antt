-- The next session has seen and written nothing, and has the next number.
use Rattle.std.proofs.Common.{◌≡◌, ◌+◌, ◌++◌, [], ◌∷◌, length, length-append, arith}
use Rattle.road_sessions.specs.Sessions.{Session}
use Rattle.road_sessions.proofs.SessionWrites.{new_sessions_with}
use Rattle.road_sessions.proofs.held.Held.new_sessions.Goals as goal

pub loop-number-preserved : goal.loop-number-preserved
loop-number-preserved g c =
    let kept = c.loop-number.invariant in
    let before = c.loop-number.sessions.items in
    let s : Session = c.new.result in
    let fresh = new_sessions_with before c.loop-number.number s kept.1 kept.0 c.new.ensures in
    let count : length (before ++ s ∷ []) ≡ c.loop-number.number + 1 = omega (arith, kept.0, length-append before (s ∷ [])) in
    rw c.in-Ok.ensures.items (count, fresh, omega arith, omega arith)
