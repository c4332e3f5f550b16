-- An accepted write keeps the invariant of sessions, and the session's share counts one more write.
use Rattle.std.proofs.Common.{◌∙◌, arith}
use Rattle.left_right.specs.Sides.{view as view_at}
use Rattle.road_sessions.specs.Sessions.{Session, session_of}
use Rattle.road_sessions.proofs.SessionWrites.{one_more_write, session_after_write}
use Rattle.road_sessions.proofs.session.Session.write.Goals as goal

pub invariant_of-self-2 : goal.invariant_of-self-2
invariant_of-self-2 g c =
    let r = g.J.Naming.replica in
    let s : Session = session_of c.self.inside.number c.self.inside.membership.seen (view_at c.self.inside.membership.reader.place) in
    let t : Session = session_of c.self.inside.number c.serve.new.membership.seen (view_at c.serve.new.membership.reader.place) in
    let wrote = c.in_ok-place.ensures.write in
    let wish = c.args.wish.now in (
      session_after_write g.J.Naming.limit r wish s t c.in_ok-place.place c.in_ok-place.reply c.args.meter.now c.serve.new.meter wrote c.self.invariant.0,
      c.serve.ensures.share.0 ∙ c.self.invariant.1,
      (let more = one_more_write g.J.Naming.limit r wish s t c.in_ok-place.place c.in_ok-place.reply c.args.meter.now c.serve.new.meter wrote in let counted = c.in_ok-place.ensures.share.1 in let before = c.self.invariant.2 in omega arith),
      c.self.invariant.3,
    )
