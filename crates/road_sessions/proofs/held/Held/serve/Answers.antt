-- What a session has seen is a prefix of the journal. So its accepted write extends a legal history, and its refused
-- write is refused after one.
use Rattle.std.proofs.Common.{◌≡◌, ◌∙◌, ℕ, List, subst, sym}
use mathlib.Core.List.{IsPrefix}
use Rattle.left_right.specs.Sides.{view}
use Rattle.road_sessions.specs.Journals.{IsLegal}
use Rattle.road_sessions.specs.Writes.{IsAccepted}
use Rattle.road_sessions.specs.declared.entry.Entry.{Entry}
use Rattle.road_sessions.proofs.Refusals.{refused_write}
use Rattle.road_sessions.proofs.SessionWrites.{is_write}
use Rattle.road_sessions.proofs.held.Held.serve.Goals as goal

pub returns-clause-write : goal.returns-clause-write
returns-clause-write g c =
    let r = g.J.Naming.replica in
    let seen : List Entry = c.args.membership.now.seen in
    let journal : List Entry = c.args.self.now.journal.items in
    let before : IsPrefix seen journal = subst (λ (l : List Entry). IsPrefix seen l) c.args.self.now.journalled c.know.ensures.prefix in
    let after : c.prefix.result ≡ c.write.new.self.journal.items = c.prefix.ensures.same ∙ c.write.new.self.journalled in
    let legal : IsLegal r c.prefix.result = subst (λ (l : List Entry). IsLegal r l) (sym c.prefix.ensures.same) c.prefix.ensures.legal in
    is_write g.J.Naming.limit r c.args.session c.args.wish.now seen journal c.prefix.result (view c.args.membership.now.reader.place) (view c.enter_after_write_here.new.reader.place) c.in_ok-place.place c.in_ok-place.reply c.args.meter.now c.write.new.meter
    before (after ∙ c.in_ok-place.ensures.journal) legal c.in_ok-place.ensures.reply.0 c.in_ok-place.ensures.reply.1 c.enter_after_write_here.ensures
    (subst (λ (n : ℕ). IsAccepted n c.args.wish.now r journal c.args.meter.now c.write.new.meter) c.args.self.now.room c.in_ok-place.ensures.write)

pub returns-in_err-place-clause-write : goal.returns-in_err-place-clause-write
returns-in_err-place-clause-write g c =
    let r = g.J.Naming.replica in
    let seen : List Entry = c.args.membership.now.seen in
    let journal : List Entry = c.args.self.now.journal.items in
    let before : IsPrefix seen journal = subst (λ (l : List Entry). IsPrefix seen l) c.args.self.now.journalled c.know.ensures.prefix in
    let legal : IsLegal r journal = subst (λ (l : List Entry). IsLegal r l) c.args.self.now.journalled c.know.ensures.legal in
    refused_write _ c.args.self.now.limit g.J.Naming.limit r c.args.wish.now c.args.session seen journal (view c.args.membership.now.reader.place) c.from_residual.result _ c.args.meter.now c.write.new.meter
    c.args.self.now.room before legal c.from_residual.ensures.1 c.in_err-place.ensures.write
