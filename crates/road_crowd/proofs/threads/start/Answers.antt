-- The promise is of this session and this share.
use Rattle.std.proofs.Common.{◌≡◌, ℕ, List, IfOk, ap, subst, sym}
use Rattle.road_scenario.specs.declared.edit.Edit.{Edit}
use Rattle.road_sessions.specs.Sessions.{Session}
use Rattle.road_crowd.specs.Private.Works.{share_entries, work_of}
use Rattle.road_crowd.proofs.threads.start.Goals as goal

pub spawn_with-started-requires-clause-keeps : goal.spawn_with-started-requires-clause-keeps
spawn_with-started-requires-clause-keeps g c κs within r kept =
    subst (λ (es : List Edit). IfOk r (λ (s : Session). work_of s ≡ (c.number.result, share_entries c.number.result es c.args.task.now.to))) (sym (ap (λ v. v.items) c.of.ensures))
    (subst (λ (n : ℕ). IfOk r (λ (s : Session). work_of s ≡ (n, share_entries n c.args.share.now.items c.args.task.now.to))) (sym c.number.ensures.number) kept)
