-- The session wrote its share.
use Rattle.std.proofs.Common.{◌≡◌, List, IfOk, subst}
use Rattle.road_scenario.specs.declared.edit.Edit.{Edit}
use Rattle.road_sessions.specs.Sessions.{Session}
use Rattle.road_crowd.specs.Private.Works.{share_entries, work_of}
use Rattle.road_crowd.proofs.threads.fn.start.spawn_with.Goals as goal

pub returns : goal.returns
returns g c =
    subst (λ (es : List Edit). IfOk c.run_session.result (λ (after : Session). work_of after ≡ (c.captures.session.number, share_entries c.captures.session.number es c.captures.task.now.to)))
    c.as_slice.ensures.value c.run_session.ensures
