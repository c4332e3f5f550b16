-- The last session has written nothing yet. Once it has made its writes, it is appended to the others.
use Rattle.std.proofs.Common.{◌≡◌, ◌∙◌, ◌+◌, ◌++◌, ◌∷◌, [], List, ap, arith, length, length-append, map, subst, sym}
use Rattle.std.proofs.lemmas.List.{length-map, map-append}
use Rattle.road_scenario.specs.declared.edit.Edit.{Edit}
use Rattle.road_replica.specs.Crowds.{shares_of}
use Rattle.road_sessions.specs.Sessions.{AreNewSessions, Session}
use Rattle.road_crowd.specs.Private.Works.{AreAccepted, share_entries, work_of, works_from}
use Rattle.road_crowd.proofs.CrowdRefusals.{accepted_last}
use Rattle.road_crowd.proofs.CrowdSessions.{all_with_last, new_last}
use Rattle.road_crowd.proofs.threads.+run_sessions.Goals as goal

pub start-requires-clause-new : goal.start-requires-clause-new
start-requires-clause-new g t c κs within =
    let fresh = new_last 0 c.pop.new.self.items c.in-Some-pop.session (subst (λ (ss : List Session). AreNewSessions 0 ss) c.in-Some-pop.ensures.items c.requires.new) in
    ap (λ (s : Session). s.view.own) fresh.1

pub start-requires-clause-accepted : goal.start-requires-clause-accepted
start-requires-clause-accepted g t c κs within =
    let plan = g.J.Naming.replica.sheet.plan in
    let shares : shares_of c.args.shares.now ≡ shares_of c.in-Some.others.now ++ c.in-Some.share.now.items ∷ [] =
    ap shares_of c.in-Some.ensures.cases.0 ∙ map-append (λ v. v.items) c.in-Some.others.now (c.in-Some.share.now ∷ []) in
    (accepted_last plan c.args.task.now.to (shares_of c.in-Some.others.now) c.in-Some.share.now.items
    (subst (λ (l : List (List Edit)). AreAccepted plan c.args.task.now.to l) shares c.requires.accepted)).1

pub run_sessions-requires-clause-accepted : goal.run_sessions-requires-clause-accepted
run_sessions-requires-clause-accepted g t c κs within =
    let plan = g.J.Naming.replica.sheet.plan in
    let shares : shares_of c.args.shares.now ≡ shares_of c.in-Some.others.now ++ c.in-Some.share.now.items ∷ [] =
    ap shares_of c.in-Some.ensures.cases.0 ∙ map-append (λ v. v.items) c.in-Some.others.now (c.in-Some.share.now ∷ []) in
    (accepted_last plan c.args.task.now.to (shares_of c.in-Some.others.now) c.in-Some.share.now.items
    (subst (λ (l : List (List Edit)). AreAccepted plan c.args.task.now.to l) shares c.requires.accepted)).0

pub run_sessions-requires-clause-new : goal.run_sessions-requires-clause-new
run_sessions-requires-clause-new g t c κs within =
    (new_last 0 c.pop.new.self.items c.in-Some-pop.session (subst (λ (ss : List Session). AreNewSessions 0 ss) c.in-Some-pop.ensures.items c.requires.new)).0

pub returns : goal.returns
returns g t c =
    let promise = c.in-Some-start.worker.promise in
    let to = c.args.task.now.to in
    let left : List Session = c.pop.new.self.items in
    let last : Session = c.in_ok-last.last in
    let share : List Edit = c.in-Some.share.now.items in
    let others : List (List Edit) = shares_of c.in-Some.others.now in
    let fresh = new_last 0 left c.in-Some-pop.session (subst (λ (ss : List Session). AreNewSessions 0 ss) c.in-Some-pop.ensures.items c.requires.new) in
    let number : c.in-Some-pop.session.number ≡ 0 + length left = ap (λ (s : Session). s.number) fresh.1 in
    let many : length c.args.sessions.items ≡ length left + 1 = ap (λ (ss : List Session). length ss) c.in-Some-pop.ensures.items ∙ length-append left (c.in-Some-pop.session ∷ []) in
    let at : promise.number ≡ length others =
    (let one = c.requires.one_each in let fewer = c.in-Some.ensures.cases.1 in let given = c.in-Some-start.ensures.number in let len = length-map c.in-Some.others.now (λ v. v.items) in omega arith) in
    let told : work_of last ≡ (promise.number, share_entries promise.number promise.share.value.items promise.to) = c.in_ok-last.ensures in
    let work : work_of last ≡ (promise.number, share_entries promise.number share to) =
    told ∙ (λ i. (promise.number, share_entries promise.number (c.in-Some-start.ensures.share i) (c.in-Some-start.ensures.to i))) in
    let shares : others ++ share ∷ [] ≡ shares_of c.args.shares.now =
    sym (ap shares_of c.in-Some.ensures.cases.0 ∙ map-append (λ v. v.items) c.in-Some.others.now (c.in-Some.share.now ∷ [])) in
    ap (map work_of) c.in-Ok.ensures.items ∙ all_with_last c.in_ok-after.after.items last promise.number others share to c.in_ok-after.ensures at work
    ∙ ap (λ (l : List (List Edit)). works_from 0 l to) shares

pub unreachable-requires : goal.unreachable-requires
unreachable-requires g t c =
    let whole = c.args.sessions.ok.0 in
    let none = c.in_default-pop.ensures.cases.0 in
    let one = c.requires.one_each in
    let fewer = c.in-Some.ensures.cases.1 in
    omega arith
