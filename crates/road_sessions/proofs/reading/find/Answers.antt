-- What was found extends what the session had seen, whether the sheet can be shared or not.
use Rattle.std.proofs.Common.{◌<◌, List, ap, arith, inl, inr, length, refl, subst, sym}
use Rattle.std.specs.Prelude.{IfErr}
use Rattle.left_right.specs.Sides.{view}
use Rattle.road_sessions.specs.Journals.{replay}
use Rattle.road_sessions.specs.Private.Queries.{query_fault}
use Rattle.road_sessions.specs.declared.entry.Entry.{Entry}
use Rattle.road_sessions.specs.declared.reader_view.View.{View}
use Rattle.road_sessions.proofs.Prefixes.{prefix_of_itself}
use Rattle.road_sessions.proofs.SessionWrites.{has_entered, session_later}
use Rattle.road_sessions.proofs.reading.find.Goals as goal
use Rattle.road_sheet.specs.Sheets.{IsRefusalBy}

pub returns-then-not-is_prefix_of-clause-looked : goal.returns-then-not-is_prefix_of-clause-looked
returns-then-not-is_prefix_of-clause-looked g c =
    let seen = c.args.seen.now in
    let less : length (view c.enter_here.new.reader.place).found < length seen =
    (let short = c.if-not-is_prefix_of.ensures.length in let found = ap (λ (v : View). length v.found) c.in-Some.ensures.entered.1 in omega arith) in
    let entered = has_entered g.J.Naming.replica c.args._number seen seen c.in-Some.history (view c.args.reader.now.place) (view c.enter_here.new.reader.place) (prefix_of_itself seen) c.requires.legal c.in-Some.ensures.entered c.requires in
    let found = ap (λ (v : View). v.found) c.in-Some.ensures.entered.1 in
    inr (
      entered,
      (refl, less),
      subst (λ (h : List Entry). IsRefusalBy (query_fault c.args.query.now (replay g.J.Naming.replica h).sheet) c.fault_of_less.result) (sym found)
          (c.fault_of_less.ensures (query_fault c.args.query.now (replay g.J.Naming.replica c.in-Some.history).sheet) c.in-Some.ensures.accepted c.in-Some.ensures.fault),
    )

pub returns-in-Ok-clause-session : goal.returns-in-Ok-clause-session
returns-in-Ok-clause-session g c =
    session_later g.J.Naming.replica c.args._number c.args.seen.now c.in-Some.history (view c.args.reader.now.place) (view c.enter_here.new.reader.place) c.if-not-is_prefix_of.ensures.prefix c.if-not-is_prefix_of.ensures.other_legal (ap (λ (v : View). v.own) c.in-Some.ensures.entered.1) c.requires

pub returns-in-Ok-clause-looked : goal.returns-in-Ok-clause-looked
returns-in-Ok-clause-looked g c =
    let entered = has_entered g.J.Naming.replica c.args._number c.args.seen.now c.in-Some.history c.in-Some.history (view c.args.reader.now.place) (view c.enter_here.new.reader.place) c.if-not-is_prefix_of.ensures.prefix c.if-not-is_prefix_of.ensures.other_legal c.in-Some.ensures.entered c.requires in
    (entered, ap (λ (v : View). v.found) (sym c.in-Some.ensures.entered.1))

pub returns-in-Err-clause-session : goal.returns-in-Err-clause-session
returns-in-Err-clause-session g c =
    session_later g.J.Naming.replica c.args._number c.args.seen.now c.in-Some.history (view c.args.reader.now.place) (view c.enter_here.new.reader.place) c.if-not-is_prefix_of.ensures.prefix c.if-not-is_prefix_of.ensures.other_legal (ap (λ (v : View). v.own) c.in-Some.ensures.entered.1) c.requires

pub returns-in-Err-clause-looked : goal.returns-in-Err-clause-looked
returns-in-Err-clause-looked g c =
    let entered = has_entered g.J.Naming.replica c.args._number c.args.seen.now c.in-Some.history c.in-Some.history (view c.args.reader.now.place) (view c.enter_here.new.reader.place) c.if-not-is_prefix_of.ensures.prefix c.if-not-is_prefix_of.ensures.other_legal c.in-Some.ensures.entered c.requires in
    inl (
      (entered, ap (λ (v : View). v.found) (sym c.in-Some.ensures.entered.1)),
      subst (λ o. IfErr o (IsRefusalBy (query_fault c.args.query.now (replay g.J.Naming.replica c.in-Some.history).sheet))) c.in-Err.is c.in-Some.ensures.fault,
    )
