-- The shares of the ledger count as many writes as the journal has entries, so the journal is exactly what they wrote.
use Rattle.std.proofs.Common.{◌≡◌, List, length, sym, ap, subst, arith}
use Rattle.std.specs.List.{AllByRecursion}
use Rattle.road_sessions.specs.Closings.{AreApart, IsWrittenBy, write_count}
use Rattle.road_sessions.specs.Private.ClosingSessions.{IsSessionOf}
use Rattle.road_sessions.specs.Sessions.{Session}
use Rattle.road_sessions.specs.declared.entry.Entry.{Entry}
use Rattle.road_sessions.proofs.ClosedSessions.{written_by}
use Rattle.road_sessions.proofs.closing.close.Goals as goal

pub returns-clause-journal : goal.returns-clause-journal
returns-clause-journal g c =
    let sessions : List Session = c.args.sessions.items in
    let held = c.into_inner-held.result in
    let journal : List Entry = held.journal.items in
    let same : c.into_sheet_and_journal-sheet.result.1.items ≡ journal = ap (λ v. v.items) c.into_sheet_and_journal-sheet.ensures.journal in
    let apart : AreApart sessions = subst (λ (ss : List Session). AreApart ss) c.as_slice.ensures.value c.if-not-are_apart.ensures in
    let known : AllByRecursion (IsSessionOf journal) c.as_slice-2.result.now = subst (λ (l : List Entry). AllByRecursion (IsSessionOf l) c.as_slice-2.result.now) held.journalled c.know_all.ensures.all in
    let all : AllByRecursion (IsSessionOf journal) sessions = subst (λ (ss : List Session). AllByRecursion (IsSessionOf journal) ss) c.as_slice-2.ensures.value known in
    let whole : c.shares-all.result.parts ≡ g.J.Ledger.parts = (let shares = c.shares-all.ensures.0 in let none = c.empty-all.ensures.parts in let len = c.len.ensures in let is = c.if-len-shared.false in let parts = c.args.shared.opened in omega arith) in
    let count : length journal ≡ write_count sessions = (let audited = c.audit.ensures.whole whole in let shares = c.shares-all.ensures.1 in let none = c.empty-all.ensures.amount in let counted = held.counted in omega arith) in
    subst (λ (l : List Entry). IsWrittenBy l sessions) (sym same) (written_by journal sessions apart all count)
