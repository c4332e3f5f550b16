-- A session after a write or a look.
use Rattle.std.proofs.Common.{◌≡◌, ◌∙◌, ℕ, ◌+◌, ◌<◌, List, [], ◌∷◌, ◌++◌, length, length-append, slice_get, Option, None, Some, inr, refl, sym, ap, subst, arith}
use Rattle.std.proofs.lemmas.Option.{slice_get_within}
use Rattle.std.specs.Prelude.{Bool, IsErrAnd, MatchResult, Result, false, if◌then◌else◌, nat_le}
use Rattle.std.specs.Option.{option_map}
use Rattle.std.specs.List.{AllByRecursion}
use Rattle.std.specs.declared.result.Result.TheVariants.{Err, Ok}
use mathlib.Core.List.{IsPrefix}
use Rattle.road_rewind.specs.Growth.{TicksAtMost}
use Rattle.road_replica.specs.Refusals.{IsRefusal}
use Rattle.road_replica.specs.Replicas.{Replica}
use Rattle.road_replica.specs.declared.faults.ReplicaFault.{ReplicaFault}
use Rattle.road_replica.specs.declared.faults.ReplicaFault.TheVariants as causes
use Rattle.road_replica.specs.declared.reply.Reply.{Reply}
use Rattle.road_sessions.specs.declared.entry.Entry.{Entry}
use Rattle.road_sessions.specs.declared.reader_view.View.{View}
use Rattle.road_sessions.specs.declared.wish.Wish.{Wish}
use Rattle.road_sessions.specs.Journals.{AreWritesOf, IsLegal, AreAtRisingPlaces, AreInJournal, Write, entry, replay}
use Rattle.road_sessions.specs.Looks.{HasEntered}
use Rattle.road_sessions.specs.Private.Stores.{EntersAfterWrite, EntersToLook, last_write_from}
use Rattle.road_sessions.specs.Sessions.{AreNewSessions, IsAcceptedWrite, IsSession, Session, new_view, session_of}
use Rattle.road_sessions.specs.Writes.{IsAccepted, IsRefused, IsWriteRefusal, most_steps_of_wish, reply_to, wish_command, wish_fault, write_fault}
use Rattle.road_sessions.specs.declared.faults.WriteFault.{WriteFault}
use Rattle.road_sessions.specs.declared.faults.WriteFault.TheVariants.{JournalFull, Replica as OfReplica}
use Rattle.road_sessions.proofs.Prefixes.{each_of_both, got_last, in_longer_journal}

-- ---- a write

-- a write without a named cause is refused because memory ran out
pub refused_late : {A : Type 0} (limit : ℕ) (wish : Wish) (r : Replica) (journal : List Entry) (result : Result A WriteFault) (fault : ReplicaFault) (meter counted : ℕ)
    → write_fault limit wish r journal ≡ None → IsErrAnd result (λ given. given ≡ OfReplica fault) → fault ≡ causes.OutOfMemory → TicksAtMost (most_steps_of_wish wish (replay r journal)) meter counted
    → MatchResult result (λ _. IsAccepted limit wish r journal meter counted) (λ given. IsRefused limit wish r journal given meter counted)
refused_late limit wish r journal (Ok x) fault meter counted none same is few = absurd same
refused_late limit wish r journal (Err given) fault meter counted none same is few =
    let out : given ≡ OfReplica causes.OutOfMemory = same ∙ ap (λ (f : ReplicaFault). OfReplica f) is in record {
      refused = subst (λ (cause : Option WriteFault). IsWriteRefusal cause given) (sym none) (inr out);
      named = λ some. absurd (some none);
      few_steps = few;
    }

-- a write is refused by the replica, which checks it first
pub refused_early : {A : Type 0} (limit : ℕ) (wish : Wish) (r asked : Replica) (journal : List Entry) (result : Result A WriteFault) (fault : ReplicaFault) (meter : ℕ)
    → nat_le limit (length journal) ≡ false → asked ≡ replay r journal → IsErrAnd result (λ given. given ≡ OfReplica fault) → IsRefusal (wish_fault wish asked) fault
    → MatchResult result (λ _. IsAccepted limit wish r journal meter meter) (λ given. IsRefused limit wish r journal given meter meter)
refused_early limit wish r asked journal (Ok x) fault meter room same given is = absurd given
refused_early limit wish r asked journal (Err other) fault meter room same given is =
    let cause : option_map OfReplica (wish_fault wish asked) ≡ write_fault limit wish r journal =
    ap (λ (q : Replica). option_map OfReplica (wish_fault wish q)) same
    ∙ ap (λ (full : Bool). if full then Some JournalFull else option_map OfReplica (wish_fault wish (replay r journal))) (sym room) in record {
      refused = subst (λ (o : Option WriteFault). IsWriteRefusal o other) cause (by_replica (wish_fault wish asked) given is);
      named = λ _. refl;
      few_steps = record { ticks = 0; few = omega arith; counted = refl };
    }
  where
    by_replica : (o : Option ReplicaFault) → other ≡ OfReplica fault → IsRefusal o fault → IsWriteRefusal (option_map OfReplica o) other
    by_replica (Some cause) same is = same ∙ ap (λ (f : ReplicaFault). OfReplica f) is
    by_replica None same is = inr (same ∙ ap (λ (f : ReplicaFault). OfReplica f) is)

last_of_more : (place : ℕ) (history : List Entry) (e : Entry) → last_write_from place (history ++ e ∷ []) ≡ (place + length history, e) ∷ []
last_of_more place [] e = ap (λ (n : ℕ). (n, e) ∷ []) (omega arith)
last_of_more place (x ∷ []) e = ap (λ (n : ℕ). (n, e) ∷ []) (omega arith)
last_of_more place (x ∷ y ∷ ys) e = last_of_more (place + 1) (y ∷ ys) e ∙ ap (λ (n : ℕ). (n, e) ∷ []) (omega arith)

-- the last write of the published history is added to the session's own writes
own_more : (own : List Write) (front after : List Entry) (e : Entry) (place : ℕ) → after ≡ front ++ e ∷ [] → place ≡ length front → own ++ last_write_from 0 after ≡ own ++ (place, e) ∷ []
own_more own front after e place is at =
    let here : 0 + length front ≡ place = omega arith in
    let last = ap (λ (l : List Entry). last_write_from 0 l) is ∙ last_of_more 0 front e ∙ ap (λ (n : ℕ). (n, e) ∷ []) here in
    ap (λ (w : List Write). own ++ w) last

pub is_write : (limit : ℕ) (r : Replica) (session : ℕ) (wish : Wish) (seen front after : List Entry) (v w : View) (place : ℕ) (reply : Reply) (meter counted : ℕ) → IsPrefix seen front
    → after ≡ front ++ entry session (wish_command wish (replay r front)) ∷ [] → IsLegal r after → place ≡ length front → reply ≡ reply_to wish (replay r front) → EntersAfterWrite v after w → IsAccepted limit wish r front meter counted
    → IsAcceptedWrite limit r wish (session_of session seen v) place reply (session_of session after w) meter counted
is_write limit r session wish seen front after v w place reply meter counted before is legal at answer enters accepted = record {
  front = front;
  before = before;
  seen = is;
  legal = legal;
  place_is = at;
  reply_is = answer;
  found = ap (λ (u : View). u.found) enters.1;
  later = subst (λ (u : View). IsPrefix v.found u.found) (sym enters.1) enters.0;
  own = ap (λ (u : View). u.own) enters.1 ∙ own_more v.own front after (entry session (wish_command wish (replay r front))) place is at;
  number = refl;
  entered = ap (λ (u : View). u.entered) enters.1;
  accepted = accepted;
}

all_before : (writes : List Write) (journal : List Entry) → AreInJournal writes journal → AllByRecursion (λ (w : Write). w.0 < length journal) writes
all_before [] journal stand = tt
all_before (w ∷ ws) journal stand = (slice_get_within journal w.0 w.1 stand.0, all_before ws journal stand.1)

at_rising_places_with : (writes : List Write) (place : ℕ) (e : Entry) → AreAtRisingPlaces writes → AllByRecursion (λ (w : Write). w.0 < place) writes → AreAtRisingPlaces (writes ++ (place, e) ∷ [])
at_rising_places_with [] place e rise low = (tt, tt)
at_rising_places_with (w ∷ ws) place e rise low =
    (each_of_both (λ (v : Write). w.0 < v.0) ws ((place, e) ∷ []) rise.0 (low.0, tt), at_rising_places_with ws place e rise.1 low.1)

-- an accepted write keeps the invariant of sessions
pub session_after_write : (limit : ℕ) (r : Replica) (wish : Wish) (s t : Session) (place : ℕ) (reply : Reply) (meter counted : ℕ) → IsAcceptedWrite limit r wish s place reply t meter counted → IsSession r s → IsSession r t
session_after_write limit r wish s t place reply meter counted w is =
    let e = entry s.number (wish_command wish (replay r w.front)) in
    let stood : AreInJournal s.view.own w.front = in_longer_journal s.view.own s.seen w.front w.before is.in_journal in
    let stands : AreInJournal s.view.own t.seen = in_longer_journal s.view.own w.front t.seen (e ∷ [], sym w.seen) stood in
    let low : AllByRecursion (λ (u : Write). u.0 < place) s.view.own = subst (λ (n : ℕ). AllByRecursion (λ (u : Write). u.0 < n) s.view.own) (sym w.place_is) (all_before s.view.own w.front stood) in
    let there : slice_get t.seen place ≡ Some e = subst (λ (l : List Entry). slice_get l place ≡ Some e) (sym w.seen) (subst (λ (n : ℕ). slice_get (w.front ++ e ∷ []) n ≡ Some e) (sym w.place_is) (got_last w.front e)) in
    let mine = each_of_both (λ (u : Write). u.1.session ≡ s.number) s.view.own ((place, e) ∷ []) is.own (refl, tt) in
    let all = each_of_both (λ (u : Write). slice_get t.seen u.0 ≡ Some u.1) s.view.own ((place, e) ∷ []) stands (there, tt) in
    record {
      legal = w.legal;
      own = subst (λ (n : ℕ). AreWritesOf n t.view.own) (sym w.number) (subst (λ (o : List Write). AreWritesOf s.number o) (sym w.own) mine);
      rising = subst AreAtRisingPlaces (sym w.own) (at_rising_places_with s.view.own place e is.rising low);
      in_journal = subst (λ (o : List Write). AreInJournal o t.seen) (sym w.own) all;
    }

pub one_more_write : (limit : ℕ) (r : Replica) (wish : Wish) (s t : Session) (place : ℕ) (reply : Reply) (meter counted : ℕ) → IsAcceptedWrite limit r wish s place reply t meter counted → length t.view.own ≡ length s.view.own + 1
one_more_write limit r wish s t place reply meter counted w =
    ap (λ (o : List Write). length o) w.own ∙ (let n = length-append s.view.own ((place, entry s.number (wish_command wish (replay r w.front))) ∷ []) in omega arith)

-- ---- a look, and a receipt

-- a session that has seen a longer history keeps the invariant of sessions
pub session_later : (r : Replica) (session : ℕ) (seen after : List Entry) (v w : View) → IsPrefix seen after → IsLegal r after → w.own ≡ v.own → IsSession r (session_of session seen v) → IsSession r (session_of session after w)
session_later r session seen after v w grows legal own is = record {
  legal = legal;
  own = subst (λ (o : List Write). AreWritesOf session o) (sym own) is.own;
  rising = subst AreAtRisingPlaces (sym own) is.rising;
  in_journal = subst (λ (o : List Write). AreInJournal o after) (sym own) (in_longer_journal v.own seen after grows is.in_journal);
}

-- a session has entered a store whose published history is this one
pub has_entered : (r : Replica) (session : ℕ) (seen after published : List Entry) (v w : View) → IsPrefix seen after → IsLegal r after → EntersToLook v published w → IsSession r (session_of session seen v) → HasEntered r (session_of session seen v) (session_of session after w)
has_entered r session seen after published v w grows legal enters is =
    let own : w.own ≡ v.own = ap (λ (u : View). u.own) enters.1 in
    let after_is = session_later r session seen after v w grows legal own is in record {
      entered = ap (λ (u : View). u.entered) enters.1;
      later = subst (λ (u : View). IsPrefix v.found u.found) (sym enters.1) enters.0;
      seen = grows;
      legal = legal;
      in_journal = after_is.in_journal;
      own = own;
      number = refl;
    }

-- ---- opening

new_sessions_from : (n : ℕ) (ss : List Session) → AreNewSessions n ss → AreNewSessions n (ss ++ session_of (n + length ss) [] new_view ∷ [])
new_sessions_from n [] fresh = (ap (λ (k : ℕ). session_of k [] new_view) (omega arith), tt)
new_sessions_from n (s ∷ ss) fresh =
    (fresh.0, subst (λ (k : ℕ). AreNewSessions (n + 1) (ss ++ session_of k [] new_view ∷ [])) (omega arith) (new_sessions_from (n + 1) ss fresh.1))

-- one more session, with the next number
pub new_sessions_with : (ss : List Session) (n : ℕ) (s : Session) → AreNewSessions 0 ss → length ss ≡ n → s ≡ session_of n [] new_view → AreNewSessions 0 (ss ++ s ∷ [])
new_sessions_with ss n s fresh at is =
    let next : 0 + length ss ≡ n = omega arith in
    subst (λ (t : Session). AreNewSessions 0 (ss ++ t ∷ [])) (ap (λ (k : ℕ). session_of k [] new_view) next ∙ sym is) (new_sessions_from 0 ss fresh)
