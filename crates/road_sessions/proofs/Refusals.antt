-- Why a write is refused, after a history that extends what its session has seen.
use Rattle.std.proofs.Common.{◌≡◌, ℕ, List, refl, sym, subst}
use Rattle.std.specs.Prelude.{IsErrAnd, MatchResult, Result}
use Rattle.std.specs.declared.result.Result.TheVariants.{Err, Ok}
use mathlib.Core.List.{IsPrefix}
use Rattle.road_replica.specs.Replicas.{Replica}
use Rattle.road_sessions.specs.declared.entry.Entry.{Entry}
use Rattle.road_sessions.specs.declared.faults.WriteFault.{WriteFault}
use Rattle.road_sessions.specs.declared.wish.Wish.{Wish}
use Rattle.road_sessions.specs.declared.reader_view.View.{View}
use Rattle.road_sessions.specs.Journals.{IsLegal}
use Rattle.road_sessions.specs.Sessions.{IsRefusedThere, IsRefusedWrite, session_of}
use Rattle.road_sessions.specs.Writes.{IsRefused}

-- a write is refused after the journal. Its session has seen a prefix of it, so the journal is such a history
pub refused_write : {A : Type 0} (P : A → Type 0) (held limit : ℕ) (r : Replica) (wish : Wish) (session : ℕ) (seen journal : List Entry) (v : View) (result : Result A WriteFault) (fault : WriteFault) (meter counted : ℕ)
    → held ≡ limit → IsPrefix seen journal → IsLegal r journal → IsErrAnd result (λ given. given ≡ fault) → IsRefused held wish r journal fault meter counted
    → MatchResult result P (λ given. IsRefusedWrite limit r wish (session_of session seen v) given (session_of session seen v) meter counted)
refused_write P held limit r wish session seen journal v (Ok x) fault meter counted room before legal same is = absurd same
refused_write P held limit r wish session seen journal v (Err given) fault meter counted room before legal same is =
    let refused : IsRefused limit wish r journal fault meter counted = subst (λ (n : ℕ). IsRefused n wish r journal fault meter counted) room is in
    let here : IsRefusedThere limit r wish seen fault meter counted = record { front = journal; before = before; legal = legal; refused = refused } in
    let whole : IsRefusedWrite limit r wish (session_of session seen v) fault (session_of session seen v) meter counted = record {
      unchanged = refl;
      refused = here;
    } in
    subst (λ (f : WriteFault). IsRefusedWrite limit r wish (session_of session seen v) f (session_of session seen v) meter counted) (sym same) whole
