-- The sessions of a crowd, with one more at their end.
use Rattle.std.proofs.Common.{◌≡◌, ◌∙◌, ℕ, ◌+◌, ◌<◌, ◌≤◌, List, [], ◌∷◌, ◌++◌, length, map, refl, sym, subst, ap, arith}
use Rattle.std.specs.Prelude.{◌≢◌, Vec}
use Rattle.std.specs.List.{AllByRecursion}
use Rattle.std.specs.declared.alloc.Global.{Global}
use Rattle.std.proofs.lemmas.List.{length-map, map_push}
use Rattle.road_replica.specs.Crowds.{shares_of}
use Rattle.road_sessions.specs.Closings.{AreAll, AreApart}
use Rattle.road_scenario.specs.declared.edit.Edit.{Edit}
use Rattle.road_sessions.specs.Sessions.{AreNewSessions, Session, new_view, session_of}
use Rattle.road_sessions.specs.declared.entry.Entry.{Entry}
use Rattle.road_crowd.specs.Private.Works.{share_entries, work_of, works_from}

-- the last of new sessions is new too, with the last number
pub new_last : (n : ℕ) (ss : List Session) (s : Session) → AreNewSessions n (ss ++ s ∷ []) → AreNewSessions n ss × (s ≡ session_of (n + length ss) [] new_view)
new_last n [] s fresh = (tt, fresh.0 ∙ ap (λ (k : ℕ). session_of k [] new_view) (omega arith))
new_last n (t ∷ ss) s fresh =
    let rest = new_last (n + 1) ss s fresh.1 in
    ((fresh.0, rest.0), rest.1 ∙ ap (λ (k : ℕ). session_of k [] new_view) (omega arith))

works_last : (n : ℕ) (shares : List (List Edit)) (share : List Edit) (to : ℕ)
    → works_from n (shares ++ share ∷ []) to ≡ works_from n shares to ++ (n + length shares, share_entries (n + length shares) share to) ∷ []
works_last n [] share to = ap (λ (k : ℕ). (k, share_entries k share to) ∷ []) (omega arith)
works_last n (first ∷ shares) share to =
    ap (λ (works : List (ℕ × List Entry)). (n, share_entries n first to) ∷ works)
    (works_last (n + 1) shares share to ∙ ap (λ (k : ℕ). works_from (n + 1) shares to ++ (k, share_entries k share to) ∷ []) (omega arith))

-- if the last session has also made its writes, all sessions have made theirs
pub all_with_last : (after : List Session) (last : Session) (n : ℕ) (others : List (List Edit)) (share : List Edit) (to : ℕ) → map work_of after ≡ works_from 0 others to
    → n ≡ length others → work_of last ≡ (n, share_entries n share to) → map work_of (after ++ last ∷ []) ≡ works_from 0 (others ++ share ∷ []) to
all_with_last after last n others share to before at work =
    let here : n ≡ 0 + length others = omega arith in
    map_push work_of after last ∙ (λ i. before i ++ work i ∷ [])
    ∙ ap (λ (k : ℕ). works_from 0 others to ++ (k, share_entries k share to) ∷ []) here ∙ sym (works_last 0 others share to)

abbrev first_number : List (ℕ × List Entry) → ℕ
first_number [] = 0
first_number (work ∷ works) = work.0

abbrev works_behind : List (ℕ × List Entry) → List (ℕ × List Entry)
works_behind [] = []
works_behind (work ∷ works) = works

-- sessions with greater numbers do not have this number
others : (n : ℕ) (s : Session) (ss : List Session) → s.number ≡ n → AllByRecursion (λ (t : Session). n + 1 ≤ t.number) ss → AllByRecursion (λ (t : Session). s.number ≢ t.number) ss
others n s [] is above = tt
others n s (t ∷ ss) is above = ((λ same. let up = above.0 in omega arith), others n s ss is above.1)

above_less : (n : ℕ) (ss : List Session) → AllByRecursion (λ (t : Session). n + 1 ≤ t.number) ss → AllByRecursion (λ (t : Session). n ≤ t.number) ss
above_less n [] above = tt
above_less n (t ∷ ss) above = ((let up = above.0 in omega arith), above_less n ss above.1)

all_from : (n : ℕ) (ss : List Session) (shares : List (List Edit)) (to : ℕ) → map work_of ss ≡ works_from n shares to
    → (length ss ≡ length shares) × AreApart ss × AllByRecursion (λ (t : Session). n ≤ t.number) ss
    × AllByRecursion (λ (t : Session). t.number < n + length shares) ss
all_from n [] [] to work = (refl, tt, tt, tt)
all_from n [] (share ∷ shares) to work = let count = ap (λ (works : List (ℕ × List Entry)). length works) work in absurd (omega arith)
all_from n (s ∷ ss) [] to work = let count = ap (λ (works : List (ℕ × List Entry)). length works) work in absurd (omega arith)
all_from n (s ∷ ss) (share ∷ shares) to work =
    let is : s.number ≡ n = ap first_number work in
    let rest = all_from (n + 1) ss shares to (ap works_behind work) in
    let count = rest.0 in (
      omega arith,
      (others n s ss is rest.2, rest.1),
      ((omega arith), above_less n ss rest.2),
      ((omega arith), subst (λ (k : ℕ). AllByRecursion (λ (t : Session). t.number < k) ss) (omega arith) rest.3),
    )

-- sessions that have made the writes of all shares are all sessions of a store with one session for each share
pub all_given : (parts : ℕ) (ss : List Session) (vecs : List (Vec Edit Global)) (to : ℕ) → parts ≡ length vecs
    → map work_of ss ≡ works_from 0 (shares_of vecs) to → AreAll parts ss
all_given parts ss vecs to is work =
    let same : length (shares_of vecs) ≡ parts = length-map vecs (λ (v : Vec Edit Global). v.items) ∙ sym is in
    let all = all_from 0 ss (shares_of vecs) to work in
    let below : AllByRecursion (λ (t : Session). t.number < length (shares_of vecs)) ss =
    subst (λ (k : ℕ). AllByRecursion (λ (t : Session). t.number < k) ss) (omega arith) all.3 in
    subst (λ (n : ℕ). AreAll n ss) same (all.0, all.1, below)
