-- In whatever order the sessions of a crowd wrote, their journal takes the edits of all shares, advances to their step,
-- and has as many entries as they make writes.
use Rattle.std.proofs.Common.{◌≡◌, ◌∙◌, ℕ, ◌+◌, ◌<◌, ◌≤◌, max, Bool, false, List, [], ◌∷◌, length, map, refl, sym, ap, arith, length-append, inl, inr}
use Rattle.std.specs.Prelude.{nat_lt, ◌||◌, Vec}
use Rattle.std.specs.List.{list_any}
use Rattle.std.specs.Ordering.{eq_by_cmp}
use Rattle.std.specs.declared.alloc.Global.{Global}
use Rattle.std.proofs.lemmas.Bool.{cases_lt, ltb-false, lt-ltb, le-ltb, or_from, or_left, or_right}
use Rattle.std.proofs.lemmas.List.{length-map}
use Rattle.std.proofs.lemmas.List.Folds.{list_any-append}
use Rattle.std.proofs.Math.Bool.{or-false, or_self}
use Rattle.lattice_core.specs.Sets.{contains, empty, from_list, union}
use Rattle.lattice_core.proofs.SetElements.{contains-empty, contains-from_list, contains-union, same_set}
use Rattle.road_plan.specs.Plan.{Plan}
use Rattle.road_scenario.specs.Edits.{edit_cmp}
use Rattle.road_scenario.specs.Instances.EditOrder.{edit_total, edit_exact}
use Rattle.road_scenario.specs.declared.edit.Edit.{Edit}
use Rattle.road_scenario.specs.Winners.{winners}
use Rattle.road_scenario.proofs.NoEdits.{winners-empty}
use Rattle.road_sheet.specs.Sheets.{Sheet}
use Rattle.road_replica.specs.Crowds.{crowd_sheet, crowd_winners, crowd_writes, edits_of, shares_of}
use Rattle.road_replica.specs.Replicas.{Replica, single_edit}
use Rattle.road_sessions.specs.Closings.{AreApart, IsWrittenBy, write_count}
use Rattle.road_sessions.specs.Journals.{Write, replay, replica_of_plan}
use Rattle.road_sessions.specs.Merges.{command_edits, command_step, edits_taken, entries_written, latest_step}
use Rattle.road_sessions.specs.Sessions.{Session}
use Rattle.road_sessions.specs.declared.entry.Entry.{Entry}
use Rattle.road_sessions.proofs.MergedJournals.{sheet_of_replay, union-empty_first}
use Rattle.road_sessions.proofs.WrittenEntries.{any_written}
use Rattle.road_crowd.specs.Private.Works.{share_entries, work_of, works_from}

-- ---- an entry of the journal passes a test exactly if an entry of a share does

abbrev any_work : (Entry → Bool) → List (ℕ × List Entry) → Bool
any_work p works = list_any (λ (w : ℕ × List Entry). list_any p w.1) works

any_of_sessions : (p : Entry → Bool) (ss : List Session) → list_any (λ (s : Session). list_any p (entries_written s)) ss ≡ any_work p (map work_of ss)
any_of_sessions p [] = refl
any_of_sessions p (s ∷ ss) = ap (λ (b : Bool). list_any p (entries_written s) || b) (any_of_sessions p ss)

any_of_shares : (p : Entry → Bool) (journal : List Entry) (ss : List Session) (shares : List (List Edit)) (to : ℕ) → AreApart ss → IsWrittenBy journal ss
    → map work_of ss ≡ works_from 0 shares to → list_any p journal ≡ any_work p (works_from 0 shares to)
any_of_shares p journal ss shares to apart by work =
    any_written p journal ss apart by ∙ any_of_sessions p ss ∙ ap (any_work p) work

-- ---- the edits that are taken

abbrev takes : Edit → Entry → Bool
takes x e = contains (command_edits e.command) x

contains_taken : (journal : List Entry) (x : Edit) → contains (edits_taken journal) x ≡ list_any (takes x) journal
contains_taken [] x = contains-empty edit_cmp x
contains_taken (e ∷ es) x = contains-union edit_total (command_edits e.command) (edits_taken es) x ∙ ap (λ (b : Bool). takes x e || b) (contains_taken es x)

contains_single : (f x : Edit) → contains (single_edit f) x ≡ eq_by_cmp edit_cmp x f
contains_single f x = contains-from_list edit_total (f ∷ []) x ∙ or-false (eq_by_cmp edit_cmp x f)

taken_of_share : (n : ℕ) (share : List Edit) (to : ℕ) (x : Edit) → list_any (takes x) (share_entries n share to) ≡ list_any (eq_by_cmp edit_cmp x) share
taken_of_share n [] to x = or-false (contains (empty {R = edit_cmp}) x) ∙ contains-empty edit_cmp x
taken_of_share n (f ∷ share) to x =
    let here = contains_single f x in
    let rest = taken_of_share n share to x in
    λ i. here i || rest i

taken_of_shares : (n : ℕ) (shares : List (List Edit)) (to : ℕ) (x : Edit) → any_work (takes x) (works_from n shares to) ≡ list_any (eq_by_cmp edit_cmp x) (edits_of shares)
taken_of_shares n [] to x = refl
taken_of_shares n (share ∷ shares) to x =
    let here = taken_of_share n share to x in
    let rest = taken_of_shares (n + 1) shares to x in
    (λ i. here i || rest i) ∙ sym (list_any-append (eq_by_cmp edit_cmp x) share (edits_of shares))

edits_of_crowd : (journal : List Entry) (ss : List Session) (shares : List (List Edit)) (to : ℕ) → AreApart ss → IsWrittenBy journal ss
    → map work_of ss ≡ works_from 0 shares to → edits_taken journal ≡ from_list (edits_of shares)
edits_of_crowd journal ss shares to apart by work = same_set edit_total edit_exact _ _ (λ x.
    contains_taken journal x ∙ any_of_shares (takes x) journal ss shares to apart by work ∙ taken_of_shares 0 shares to x
    ∙ sym (contains-from_list edit_total (edits_of shares) x))

-- ---- the step that is advanced to

abbrev goes_beyond : ℕ → Entry → Bool
goes_beyond k e = nat_lt k (command_step e.command)

nat_lt-max : (k a b : ℕ) → nat_lt k (max a b) ≡ (nat_lt k a || nat_lt k b)
nat_lt-max k a b = elim (cases_lt k a) as (λ _. nat_lt k (max a b) ≡ (nat_lt k a || nat_lt k b)) [
  | inl below_a ↦ lt-ltb k (max a b) (omega arith) ∙ sym (or_left (nat_lt k a) (nat_lt k b) (lt-ltb k a below_a))
  | inr not_a ↦ elim (cases_lt k b) as (λ _. nat_lt k (max a b) ≡ (nat_lt k a || nat_lt k b)) [
    | inl below_b ↦ lt-ltb k (max a b) (omega arith) ∙ sym (or_right (nat_lt k a) (nat_lt k b) (lt-ltb k b below_b))
    | inr not_b ↦ le-ltb k (max a b) (omega arith) ∙ sym (or_from (nat_lt k a) (nat_lt k b) (le-ltb k a not_a) (le-ltb k b not_b))
  ]
]

beyond_latest : (k : ℕ) (journal : List Entry) → nat_lt k (latest_step journal) ≡ list_any (goes_beyond k) journal
beyond_latest k [] = le-ltb k 0 (omega arith)
beyond_latest k (e ∷ es) = nat_lt-max k (command_step e.command) (latest_step es) ∙ ap (λ (b : Bool). goes_beyond k e || b) (beyond_latest k es)

beyond_of_share : (k n : ℕ) (share : List Edit) (to : ℕ) → list_any (goes_beyond k) (share_entries n share to) ≡ nat_lt k to
beyond_of_share k n [] to = or-false (nat_lt k to)
beyond_of_share k n (f ∷ share) to =
    let none : nat_lt k 0 ≡ false = le-ltb k 0 (omega arith) in
    ap (λ (b : Bool). b || list_any (goes_beyond k) (share_entries n share to)) none ∙ beyond_of_share k n share to

beyond_of_shares : (k n : ℕ) (share : List Edit) (shares : List (List Edit)) (to : ℕ) → any_work (goes_beyond k) (works_from n (share ∷ shares) to) ≡ nat_lt k to
beyond_of_shares k n share [] to = or-false (list_any (goes_beyond k) (share_entries n share to)) ∙ beyond_of_share k n share to
beyond_of_shares k n share (next ∷ shares) to =
    let here = beyond_of_share k n share to in
    let rest = beyond_of_shares k (n + 1) next shares to in
    (λ i. here i || rest i) ∙ or_self (nat_lt k to)

-- two numbers are equal if the same numbers are below them
same_smaller : (a b : ℕ) → ((k : ℕ) → nat_lt k a ≡ nat_lt k b) → a ≡ b
same_smaller a b same =
    let most : a ≤ b = ltb-false b a (same b ∙ le-ltb b b (omega arith)) in
    let least : b ≤ a = ltb-false a b (sym (same a) ∙ le-ltb a a (omega arith)) in omega arith

step_of_crowd : (journal : List Entry) (ss : List Session) (shares : List (List Edit)) (to : ℕ) → AreApart ss → IsWrittenBy journal ss
    → map work_of ss ≡ works_from 0 shares to → 0 < length shares → latest_step journal ≡ to
step_of_crowd journal ss [] to apart by work some = absurd (omega arith)
step_of_crowd journal ss (share ∷ shares) to apart by work some = same_smaller (latest_step journal) to (λ k.
    beyond_latest k journal ∙ any_of_shares (goes_beyond k) journal ss (share ∷ shares) to apart by work ∙ beyond_of_shares k 0 share shares to)

-- ---- the number of entries

abbrev entry_count : List (ℕ × List Entry) → ℕ
entry_count [] = 0
entry_count (w ∷ works) = length w.1 + entry_count works

count_of_sessions : (ss : List Session) → write_count ss ≡ entry_count (map work_of ss)
count_of_sessions [] = refl
count_of_sessions (s ∷ ss) =
    let rest = count_of_sessions ss in
    let here : length (entries_written s) ≡ length s.view.own = length-map s.view.own (λ (w : Write). w.1) in omega arith

count_of_share : (n : ℕ) (share : List Edit) (to : ℕ) → length (share_entries n share to) ≡ length share + 1
count_of_share n [] to = omega arith
count_of_share n (f ∷ share) to = let rest = count_of_share n share to in omega arith

count_of_shares : (n : ℕ) (shares : List (List Edit)) (to : ℕ) → entry_count (works_from n shares to) ≡ crowd_writes shares
count_of_shares n [] to = refl
count_of_shares n (share ∷ shares) to =
    let here = count_of_share n share to in
    let rest = count_of_shares (n + 1) shares to in
    let both = length-append share (edits_of shares) in omega arith

pub length_of_crowd : (journal : List Entry) (ss : List Session) (shares : List (List Edit)) (to : ℕ) → IsWrittenBy journal ss
    → map work_of ss ≡ works_from 0 shares to → length journal ≡ crowd_writes shares
length_of_crowd journal ss shares to by work = by.0 ∙ count_of_sessions ss ∙ ap entry_count work ∙ count_of_shares 0 shares to

-- ---- the resulting sheet

sheet_of_crowd : (plan : Plan) (journal : List Entry) (ss : List Session) (shares : List (List Edit)) (to : ℕ) → AreApart ss → IsWrittenBy journal ss
    → map work_of ss ≡ works_from 0 shares to → 0 < length shares → (replay (replica_of_plan plan 0) journal).sheet ≡ crowd_sheet plan shares to
sheet_of_crowd plan journal ss shares to apart by work some =
    let edits : winners (union empty (edits_taken journal)) ≡ crowd_winners shares =
    ap winners (union-empty_first (edits_taken journal) ∙ edits_of_crowd journal ss shares to apart by work) in
    let latest = step_of_crowd journal ss shares to apart by work some in
    let horizon : max 0 (latest_step journal) ≡ to = omega arith in
    sheet_of_replay (replica_of_plan plan 0) journal winners-empty ∙ (λ i. let s : Sheet = record { plan = plan; edits = edits i; horizon = horizon i } in s)

-- the sheet of a closed store is that of its crowd, if the store was opened on the plan
pub closed_sheet : (plan : Plan) (r : Replica) (sheet : Sheet) (journal : List Entry) (ss : List Session) (vecs : List (Vec Edit Global)) (to : ℕ)
    → r ≡ replica_of_plan plan 0 → sheet ≡ (replay r journal).sheet → AreApart ss → IsWrittenBy journal ss
    → map work_of ss ≡ works_from 0 (shares_of vecs) to → 0 < length vecs → sheet ≡ crowd_sheet plan (shares_of vecs) to
closed_sheet plan r sheet journal ss vecs to opened is apart by work some =
    let same : length (shares_of vecs) ≡ length vecs = length-map vecs (λ (v : Vec Edit Global). v.items) in
    is ∙ ap (λ (q : Replica). (replay q journal).sheet) opened ∙ sheet_of_crowd plan journal ss (shares_of vecs) to apart by work (omega arith)
