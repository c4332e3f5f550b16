-- If exactly these sessions wrote a journal, it has an entry that passes a test exactly if one of them wrote such an
-- entry.
use Rattle.std.proofs.Common.{◌≡◌, ◌∙◌, ◌≢◌, ℕ, ◌+◌, ◌≤◌, Bool, true, false, List, [], ◌∷◌, length, map, refl, sym, ap, arith, eq-eqb, inl, inr}
use Rattle.std.specs.Prelude.{nat_eq, ◌||◌, ◌&&◌, if◌then◌else◌}
use Rattle.std.specs.List.{AllByRecursion, list_any}
use Rattle.std.proofs.lemmas.Bool.{cases_Bool, or_parts, true≢false}
use Rattle.road_sessions.specs.declared.entry.Entry.{Entry}
use Rattle.road_sessions.specs.Closings.{AreApart, HasWritesOf, IsWrittenBy, write_count}
use Rattle.road_sessions.specs.Journals.{Write, writes_from}
use Rattle.road_sessions.specs.Merges.{entries_written}
use Rattle.road_sessions.specs.Sessions.{Session}
use Rattle.road_sessions.proofs.ClosedSessions.{entries_of, few_entries, of_none, of_one}

-- ---- each entry belongs to one of the sessions, since there are as many entries as writes

-- whether one of these sessions has this number
abbrev has_number : ℕ → List Session → Bool
has_number n ss = list_any (λ (s : Session). nat_eq n s.number) ss

none_has : (n : ℕ) (ss : List Session) → has_number n ss ≡ false → AllByRecursion (λ (s : Session). n ≢ s.number) ss
none_has n [] none = tt
none_has n (s ∷ ss) none =
    let parts = or_parts (nat_eq n s.number) (has_number n ss) none in
    (λ (is : n ≡ s.number). true≢false (sym (eq-eqb n s.number is) ∙ parts.0), none_has n ss parts.1)

abbrev AreOfSessions : List Session → List Entry → Type 0
AreOfSessions ss es = AllByRecursion (λ (e : Entry). has_number e.session ss ≡ true) es

-- if the sessions have as many entries as the journal, no entry belongs to anybody else
all_of_sessions : (place : ℕ) (es : List Entry) (ss : List Session) → AreApart ss → length es ≤ entries_of place es ss → AreOfSessions ss es
all_of_sessions place [] ss apart many = tt
all_of_sessions place (e ∷ es) ss apart many =
    let most = few_entries (place + 1) es ss apart in
    let first = of_one place e es ss apart in (
      elim (cases_Bool (has_number e.session ss)) as (λ _. has_number e.session ss ≡ true) [
        | inl has ↦ has
        | inr none ↦ let same = of_none place e es ss (none_has e.session ss none) in absurd (omega arith)
      ],
      all_of_sessions (place + 1) es ss apart (omega arith),
    )

-- ---- an entry passes exactly if it passes as an entry of its session

-- whether an entry of a session passes, in the part of a journal that begins at a place
abbrev passes_of : (Entry → Bool) → ℕ → ℕ → List Entry → Bool
passes_of p n place es = list_any p (map (λ (w : Write). w.1) (writes_from n place es))

passes_one : (p : Entry → Bool) (mine : Bool) (place : ℕ) (e : Entry) (later : List Write)
    → list_any p (map (λ (w : Write). w.1) (if mine then (place, e) ∷ later else later)) ≡ ((mine && p e) || list_any p (map (λ (w : Write). w.1) later))
passes_one p true place e later = refl
passes_one p false place e later = refl

-- the same for the first entry, of this session or another one, and the later entries
one_and_later : (mine others p a r : Bool) → (((mine && p) || a) || ((others && p) || r)) ≡ (((mine || others) && p) || (a || r))
one_and_later true true true a r = refl
one_and_later true true false a r = refl
one_and_later true false true a r = refl
one_and_later true false false a r = refl
one_and_later false true true true r = refl
one_and_later false true true false r = refl
one_and_later false true false a r = refl
one_and_later false false p a r = refl

passes_first : (p : Entry → Bool) (place : ℕ) (e : Entry) (es : List Entry) (ss : List Session)
    → list_any (λ (s : Session). passes_of p s.number place (e ∷ es)) ss ≡ ((has_number e.session ss && p e) || list_any (λ (s : Session). passes_of p s.number (place + 1) es) ss)
passes_first p place e es [] = refl
passes_first p place e es (s ∷ ss) =
    let here = passes_one p (nat_eq e.session s.number) place e (writes_from s.number (place + 1) es) in
    let rest = passes_first p place e es ss in
    (λ i. here i || rest i)
    ∙ one_and_later (nat_eq e.session s.number) (has_number e.session ss) (p e) (passes_of p s.number (place + 1) es) (list_any (λ (t : Session). passes_of p t.number (place + 1) es) ss)

none_passes : (p : Entry → Bool) (place : ℕ) (ss : List Session) → list_any (λ (s : Session). passes_of p s.number place []) ss ≡ false
none_passes p place [] = refl
none_passes p place (s ∷ ss) = none_passes p place ss

passes_in : (p : Entry → Bool) (place : ℕ) (es : List Entry) (ss : List Session) → AreOfSessions ss es
    → list_any p es ≡ list_any (λ (s : Session). passes_of p s.number place es) ss
passes_in p place [] ss all = sym (none_passes p place ss)
passes_in p place (e ∷ es) ss all =
    let later : Bool = list_any (λ (s : Session). passes_of p s.number (place + 1) es) ss in
    ap (λ (b : Bool). p e || b) (passes_in p (place + 1) es ss all.1)
    ∙ sym (passes_first p place e es ss ∙ ap (λ (b : Bool). (b && p e) || later) all.0)

-- ---- the sessions' own entries

passes_own : (p : Entry → Bool) (journal : List Entry) (ss : List Session) → AllByRecursion (HasWritesOf journal) ss
    → list_any (λ (s : Session). passes_of p s.number 0 journal) ss ≡ list_any (λ (s : Session). list_any p (entries_written s)) ss
passes_own p journal [] has = refl
passes_own p journal (s ∷ ss) has =
    let here : passes_of p s.number 0 journal ≡ list_any p (entries_written s) = ap (λ (ws : List Write). list_any p (map (λ (w : Write). w.1) ws)) has.0.0 in
    let rest = passes_own p journal ss has.1 in
    λ i. here i || rest i

as_many : (journal : List Entry) (ss : List Session) → AllByRecursion (HasWritesOf journal) ss → write_count ss ≡ entries_of 0 journal ss
as_many journal [] has = refl
as_many journal (s ∷ ss) has = let rest = as_many journal ss has.1 in let here = ap (λ (ws : List Write). length ws) has.0.0 in omega arith

pub any_written : (p : Entry → Bool) (journal : List Entry) (ss : List Session) → AreApart ss → IsWrittenBy journal ss
    → list_any p journal ≡ list_any (λ (s : Session). list_any p (entries_written s)) ss
any_written p journal ss apart by =
    let own = as_many journal ss by.1 in let all = by.0 in
    passes_in p 0 journal ss (all_of_sessions 0 journal ss apart (omega arith)) ∙ passes_own p journal ss by.1
