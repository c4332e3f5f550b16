-- If the journal has all writes of the sessions, and as many entries as they made writes, it has no other entries.
use Rattle.std.proofs.Common.{◌≡◌, ◌≢◌, ℕ, zero, suc, ◌+◌, ◌≤◌, ◌<◌, Bool, true, false, List, [], ◌∷◌, ◌++◌, length, slice_get, Some, refl, sym, ap, ◌∙◌, subst, arith, eq-eqb, ne_eqb}
use Rattle.std.specs.Prelude.{nat_eq, if◌then◌else◌}
use Rattle.std.specs.List.{AllByRecursion}
use native.Mathlib.Decide.{ℕ_discrete}
use Rattle.road_sessions.specs.declared.entry.Entry.{Entry}
use Rattle.road_sessions.specs.Journals.{AreWritesOf, AreAtRisingPlaces, AreInJournal, Write, writes_from, writes_of}
use Rattle.road_sessions.specs.Closings.{AreApart, HasWritesOf, IsWrittenBy, write_count}
use Rattle.road_sessions.specs.Private.ClosingSessions.{IsSessionOf}
use Rattle.road_sessions.specs.Sessions.{Session}

-- ---- one session: it has at least as many entries in the journal as it made writes

-- a write is in the part of a journal that begins at a place
abbrev StandsFrom : ℕ → List Entry → Write → Type 0
StandsFrom place journal w = (k : ℕ) × (w.0 ≡ place + k) × (slice_get journal k ≡ Some w.1)

from_zero : (journal : List Entry) (writes : List Write) → AreInJournal writes journal → AllByRecursion (StandsFrom 0 journal) writes
from_zero journal [] stand = tt
from_zero journal (w ∷ ws) stand = ((w.0, omega arith, stand.0), from_zero journal ws stand.1)

in_rest : (place : ℕ) (e : Entry) (es : List Entry) (w : Write) (k : ℕ) → place < w.0 → w.0 ≡ place + k → slice_get (e ∷ es) k ≡ Some w.1 → StandsFrom (place + 1) es w
in_rest place e es w zero after at got = absurd (omega arith)
in_rest place e es w (suc k) after at got = (k, omega arith, got)

-- writes after the first place are in the rest of the journal
all_in_rest : (place : ℕ) (e : Entry) (es : List Entry) (writes : List Write) → AllByRecursion (λ (w : Write). place < w.0) writes → AllByRecursion (StandsFrom place (e ∷ es)) writes → AllByRecursion (StandsFrom (place + 1) es) writes
all_in_rest place e es [] after stand = tt
all_in_rest place e es (w ∷ ws) after stand = (in_rest place e es w stand.0.0 after.0 stand.0.1 stand.0.2, all_in_rest place e es ws after.1 stand.1)

after_lower : (place n : ℕ) (writes : List Write) → place ≤ n → AllByRecursion (λ (w : Write). n < w.0) writes → AllByRecursion (λ (w : Write). place < w.0) writes
after_lower place n [] low after = tt
after_lower place n (w ∷ ws) low after = (let a = after.0 in omega arith, after_lower place n ws low after.1)

-- there are at least as many entries as writes, and if there are exactly as many, they are the writes
abbrev Covers : List Write → List Write → Type 0
Covers entries writes = (length writes ≤ length entries) × (length entries ≤ length writes → entries ≡ writes)

none_left : (entries : List Write) → length entries ≤ 0 → entries ≡ []
none_left [] none = refl
none_left (x ∷ xs) none = absurd (omega arith)

covers_beside : (b : Bool) (x : Write) (entries writes : List Write) → Covers entries writes → Covers (if b then x ∷ entries else entries) writes
covers_beside true x entries writes c =
    (let few = c.0 in omega arith, λ (short : suc (length entries) ≤ length writes). let few = c.0 in absurd (omega arith))
covers_beside false x entries writes c = c

covers_with : (b : Bool) (x w : Write) (entries writes : List Write) → b ≡ true → x ≡ w → Covers entries writes → Covers (if b then x ∷ entries else entries) (w ∷ writes)
covers_with true x w entries writes mine same c =
    (let few = c.0 in omega arith, λ (short : suc (length entries) ≤ suc (length writes)). let rest : entries ≡ writes = c.1 (omega arith) in cc (same, rest))
covers_with false x w entries writes mine same c = absurd (cc (mine))

-- the first entry is the first write, or no write
covers_step : (n place : ℕ) (e : Entry) (es : List Entry) (w : Write) (ws : List Write) (k : ℕ) → w.0 ≡ place + k → slice_get (e ∷ es) k ≡ Some w.1
    → AllByRecursion (λ (u : Write). w.0 < u.0) ws → w.1.session ≡ n → AllByRecursion (StandsFrom place (e ∷ es)) (w ∷ ws)
    → (AllByRecursion (StandsFrom (place + 1) es) ws → Covers (writes_from n (place + 1) es) ws)
    → (AllByRecursion (StandsFrom (place + 1) es) (w ∷ ws) → Covers (writes_from n (place + 1) es) (w ∷ ws))
    → Covers (writes_from n place (e ∷ es)) (w ∷ ws)
covers_step n place e es w ws zero at got after mine stand later all =
    let same : e ≡ w.1 = cc (got) in
    let here : place ≡ w.0 = omega arith in
    covers_with (nat_eq e.session n) (place, e) w (writes_from n (place + 1) es) ws (eq-eqb e.session n (ap (λ (x : Entry). x.session) same ∙ mine)) (λ i. (here i, same i))
    (later (all_in_rest place e es ws (after_lower place w.0 ws (omega arith) after) stand.1))
covers_step n place e es w ws (suc k) at got after mine stand later all =
    covers_beside (nat_eq e.session n) (place, e) (writes_from n (place + 1) es) (w ∷ ws)
    (all (all_in_rest place e es (w ∷ ws) (omega arith, after_lower place w.0 ws (omega arith) after) stand))

covers : (n place : ℕ) (journal : List Entry) (writes : List Write) → AreAtRisingPlaces writes → AreWritesOf n writes → AllByRecursion (StandsFrom place journal) writes → Covers (writes_from n place journal) writes
covers n place [] [] rise mine stand = (omega arith, λ short. refl)
covers n place [] (w ∷ ws) rise mine stand = absurd (let got = stand.0.2 in cc (got))
covers n place (e ∷ es) [] rise mine stand = (omega arith, λ short. none_left (writes_from n place (e ∷ es)) short)
covers n place (e ∷ es) (w ∷ ws) rise mine stand =
    covers_step n place e es w ws stand.0.0 stand.0.1 stand.0.2 rise.0 mine.0 stand (λ s. covers n (place + 1) es ws rise.1 mine.1 s) (λ s. covers n (place + 1) es (w ∷ ws) rise mine s)

-- ---- all sessions: they have no more entries than the journal

-- the number of entries of these sessions in the part of a journal that begins at a place
abbrev pub entries_of : ℕ → List Entry → List Session → ℕ
entries_of place journal [] = 0
entries_of place journal (s ∷ ss) = length (writes_from s.number place journal) + entries_of place journal ss

one_at_most : (b : Bool) (x : Write) (entries : List Write) → length (if b then x ∷ entries else entries) ≤ suc (length entries)
one_at_most true x entries = omega arith
one_at_most false x entries = omega arith

no_entry : (b : Bool) (x : Write) (entries : List Write) → b ≡ false → length (if b then x ∷ entries else entries) ≡ length entries
no_entry true x entries other = absurd (cc (other))
no_entry false x entries other = refl

-- an entry of another session adds nothing
pub of_none : (place : ℕ) (e : Entry) (es : List Entry) (ss : List Session) → AllByRecursion (λ (t : Session). e.session ≢ t.number) ss → entries_of place (e ∷ es) ss ≡ entries_of (place + 1) es ss
of_none place e es [] other = refl
of_none place e es (s ∷ ss) other =
    let rest = of_none place e es ss other.1 in
    let here = no_entry (nat_eq e.session s.number) (place, e) (writes_from s.number (place + 1) es) (ne_eqb e.session s.number other.0) in omega arith

of_first_or_not : (place : ℕ) (e : Entry) (es : List Entry) (s : Session) (ss : List Session) → AreApart (s ∷ ss) → Dec (e.session ≡ s.number) → entries_of place (e ∷ es) ss ≤ suc (entries_of (place + 1) es ss)
    → entries_of place (e ∷ es) (s ∷ ss) ≤ suc (entries_of (place + 1) es (s ∷ ss))
of_first_or_not place e es s ss apart (yes is) rest =
    let others = of_none place e es ss (subst (λ (k : ℕ). AllByRecursion (λ (t : Session). k ≢ t.number) ss) (sym is) apart.0) in
    let here = one_at_most (nat_eq e.session s.number) (place, e) (writes_from s.number (place + 1) es) in omega arith
of_first_or_not place e es s ss apart (no not) rest =
    let here = no_entry (nat_eq e.session s.number) (place, e) (writes_from s.number (place + 1) es) (ne_eqb e.session s.number not) in omega arith

-- an entry belongs to at most one session
pub of_one : (place : ℕ) (e : Entry) (es : List Entry) (ss : List Session) → AreApart ss → entries_of place (e ∷ es) ss ≤ suc (entries_of (place + 1) es ss)
of_one place e es [] apart = omega arith
of_one place e es (s ∷ ss) apart = of_first_or_not place e es s ss apart (ℕ_discrete e.session s.number) (of_one place e es ss apart.1)

none_of_none : (place : ℕ) (ss : List Session) → entries_of place [] ss ≡ 0
none_of_none place [] = refl
none_of_none place (s ∷ ss) = let rest = none_of_none place ss in omega arith

pub few_entries : (place : ℕ) (journal : List Entry) (ss : List Session) → AreApart ss → entries_of place journal ss ≤ length journal
few_entries place [] ss apart = let none = none_of_none place ss in omega arith
few_entries place (e ∷ es) ss apart = let rest = few_entries (place + 1) es ss apart in let first = of_one place e es ss apart in omega arith

-- ---- both together

many_entries : (journal : List Entry) (ss : List Session) → AllByRecursion (IsSessionOf journal) ss → write_count ss ≤ entries_of 0 journal ss
many_entries journal [] known = omega arith
many_entries journal (s ∷ ss) known =
    let rest = many_entries journal ss known.1 in
    let first = (covers s.number 0 journal s.view.own known.0.0 known.0.1 (from_zero journal s.view.own known.0.2)).0 in omega arith

all_have_writes : (journal : List Entry) (ss : List Session) → AllByRecursion (IsSessionOf journal) ss → entries_of 0 journal ss ≤ write_count ss → AllByRecursion (HasWritesOf journal) ss
all_have_writes journal [] known few = tt
all_have_writes journal (s ∷ ss) known few =
    let many = many_entries journal ss known.1 in
    let c = covers s.number 0 journal s.view.own known.0.0 known.0.1 (from_zero journal s.view.own known.0.2) in
    let first = c.0 in
    let short : length (writes_of s.number journal) ≤ length s.view.own = omega arith in
    let others : entries_of 0 journal ss ≤ write_count ss = omega arith in
    ((c.1 short, known.0.3), all_have_writes journal ss known.1 others)

pub written_by : (journal : List Entry) (ss : List Session) → AreApart ss → AllByRecursion (IsSessionOf journal) ss → length journal ≡ write_count ss → IsWrittenBy journal ss
written_by journal ss apart known count = let few = few_entries 0 journal ss apart in (count, all_have_writes journal ss known (omega arith))

pub write_count_one_more : (ss : List Session) (s : Session) → write_count (ss ++ s ∷ []) ≡ write_count ss + length s.view.own
write_count_one_more [] s = omega arith
write_count_one_more (t ∷ ss) s = let rest = write_count_one_more ss s in omega arith

no_writes : (ss : List Session) → length ss ≡ 0 → write_count ss ≡ 0
no_writes [] none = refl
no_writes (s ∷ ss) none = absurd (omega arith)

one_longer : (ss : List Session) (s : Session) → length (ss ++ s ∷ []) ≡ length ss + 1
one_longer [] s = omega arith
one_longer (t ∷ ss) s = let rest = one_longer ss s in omega arith

-- without sessions nothing is added to a share
pub shares_of_none : (parts amount : ℕ) (ss : List Session) → length ss ≡ 0 → (parts ≡ parts + length ss) × (amount ≡ amount + write_count ss)
shares_of_none parts amount ss none = let writes = no_writes ss none in (omega arith, omega arith)

-- the last session adds its share first, then the sessions before it add theirs
pub shares_with_last : (parts amount part own merged_parts merged_amount all_parts all_amount : ℕ) (whole rest : List Session) (s : Session) → whole ≡ rest ++ s ∷ []
    → part ≡ 1 → own ≡ length s.view.own → merged_parts ≡ parts + part → merged_amount ≡ amount + own
    → all_parts ≡ merged_parts + length rest → all_amount ≡ merged_amount + write_count rest
    → (all_parts ≡ parts + length whole) × (all_amount ≡ amount + write_count whole)
shares_with_last parts amount part own merged_parts merged_amount all_parts all_amount whole rest s is one writes merges adds all sum =
    let long = ap length is ∙ one_longer rest s in
    let count = ap write_count is ∙ write_count_one_more rest s in
    (omega arith, omega arith)
