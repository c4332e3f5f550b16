-- What the exchanges of a logbook's first word do: one writes a page, one shows that there is no further page, one
-- makes a pen.
use Rattle.std.proofs.Common.{◌≡◌, ◌∙◌, ◌≢◌, ℕ, zero, suc, ◌<◌, ◌==◌, Bool, true, false, List, [], ◌∷◌, ◌++◌, length, length-append, length-set, set, None, refl, sym, ap, subst, inl, arith, eq-eqb, ne_eqb}
use Rattle.std.specs.Prelude.{nat_eq, if◌then◌else◌}
use Rattle.std.specs.List.{AllByRecursion}
use Rattle.std.proofs.lemmas.Bool.{true≢false}
use Rattle.std.proofs.lemmas.List.{append-nil}
use mathlib.Core.List.{IsPrefix}
use prog.Atomic.{either}
use Rattle.logbook.specs.Pages.{Cell, Moves, Nib, View, adds, cell, gives, keeps, may_write, no_nib, step}
use Rattle.road_sessions.specs.declared.entry.Entry.{Entry}
use Rattle.road_sessions.specs.declared.history.Page.{Page}
use Rattle.road_sessions.specs.Private.Books.{Appends, HasPages, IsHome, KnowsAll, MakesPen, entries_from, pen_after}
use Rattle.road_sessions.proofs.Prefixes.{each_of_both, prefix_of_longer}

-- ---- words at home

home_set : (cells : List Cell) (k i n : ℕ) → IsHome cells i → IsHome (set cells k (n, true)) i
home_set [] k i n home = home
home_set (c ∷ cells) zero zero n home = refl
home_set (c ∷ cells) zero (suc i) n home = home
home_set (c ∷ cells) (suc k) zero n home = home
home_set (c ∷ cells) (suc k) (suc i) n home = home_set cells k i n home

home_here : (cells : List Cell) (k n : ℕ) → k < length cells → IsHome (set cells k (n, true)) k
home_here [] k n in_range = absurd (omega arith)
home_here (c ∷ cells) zero n in_range = refl
home_here (c ∷ cells) (suc k) n in_range = home_here cells k n (omega arith)

home_longer : (cells : List Cell) (c : Cell) (i : ℕ) → IsHome cells i → IsHome (cells ++ c ∷ []) i
home_longer [] c i home = absurd (true≢false (sym home))
home_longer (d ∷ cells) c zero home = home
home_longer (d ∷ cells) c (suc i) home = home_longer cells c i home

-- a word that is at home stays there, so the pens of written pages stay spent
spent_after : (cells after : List Cell) (pages : List Page) → ((i : ℕ) → IsHome cells i → IsHome after i) → AllByRecursion (λ (p : Page). IsHome cells p.by) pages → AllByRecursion (λ (p : Page). IsHome after p.by) pages
spent_after cells after [] stay spent = tt
spent_after cells after (p ∷ pages) stay spent = (stay p.by spent.0, spent_after cells after pages stay spent.1)

-- a pen that is not spent has written no page
wrote_none : (cells : List Cell) (pen : ℕ) (pages : List Page) → (cell cells pen).1 ≡ false → AllByRecursion (λ (p : Page). IsHome cells p.by) pages → AllByRecursion (λ (p : Page). p.by ≢ pen) pages
wrote_none cells pen [] away spent = tt
wrote_none cells pen (p ∷ pages) away spent =
    ((λ (is : p.by ≡ pen). true≢false (sym (subst (λ (k : ℕ). IsHome cells k) is spent.0) ∙ away)), wrote_none cells pen pages away spent.1)

-- ---- entries of more pages

entries_either : (b : Bool) (pen : ℕ) (p : Page) (pages more : List Page)
    → entries_from p.next (pages ++ more) ≡ entries_from p.next pages ++ entries_from (pen_after p.next pages) more
    → entries_from pen (pages ++ more) ≡ entries_from pen pages ++ entries_from (pen_after pen pages) more
    → (if b then p.entry ∷ entries_from p.next (pages ++ more) else entries_from pen (pages ++ more))
    ≡ (if b then p.entry ∷ entries_from p.next pages else entries_from pen pages) ++ entries_from (if b then pen_after p.next pages else pen_after pen pages) more
entries_either true pen p pages more mine other = ap (λ (es : List Entry). p.entry ∷ es) mine
entries_either false pen p pages more mine other = other

entries_more : (pen : ℕ) (pages more : List Page) → entries_from pen (pages ++ more) ≡ entries_from pen pages ++ entries_from (pen_after pen pages) more
entries_more pen [] more = refl
entries_more pen (p ∷ pages) more = entries_either (nat_eq p.by pen) pen p pages more (entries_more p.next pages more) (entries_more pen pages more)

pen_either : (b : Bool) (pen : ℕ) (p : Page) (pages more : List Page)
    → pen_after p.next (pages ++ more) ≡ pen_after (pen_after p.next pages) more
    → pen_after pen (pages ++ more) ≡ pen_after (pen_after pen pages) more
    → (if b then pen_after p.next (pages ++ more) else pen_after pen (pages ++ more)) ≡ pen_after (if b then pen_after p.next pages else pen_after pen pages) more
pen_either true pen p pages more mine other = mine
pen_either false pen p pages more mine other = other

pen_more : (pen : ℕ) (pages more : List Page) → pen_after pen (pages ++ more) ≡ pen_after (pen_after pen pages) more
pen_more pen [] more = refl
pen_more pen (p ∷ pages) more = pen_either (nat_eq p.by pen) pen p pages more (pen_more p.next pages more) (pen_more pen pages more)

-- a prefix of the pages has a prefix of the entries
pub entries_prefix : (pen : ℕ) (seen pages : List Page) → IsPrefix seen pages → IsPrefix (entries_from pen seen) (entries_from pen pages)
entries_prefix pen seen pages p =
    (entries_from (pen_after pen seen) p.0, sym (entries_more pen seen p.0) ∙ ap (λ (l : List Page). entries_from pen l) p.1)

-- ---- whoever has the pen of the next page has seen all pages

nothing_by : (pen : ℕ) (pages : List Page) → AllByRecursion (λ (p : Page). p.by ≢ pen) pages → (entries_from pen pages ≡ []) × (pen_after pen pages ≡ pen)
nothing_by pen [] none = (refl, refl)
nothing_by pen (p ∷ pages) none =
    let other : nat_eq p.by pen ≡ false = ne_eqb p.by pen none.0 in
    let rest = nothing_by pen pages none.1 in (
      ap (λ (b : Bool). if b then p.entry ∷ entries_from p.next pages else entries_from pen pages) other ∙ rest.0,
      ap (λ (b : Bool). if b then pen_after p.next pages else pen_after pen pages) other ∙ rest.1,
    )

all_behind : (P : Page → Type 0) (xs ys : List Page) → AllByRecursion P (xs ++ ys) → AllByRecursion P ys
all_behind P [] ys all = all
all_behind P (x ∷ xs) ys all = all_behind P xs ys all.1

all_seen : (first : ℕ) (seen pages : List Page) (pen : ℕ) → IsPrefix seen pages → pen_after first seen ≡ pen → AllByRecursion (λ (p : Page). p.by ≢ pen) pages → (entries_from first pages ≡ entries_from first seen) × (pen_after first pages ≡ pen)
all_seen first seen pages pen p is none =
    let rest = all_behind (λ (q : Page). q.by ≢ pen) seen p.0 (subst (λ (l : List Page). AllByRecursion (λ (q : Page). q.by ≢ pen) l) (sym p.1) none) in
    let nothing = nothing_by (pen_after first seen) p.0 (subst (λ (k : ℕ). AllByRecursion (λ (q : Page). q.by ≢ k) p.0) (sym is) rest) in (
      ap (λ (l : List Page). entries_from first l) (sym p.1) ∙ (entries_more first seen p.0 ∙ (ap (λ (es : List Entry). entries_from first seen ++ es) nothing.0 ∙ append-nil (entries_from first seen))),
      ap (λ (l : List Page). pen_after first l) (sym p.1) ∙ (pen_more first seen p.0 ∙ (nothing.1 ∙ is)),
    )

-- ---- the exchanges

-- clients of this logbook need nothing from one another
abbrev pub nothing_shown : List Page → List Page
nothing_shown pages = []

abbrev pub nothing_asked : List Page → List Page → ℕ → Type 0
nothing_asked before after answer = Unit {0}

-- a client that has seen these pages, has this pen and offers nothing
abbrev pub seen_with : List Page → Nib → View Page ℕ
seen_with seen pen = (seen, (pen, None))

page_behind : (first : ℕ) (pages : List Page) (p : Page) → pen_after first pages ≡ p.by → (entries_from first (pages ++ p ∷ []) ≡ entries_from first pages ++ p.entry ∷ []) × (pen_after first (pages ++ p ∷ []) ≡ p.next)
page_behind first pages p is =
    let mine : nat_eq p.by (pen_after first pages) ≡ true = eq-eqb p.by (pen_after first pages) (sym is) in (
      entries_more first pages (p ∷ []) ∙ ap (λ (b : Bool). entries_from first pages ++ (if b then p.entry ∷ [] else [])) mine,
      pen_more first pages (p ∷ []) ∙ ap (λ (b : Bool). if b then p.next else pen_after first pages) mine,
    )

-- in any logbook, whoever has a pen that may write can write a page with it
pub may_append : (seen : List Page) (p : Page) (pen : Nib) → pen.right ≡ may_write → pen.key ≡ p.by
    → Moves HasPages nothing_shown nothing_asked 0 (seen_with seen pen) (λ n. either (n == 0) 0 n) (Appends (step 0 0 0 p) (seen_with seen pen))
may_append seen p pen right by cells pages has prefix away =
    let here = away right in
    let n : ℕ = either ((cell cells 0).0 == 0) 0 (cell cells 0).0 in
    let exchanged : List Cell = set cells 0 (n, true) in
    let after : List Cell = set exchanged pen.key (pen.value, true) in
    let long : length exchanged ≡ length cells = length-set cells 0 (n, true) in
    let same : length after ≡ length exchanged = length-set exchanged pen.key (pen.value, true) in
    let some : 0 < length cells = has.0 in
    let in_range : pen.key < length cells = here.0 in
    let word = home_set exchanged pen.key 0 pen.value (home_set cells 0 0 n has.1) in
    let spent : IsHome after p.by = subst (λ (k : ℕ). IsHome after k) by (home_here exchanged pen.key pen.value (omega arith)) in
    let before = spent_after cells after pages (λ i home. home_set exchanged pen.key i pen.value (home_set cells 0 i n home)) has.2 in
    let none = wrote_none cells pen.key pages here.1 has.2 in (
      has.0,
      has.1,
      (
        gives,
        p ∷ [],
        None,
        right,
        (omega arith, word, each_of_both (λ (q : Page). IsHome after q.by) pages (p ∷ []) before (spent, tt)),
        inl (refl, refl),
        λ first known front is.
            let whole = all_seen first known pages pen.key (prefix_of_longer known seen pages front prefix) (is ∙ sym by) none in
            let behind = page_behind first pages p (whole.1 ∙ by) in
            (behind.0 ∙ ap (λ (es : List Entry). es ++ p.entry ∷ []) whole.0, behind.1),
      ),
    )

-- whoever has a pen that may write can learn all pages
pub may_know_all : (seen : List Page) (ask : Page) (pen : Nib) → pen.right ≡ may_write
    → Moves HasPages nothing_shown nothing_asked 0 (seen_with seen pen) (λ n. either (n == 0) 0 n) (KnowsAll (step 0 0 0 ask) (seen_with seen pen))
may_know_all seen ask pen right cells pages has prefix away =
    let here = away right in
    let n : ℕ = either ((cell cells 0).0 == 0) 0 (cell cells 0).0 in
    let after : List Cell = set cells 0 (n, true) in
    let long : length after ≡ length cells = length-set cells 0 (n, true) in
    let some : 0 < length cells = has.0 in
    let spent = spent_after cells after pages (λ i home. home_set cells 0 i n home) has.2 in
    let none = wrote_none cells pen.key pages here.1 has.2 in (
      has.0,
      has.1,
      (
        keeps,
        [],
        None,
        tt,
        (omega arith, home_set cells 0 0 n has.1, subst (λ (l : List Page). AllByRecursion (λ (q : Page). IsHome after q.by) l) (sym (append-nil pages)) spent),
        inl (refl, refl),
        (
          refl,
          λ first known front is.
              ap (λ (l : List Page). entries_from first l) (append-nil pages)
              ∙ (all_seen first known pages pen.key (prefix_of_longer known seen pages front prefix) is none).0,
        ),
      ),
    )

-- a client without a pen can make one
pub may_make_pen : (seen : List Page) (ask : Page)
    → Moves HasPages nothing_shown nothing_asked 0 (seen_with seen no_nib) (λ n. either (n == 0) 0 n) (MakesPen (step 0 0 0 ask) (seen_with seen no_nib))
may_make_pen seen ask cells pages has prefix away =
    let n : ℕ = either ((cell cells 0).0 == 0) 0 (cell cells 0).0 in
    let exchanged : List Cell = set cells 0 (n, true) in
    let after : List Cell = exchanged ++ (0, false) ∷ [] in
    let more = length-append exchanged ((0, false) ∷ []) in
    let some : 0 < length cells = has.0 in
    let spent = spent_after cells after pages (λ i home. home_longer exchanged (0, false) i (home_set cells 0 i n home)) has.2 in (
      has.0,
      has.1,
      (
        adds,
        [],
        None,
        tt,
        (omega arith, home_longer exchanged (0, false) 0 (home_set cells 0 0 n has.1), subst (λ (l : List Page). AllByRecursion (λ (q : Page). IsHome after q.by) l) (sym (append-nil pages)) spent),
        inl (refl, refl),
        (length cells, refl),
      ),
    )
