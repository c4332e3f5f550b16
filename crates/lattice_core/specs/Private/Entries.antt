-- What the functions of a map find and leave, as lists of entries, and how the entries lie in pages.
use Rattle.std.specs.Prelude.{◌≡◌, ℕ, suc, Bool, cond, List, [], ◌∷◌, ◌++◌}
use Rattle.std.specs.List.{AllByRecursion}
use Rattle.std.specs.Ordering.{is_lt}
use Rattle.std.specs.declared.cmp.Ordering.{Ordering}
use Rattle.std.specs.declared.option.Option.{Option}
use Rattle.std.specs.declared.option.Option.TheVariants.{None, Some}
use Rattle.std.specs.FinMap.Entries.{find, put}
use Rattle.lattice_core.specs.Map.{IsProperMap, join_option}

-- the entries with v joined in at a key, even if v is a bottom
abbrev pub put_joined : {K V : Type 0} → (K → K → Ordering) → (V → V → V) → List (K × V) → K → V → List (K × V)
put_joined cmp join es k v = put cmp k (join_option join (find cmp k es) v) es

-- there is a value, and v is at most that value
abbrev pub IsAtMostOption : {V : Type 0} → (V → V → V) → V → Option V → Type 0
IsAtMostOption join v None = ⊥
IsAtMostOption join v (Some w) = join v w ≡ w

-- the number of pairs up to and including a key, if the keys rise
abbrev pub count_up_to : {K X : Type 0} → (K → K → Ordering) → K → List (K × X) → ℕ
count_up_to cmp k [] = 0
count_up_to cmp k (p ∷ ps) = cond (is_lt (cmp k p.0)) 0 (suc (count_up_to cmp k ps))

-- the entries of all pages; each page comes with its first key
abbrev pub all_entries : {K V : Type 0} → List (K × List (K × V)) → List (K × V)
all_entries [] = []
all_entries (p ∷ ps) = p.1 ++ all_entries ps

-- the entries begin with one at this key
abbrev pub BeginsWith : {K V : Type 0} → K → List (K × V) → Type 0
BeginsWith k [] = ⊥
BeginsWith k (e ∷ es) = e.0 ≡ k

-- each page comes with its first key
abbrev pub ArePages : {K V : Type 0} → List (K × List (K × V)) → Type 0
ArePages ps = AllByRecursion (λ p. BeginsWith p.0 p.1) ps

-- the items of the value, or no items if there is no value
abbrev pub items_if_any : {A X : Type 0} → Option A → (A → List X) → List X
items_if_any None items = []
items_if_any (Some a) items = items a

-- the pages of a map: each comes with its first key, and their entries are a proper map
pub record IsPaged {K V : Type 0} (cmp : K → K → Ordering) (IsProper : V → Type 0) (is_least : V → Bool)
    (ps : List (K × List (K × V))) : Type 0 where
  pub pages : ArePages ps
  pub proper : IsProperMap cmp IsProper is_least (all_entries ps)
