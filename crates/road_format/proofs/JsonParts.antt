-- Members and items of JSON values.
use Rattle.std.proofs.Common.{◌≡◌, ◌≢◌, ◌<◌, ◌+◌, ◌∙◌, ℕ, string_bytes, slice_get, get_or, drop, drop-cons, add-one, append_assoc, sym, suc, List, [], ◌∷◌, ◌++◌, length, map, refl, ap, arith, Option, Some, None, String}
use Rattle.std.specs.declared.alloc.Global.{Global}
use Rattle.std.proofs.lemmas.List.{map-append}
use Rattle.serde_json.specs.Data.{Data}
use Rattle.serde_json.specs.View.{members_of, members_view, items_view, view}
use Rattle.serde_json.specs.declared.value.Value.{Value}
use Rattle.road_format.specs.Fields.{◌>>=◌, member_count, only_member, item_count, values_of_items, two_items}

-- an object has as many members as the map has entries
pub member_count-members_of : {V : Type 0} (f : V → Data) (ms : List (String Global × V)) → member_count (members_of (map (λ m. (m.0, f m.1)) ms)) ≡ length ms
member_count-members_of f [] = refl
member_count-members_of f (m ∷ ms) = ap suc (member_count-members_of f ms)

-- ---- lists

pub item_count-items_view : (vs : List Value) → item_count (items_view vs) ≡ length vs
item_count-items_view [] = refl
item_count-items_view (v ∷ vs) = ap suc (item_count-items_view vs)

-- these values, followed by what was read, if something was read
abbrev pub with_front : {A : Type 0} → List A → Option (List A) → Option (List A)
with_front front None = None
with_front front (Some xs) = Some (front ++ xs)

-- one more value is found, or is the first of what is read later
with_front-behind : {A : Type 0} (found : List A) (x : A) (later : Option (List A)) → with_front (found ++ x ∷ []) later ≡ with_front found (later >>= λ xs. Some (x ∷ xs))
with_front-behind found x None = refl
with_front-behind found x (Some xs) = ap Some (append_assoc found (x ∷ []) xs)

drop_at : {A : Type 0} (xs : List A) (i : ℕ) (x : A) → i < length xs → x ≡ get_or xs i x → drop i xs ≡ x ∷ drop (i + 1) xs
drop_at {A = A} xs i x inside is = rw add-one (drop-cons xs i x inside ∙ ap (λ (y : A). y ∷ drop (suc i) xs) (sym is))

-- the next item is read as the next value
pub next_is_read : {A : Type 0} (read : Data → Option A) (vs : List Value) (i : ℕ) (found : List A) (v : Value) (x : A)
    → i < length vs → v ≡ get_or vs i v → Some x ≡ read (view v)
    → with_front (found ++ x ∷ []) (values_of_items read (items_view (drop (i + 1) vs))) ≡ with_front found (values_of_items read (items_view (drop i vs)))
next_is_read read vs i found v x inside is reads =
    rw (drop_at vs i v inside is) (rw (sym reads) (with_front-behind found x (values_of_items read (items_view (drop (i + 1) vs)))))

-- the next item is written after those before it
pub next_is_written : {A : Type 0} (data_of : A → Data) (xs : List A) (i : ℕ) (values : List Value) (x : A) (v : Value)
    → i < length xs → x ≡ get_or xs i x → view v ≡ data_of x
    → map view (values ++ v ∷ []) ++ map data_of (drop (i + 1) xs) ≡ map view values ++ map data_of (drop i xs)
next_is_written data_of xs i values x v inside is written =
    rw (drop_at xs i x inside is) (rw (map-append view values (v ∷ [])) (append_assoc (map view values) (view v ∷ []) (map data_of (drop (i + 1) xs))
    ∙ ap (λ (d : Data). map view values ++ d ∷ map data_of (drop (i + 1) xs)) written))

pub two_items-other : (vs : List Value) → length vs ≢ 2 → two_items (items_view vs) ≡ None
two_items-other [] other = refl
two_items-other (v ∷ []) other = refl
two_items-other (v ∷ w ∷ []) other = absurd (other refl)
two_items-other (v ∷ w ∷ u ∷ vs) other = refl

-- ---- the only field

pub only_member-one : (ms : List (String Global × Value)) (name : String Global) (v : Value) → length ms ≡ 1 → slice_get ms 0 ≡ Some (name, v)
    → only_member (members_view ms) ≡ Some (string_bytes name, view v)
only_member-one [] name v one first = cc
only_member-one (m ∷ []) name v one first = let same : m ≡ (name, v) = cc in rw same refl
only_member-one (m ∷ n ∷ ms) name v one first = absurd (omega arith)

pub only_member-other : (ms : List (String Global × Value)) → length ms ≢ 1 → only_member (members_view ms) ≡ None
only_member-other [] other = refl
only_member-other (m ∷ []) other = absurd (other refl)
only_member-other (m ∷ n ∷ ms) other = refl
