-- An object of as many fields as names, with one of each name, has no other field.
use Rattle.std.proofs.Common.{◌≡◌, ◌≢◌, ◌≤◌, ℕ, suc, List, [], ◌∷◌, ◌||◌, Bool, true, false, length, Some, None, refl, ap, sym, ◌∙◌, arith, subst}
use Rattle.std.proofs.lemmas.Bool.{eqb-true}
use Rattle.std.proofs.lemmas.Cmp.{nat_list_eq_equiv}
use Rattle.std.proofs.lemmas.Map.Text.{is_eq-slice_cmp}
use Rattle.std.proofs.lemmas.Map.Keys.{IsDistinct-cons}
use Rattle.std.proofs.lemmas.Map.Made.{length-le_from_is_member}
use Rattle.std.proofs.lemmas.Slice.Eq.{bytes_eq-Decides}
use Rattle.std.specs.Cmp.Lexicographic.{slice_cmp}
use Rattle.std.specs.List.{AllByRecursion, IsDistinct}
use Rattle.std.specs.Ordering.{nat_cmp, match_ordering, is_eq}
use Rattle.std.specs.Set.{is_member}
use Rattle.std.specs.Str.{bytes_eq}
use Rattle.std.specs.declared.cmp.Ordering.{Ordering}
use Rattle.std.specs.declared.cmp.Ordering.TheVariants.{Less, Equal, Greater}
use Rattle.serde_json.specs.Data.{Data, Members, no_members, member}
use Rattle.serde_json.specs.Find.{get_member}
use Rattle.road_format.specs.Fields.{member_count}
use Rattle.road_format.specs.FieldsLaws.{field_names, NoOtherField}

-- ---- a value found at a name is a field of that name

or_true : (a : Bool) → (a || true) ≡ true
or_true true = refl
or_true false = refl

found_at : (o : Ordering) (name k : List ℕ) (d : Data) (fields : Members) → slice_cmp nat_cmp name k ≡ o
    → (get_member name fields ≢ None → is_member bytes_eq (field_names fields) name ≡ true)
    → match_ordering o (get_member name fields) (Some d) (get_member name fields) ≢ None → is_member bytes_eq (k ∷ field_names fields) name ≡ true
found_at Less name k d fields is more found = rw (more found) (or_true (bytes_eq name k))
found_at Equal name k d fields is more found = rw (sym (is_eq-slice_cmp name k) ∙ ap is_eq is) refl
found_at Greater name k d fields is more found = rw (more found) (or_true (bytes_eq name k))

found : (name : List ℕ) (fields : Members) → get_member name fields ≢ None → is_member bytes_eq (field_names fields) name ≡ true
found name no_members at = absurd (at refl)
found name (member k d fields) at = found_at (slice_cmp nat_cmp name k) name k d fields refl (found name fields) at

length-field_names : (fields : Members) → length (field_names fields) ≡ member_count fields
length-field_names no_members = refl
length-field_names (member k d fields) = ap suc (length-field_names fields)

-- ---- with another field, there would be more fields than there are

or_left : (a b : Bool) → (a || b) ≡ false → a ≡ false
or_left true b e = e
or_left false b e = refl

or_right : (a b : Bool) → (a || b) ≡ false → b ≡ false
or_right true b e = absurd (cc)
or_right false b e = e

differs : (name : List ℕ) (names : List (List ℕ)) → is_member bytes_eq names name ≡ false → AllByRecursion (λ other. bytes_eq name other ≡ false) names
differs name [] other = tt
differs name (n ∷ ns) other = (or_left (bytes_eq name n) _ other, differs name ns (or_right (bytes_eq name n) _ other))

among : (b : Bool) (q name : List ℕ) (names fields : List (List ℕ)) → bytes_eq q name ≡ b
    → is_member bytes_eq fields name ≡ true
    → (is_member bytes_eq names q ≡ true → is_member bytes_eq fields q ≡ true)
    → (b || is_member bytes_eq names q) ≡ true → is_member bytes_eq fields q ≡ true
among true q name names fields is there rest here = subst (λ (t : List ℕ). is_member bytes_eq fields t ≡ true) (sym ((bytes_eq-Decides q name).0 is)) there
among false q name names fields is there rest here = rest here

one_of : (b : Bool) (names : List (List ℕ)) (fields : Members) (name : List ℕ)
    → is_member bytes_eq names name ≡ b
    → IsDistinct bytes_eq names
    → member_count fields ≡ length names
    → ((q : List ℕ) → is_member bytes_eq names q ≡ true → is_member bytes_eq (field_names fields) q ≡ true)
    → is_member bytes_eq (field_names fields) name ≡ true
    → is_member bytes_eq names name ≡ true
one_of true names fields name is distinct count all there = is
one_of false names fields name is distinct count all there =
    let more : length (name ∷ names) ≤ length (field_names fields) =
    length-le_from_is_member nat_list_eq_equiv (name ∷ names) (field_names fields)
    (IsDistinct-cons bytes_eq name names (differs name names is) distinct)
    (λ q. among (bytes_eq q name) q name names (field_names fields) refl there (all q)) in
    absurd (omega (arith, more, length-field_names fields, count))

pub no_other_field : NoOtherField
no_other_field names fields distinct exactly all name there =
    one_of (is_member bytes_eq names name) names fields name refl distinct (eqb-true (member_count fields) (length names) exactly) (λ q here. found q fields (all q here)) there
