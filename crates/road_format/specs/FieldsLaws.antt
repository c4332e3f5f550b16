-- A law of the fields of an object: if they are counted and each one is found, the object has no other field.
use Rattle.std.specs.Prelude.{◌≡◌, ◌≢◌, ℕ, List, [], ◌∷◌, true, length, None}
use Rattle.std.specs.List.{IsDistinct}
use Rattle.std.specs.Set.{is_member}
use Rattle.std.specs.Str.{bytes_eq}
use Rattle.serde_json.specs.Data.{object, Members, no_members, member}
use Rattle.serde_json.specs.Find.{get}
use Rattle.road_format.specs.Fields.{has_fields}

-- the names of the fields
abbrev pub field_names : Members → List (List ℕ)
field_names no_members = []
field_names (member name d fields) = name ∷ field_names fields

-- an object has no field of another name if it has as many fields as there are names, all names are different, and
-- there is a field of each name
abbrev pub NoOtherField : Type 0
NoOtherField = (names : List (List ℕ)) (fields : Members)
    → IsDistinct bytes_eq names
    → has_fields (length names) (object fields) ≡ true
    → ((name : List ℕ) → is_member bytes_eq names name ≡ true → get name (object fields) ≢ None)
    → (name : List ℕ) → is_member bytes_eq (field_names fields) name ≡ true → is_member bytes_eq names name ≡ true
