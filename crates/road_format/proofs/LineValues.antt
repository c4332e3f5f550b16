-- The value of a line.
use Rattle.std.proofs.Common.{◌≡◌, ℕ, List, [], ◌∷◌, ◌<◌, length, Bool, true, false, refl, ◌∙◌, arith, Some, None, if◌then◌else◌}
use Rattle.std.specs.Str.{IsUtf8, is_utf8, chars}
use Rattle.std.proofs.lemmas.Str.{IsUtf8-from_is_utf8, is_utf8-from_IsUtf8}
use Rattle.serde_json.specs.Data.{Data}
use Rattle.serde_json.specs.Read.{read}
use Rattle.serde_json.proofs.OnLiterals.{serde_json_on_literals}
use Rattle.road_format.specs.Reading.{value_of}

if_true : {A : Type 0} (b : Bool) (x y : A) → b ≡ true → (if b then x else y) ≡ x
if_true true x y e = refl
if_true false x y e = cc

pub value_of-read : (line : List ℕ) (d : Data) → IsUtf8 line → read line ≡ Some d → value_of line ≡ Some d
unfolding value_of
value_of-read line d text e = if_true (is_utf8 line) (read line) None (is_utf8-from_IsUtf8 line text) ∙ e

unread_if : (line : List ℕ) (b : Bool) → (b ≡ true → read line ≡ None) → (if b then read line else None) ≡ None
unread_if line true e = e refl
unread_if line false e = refl

pub value_of-unread : (line : List ℕ) → (IsUtf8 line → read line ≡ None) → value_of line ≡ None
unfolding value_of
value_of-unread line e = unread_if line (is_utf8 line) (λ t. e (IsUtf8-from_is_utf8 line t))

value_of-empty : value_of [] ≡ None
unfolding serde_json_on_literals value_of is_utf8 chars
value_of-empty = refl

-- a line that has a value has a byte
pub length_of_value : (line : List ℕ) (d : Data) → Some d ≡ value_of line → 0 < length line
length_of_value [] d is = let none = value_of-empty in cc
length_of_value (x ∷ xs) d is = omega arith
