-- Names in a list, and the numbers at which a set stores them.
use Rattle.std.proofs.Common.{◌≡◌, ◌<◌, ◌+◌, ℕ, List, [], ◌∷◌, ◌++◌, Bool, true, false, Option, Some, None, cond, nat_lt, suc, length, map, arith, refl, ap, sym, ◌∙◌, subst, append_assoc, string_bytes, String, Global}
use Rattle.std.specs.Prelude.{not, ◌||◌, if◌then◌else◌}
use Rattle.std.specs.Option.{option_map}
use Rattle.std.specs.Str.{bytes_eq}
use Rattle.std.specs.Cmp.Lexicographic.{nat_list_eq_equiv}
use Rattle.std.specs.List.{position, prefix_len, list_any, AllByRecursion, IsDistinct}
use Rattle.std.proofs.lemmas.Bool.{lt-ltb, ltb-true, ltb-false, le-ltb}
use Rattle.std.proofs.lemmas.List.{map-append}
use Rattle.road_format.specs.Views.{texts}
use Rattle.road_commands.specs.Laboratory.{number_of}

-- ---- the place of the first element that passes

-- one more on both sides
more_below : (b : Bool) (n m : ℕ) → nat_lt n m ≡ b → nat_lt (1 + n) (suc m) ≡ b
more_below true n m h = let less : n < m = ltb-true n m h in lt-ltb (1 + n) (suc m) (omega arith)
more_below false n m h = let least = ltb-false n m h in le-ltb (1 + n) (suc m) (omega (arith, least))

-- the place after one more element at the front, from whether this element passes, and whether a later one does
later_place : (b c : Bool) (n m : ℕ) → nat_lt n m ≡ c
    → cond (nat_lt (cond (not b) (1 + n) 0) (suc m)) (Some (cond (not b) (1 + n) 0)) None ≡ cond b (Some 0) (option_map (λ k. 1 + k) (cond c (Some n) None))
later_place true c n m h = let first : nat_lt 0 (suc m) ≡ true = lt-ltb 0 (suc m) (omega arith) in rw first refl
later_place false true n m h = let less : nat_lt (1 + n) (suc m) ≡ true = more_below true n m h in rw less refl
later_place false false n m h = let least : nat_lt (1 + n) (suc m) ≡ false = more_below false n m h in rw least refl

position_first : {A : Type 0} (p : A → Bool) (x : A) (xs : List A) → position p (x ∷ xs) ≡ cond (p x) (Some 0) (option_map (λ k. 1 + k) (position p xs))
position_first p x xs = later_place (p x) (nat_lt (prefix_len (λ y. not (p y)) xs) (length xs)) (prefix_len (λ y. not (p y)) xs) (length xs) refl

-- if there is no place, the first element does not pass, and no other does
no_place : (b : Bool) (place : Option ℕ) → cond b (Some 0) (option_map (λ k. 1 + k) place) ≡ None → (b ≡ false) × (place ≡ None)
no_place true place h = cc
no_place false None h = (refl, refl)
no_place false (Some n) h = cc

-- testing elements after a map gives the same place as testing the mapped list
pub position_of_map : {A B : Type 0} (p : B → Bool) (f : A → B) (xs : List A) → position (λ x. p (f x)) xs ≡ position p (map f xs)
position_of_map p f [] = refl
position_of_map p f (x ∷ xs) =
    position_first (λ y. p (f y)) x xs ∙ ap (λ (place : Option ℕ). cond (p (f x)) (Some 0) (option_map (λ k. 1 + k) place)) (position_of_map p f xs)
    ∙ sym (position_first p (f x) (map f xs))

-- if no element has a place, none passes
pub none_passes : {A : Type 0} (p : A → Bool) (xs : List A) → position p xs ≡ None → list_any p xs ≡ false
none_passes p [] h = refl
none_passes p (x ∷ xs) h =
    let others = no_place (p x) (position p xs) (sym (position_first p x xs) ∙ h) in
    let first : p x ≡ false = others.0 in
    let later : list_any p xs ≡ false = none_passes p xs others.1 in
    rw (first, later) refl

-- ---- names that are all different

-- if no element passes, none has a place
neither : (a b : Bool) → (a || b) ≡ false → (a ≡ false) × (b ≡ false)
neither true b h = cc
neither false b h = (refl, h)

none_placed : {A : Type 0} (p : A → Bool) (xs : List A) → list_any p xs ≡ false → position p xs ≡ None
none_placed p [] h = refl
none_placed p (x ∷ xs) h =
    let both = neither (p x) (list_any p xs) h in
    let first : p x ≡ false = both.0 in
    let later : position p xs ≡ None = none_placed p xs both.1 in
    position_first p x xs ∙ rw (first, later) refl

-- a fact about each element is a fact about an element in the middle
of_middle : {A : Type 0} (P : A → Type 0) (x : A) (xs ys : List A) → AllByRecursion P (xs ++ x ∷ ys) → P x
of_middle P x [] ys all = all.0
of_middle P x (y ∷ xs) ys all = of_middle P x xs ys all.1

-- among names that are all different, a name is not among those before it
is_new : (xs ys : List (List ℕ)) (s : List ℕ) → IsDistinct bytes_eq (xs ++ s ∷ ys) → list_any (bytes_eq s) xs ≡ false
unfolding IsDistinct
is_new [] ys s distinct = refl
is_new (x ∷ xs) ys s distinct =
    let differs : bytes_eq s x ≡ false = nat_list_eq_equiv.symm s x ∙ of_middle (λ (y : List ℕ). bytes_eq x y ≡ false) s xs ys distinct.0 in
    let later : list_any (bytes_eq s) xs ≡ false = is_new xs ys s distinct.1 in
    rw (differs, later) refl

-- so it has no number among the names before it
pub number_free : (xs ys : List (List ℕ)) (s : List ℕ) → IsDistinct bytes_eq (xs ++ s ∷ ys) → number_of xs s ≡ None
number_free xs ys s distinct = none_placed (bytes_eq s) xs (is_new xs ys s distinct)

-- ---- names that a set stores

-- a name's number is its place in the set
pub number_by_place : (name : List ℕ) (keys : List (String Global)) → position (λ key. bytes_eq name (string_bytes key)) keys ≡ number_of (texts keys) name
number_by_place name keys = position_of_map (bytes_eq name) string_bytes keys

-- a name that has no number in the set is added at the end
pub put_last : (name : String Global) (keys after : List (String Global)) → number_of (texts keys) (string_bytes name) ≡ None
    → after ≡ (if list_any (λ key. bytes_eq (string_bytes name) (string_bytes key)) keys then keys else keys ++ name ∷ [])
    → texts after ≡ texts keys ++ string_bytes name ∷ []
put_last name keys after free is =
    let absent : list_any (λ key. bytes_eq (string_bytes name) (string_bytes key)) keys ≡ false =
    none_passes (λ key. bytes_eq (string_bytes name) (string_bytes key)) keys (number_by_place (string_bytes name) keys ∙ free) in
    let last : after ≡ keys ++ name ∷ [] = is ∙ rw absent refl in
    ap texts last ∙ map-append string_bytes keys (name ∷ [])

-- ---- names that are numbered one after another

-- the next name is new, and is added at the end
pub next_free : (all done : List (List ℕ)) (rest behind : List (String Global)) (name : String Global) → IsDistinct bytes_eq all → done ++ texts rest ≡ all → rest ≡ name ∷ behind → number_of done (string_bytes name) ≡ None
next_free all done rest behind name distinct is next =
    let order : done ++ string_bytes name ∷ texts behind ≡ all = ap (λ (xs : List (String Global)). done ++ texts xs) (sym next) ∙ is in
    number_free done (texts behind) (string_bytes name) (subst (IsDistinct bytes_eq) (sym order) distinct)

pub next_put : (all done new : List (List ℕ)) (rest behind : List (String Global)) (name : String Global) → done ++ texts rest ≡ all → rest ≡ name ∷ behind → new ≡ done ++ string_bytes name ∷ [] → new ++ texts behind ≡ all
next_put all done new rest behind name is next put =
    ap (λ (xs : List (List ℕ)). xs ++ texts behind) put ∙ append_assoc done (string_bytes name ∷ []) (texts behind)
    ∙ ap (λ (xs : List (String Global)). done ++ texts xs) (sym next) ∙ is
