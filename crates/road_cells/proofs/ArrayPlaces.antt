-- Laws of arrays: the vehicle at each place, and when two arrays are the same.
use Rattle.std.specs.Prelude.{◌≡◌, ℕ, zero, suc, ◌+◌, ◌<◌, ◌≤◌, List, [], ◌∷◌, map, length, refl}
use Rattle.std.specs.List.{range_with_len}
use Rattle.std.specs.declared.option.Option.{Option}
use Rattle.std.specs.declared.option.Option.TheVariants.{None, Some}
use Rattle.std.proofs.Common.{sym, ap, ◌∙◌, inl, inr, arith}
use Rattle.std.proofs.lemmas.List.FromFn.{length-map-range_with_len}
use Rattle.std.proofs.lemmas.Bool.{cases_lt}
use Rattle.road_cells.specs.Array.{Array, Vehicle, vehicle_at, array, array_of_places, with_first_place}

-- a place in front of two lists with the same vehicles; the first list has dropped its empty end
vehicle_at-before : (xs ys : Array) (x : Option Vehicle) → ((j : ℕ) → vehicle_at xs j ≡ vehicle_at ys j) → (j : ℕ) → vehicle_at (x ∷ xs) j ≡ vehicle_at (with_first_place x ys) j
vehicle_at-before xs ys (Some v) same zero = refl
vehicle_at-before xs ys (Some v) same (suc j) = same j
vehicle_at-before xs [] None same zero = refl
vehicle_at-before xs [] None same (suc j) = same j
vehicle_at-before xs (y ∷ ys) None same zero = refl
vehicle_at-before xs (y ∷ ys) None same (suc j) = same j

-- dropping the empty places at the end changes no place
pub vehicle_at-array_of_places : (xs : List (Option Vehicle)) (j : ℕ) → vehicle_at (array_of_places xs) j ≡ vehicle_at xs j
vehicle_at-array_of_places [] j = refl
vehicle_at-array_of_places (x ∷ xs) j = sym (vehicle_at-before xs (array_of_places xs) x (λ i. sym (vehicle_at-array_of_places xs i)) j)

-- if there is no vehicle, no place is left
array_of_places-empty : (xs : List (Option Vehicle)) → ((j : ℕ) → vehicle_at xs j ≡ None) → array_of_places xs ≡ []
array_of_places-empty [] empty = refl
array_of_places-empty (None ∷ xs) empty = ap (with_first_place None) (array_of_places-empty xs (λ j. empty (suc j)))
array_of_places-empty (Some v ∷ xs) empty = let taken : Some v ≡ None = empty 0 in cc

-- lists that agree at each cell are the same array
pub array_of_places-same : (xs ys : List (Option Vehicle)) → ((j : ℕ) → vehicle_at xs j ≡ vehicle_at ys j) → array_of_places xs ≡ array_of_places ys
array_of_places-same [] ys same = sym (array_of_places-empty ys (λ j. sym (same j)))
array_of_places-same (x ∷ xs) [] same = array_of_places-empty (x ∷ xs) same
array_of_places-same (x ∷ xs) (y ∷ ys) same = λ i. with_first_place (same 0 i) (array_of_places-same xs ys (λ j. same (suc j)) i)

-- the values of a function at n numbers from a on
vehicle_at-range_with_len : (f : ℕ → Option Vehicle) (n a j : ℕ) → j < n → vehicle_at (map f (range_with_len a n)) j ≡ f (a + j)
vehicle_at-range_with_len f zero a j below = absurd (omega arith)
vehicle_at-range_with_len f (suc n) a zero below = let here : a ≡ a + 0 = omega arith in ap f here
vehicle_at-range_with_len f (suc n) a (suc j) below = let next : (a + 1) + j ≡ a + suc j = omega arith in vehicle_at-range_with_len f n (a + 1) j (omega arith) ∙ ap f next

-- past these numbers there is no value
past_numbers : (f : ℕ → Option Vehicle) (n a j : ℕ) → n ≤ j → vehicle_at (map f (range_with_len a n)) j ≡ None
past_numbers f zero a j past = refl
past_numbers f (suc n) a zero past = absurd (omega arith)
past_numbers f (suc n) a (suc j) past = past_numbers f n (a + 1) j (omega arith)

-- below its bound an array has the values of its function
pub vehicle_at-array : (n : ℕ) (f : ℕ → Option Vehicle) (j : ℕ) → j < n → vehicle_at (array n f) j ≡ f j
vehicle_at-array n f j below = let here : 0 + j ≡ j = omega arith in vehicle_at-array_of_places (map f (range_with_len 0 n)) j ∙ vehicle_at-range_with_len f n 0 j below ∙ ap f here

-- from its bound on it is empty
pub past_array : (n : ℕ) (f : ℕ → Option Vehicle) (j : ℕ) → n ≤ j → vehicle_at (array n f) j ≡ None
past_array n f j past = vehicle_at-array_of_places (map f (range_with_len 0 n)) j ∙ past_numbers f n 0 j past

-- arrays that agree at each cell are the same
pub array-same : (n m : ℕ) (f g : ℕ → Option Vehicle) → ((j : ℕ) → vehicle_at (array n f) j ≡ vehicle_at (array m g) j) → array n f ≡ array m g
array-same n m f g same = array_of_places-same (map f (range_with_len 0 n)) (map g (range_with_len 0 m)) (λ j. sym (vehicle_at-array_of_places (map f (range_with_len 0 n)) j) ∙ same j ∙ vehicle_at-array_of_places (map g (range_with_len 0 m)) j)

-- dropping empty places makes no list longer
length-before : (x : Option Vehicle) (xs : Array) → length (with_first_place x xs) ≤ suc (length xs)
length-before None [] = omega arith
length-before None (y ∷ ys) = omega arith
length-before (Some v) xs = omega arith

length-array_of_places : (xs : List (Option Vehicle)) → length (array_of_places xs) ≤ length xs
length-array_of_places [] = omega arith
length-array_of_places (x ∷ xs) = let rest = length-array_of_places xs in let all = length-before x (array_of_places xs) in omega arith

-- no array is longer than its bound
pub length-array : (n : ℕ) (f : ℕ → Option Vehicle) → length (array n f) ≤ n
length-array n f = let all = length-array_of_places (map f (range_with_len 0 n)) in let is = length-map-range_with_len f 0 n in omega arith

-- no vehicle is past the end
pub past_end : (a : Array) (j : ℕ) → length a ≤ j → vehicle_at a j ≡ None
past_end [] j past = refl
past_end (x ∷ xs) zero past = absurd (omega arith)
past_end (x ∷ xs) (suc j) past = past_end xs j (omega arith)

-- functions that agree below the bound make the same array
pub array-agree : (n : ℕ) (f g : ℕ → Option Vehicle) → ((j : ℕ) → j < n → f j ≡ g j) → array n f ≡ array n g
array-agree n f g agree = array-same n n f g (λ j. elim (cases_lt j n) as (λ _. vehicle_at (array n f) j ≡ vehicle_at (array n g) j) [
  | inl below ↦ vehicle_at-array n f j below ∙ agree j below ∙ sym (vehicle_at-array n g j below)
  | inr past ↦ past_array n f j past ∙ sym (past_array n g j past)
])
