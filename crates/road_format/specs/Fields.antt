-- The values of an object's fields, and of lists.
use Rattle.std.specs.Prelude.{ℕ, suc, List, [], ◌∷◌, ◌==◌, ◌&&◌, ◌^◌, Bool, true, false, length, nat_lt, nat_le}
use Rattle.std.specs.Prelude.{if◌then◌else◌, Option, Some, None}
use Rattle.serde_json.specs.Data.{Data, Items, no_items, item, Members, no_members, member}
use Rattle.serde_json.specs.Find.{get, as_str, as_number, as_array, as_object, as_u64}
use Rattle.road_format.specs.declared.names.TheConstants.{LONGEST_NAME}

-- two steps in turn: the second step is given the result of the first; nothing if one of them has no result
infixl 10 ◌>>=◌
abbrev pub ◌>>=◌ : {A B : Type 0} → Option A → (A → Option B) → Option B
None >>= f = None
(Some x) >>= f = f x

-- a step that has a result only if the test is true
abbrev pub check : Bool → Option Bool
check true = Some true
check false = None

-- ---- an object

-- the number of these fields
abbrev pub member_count : Members → ℕ
member_count no_members = 0
member_count (member name d fields) = suc (member_count fields)

-- whether there are fields, and their number is n
abbrev pub has_members : ℕ → Option Members → Bool
has_members n None = false
has_members n (Some fields) = member_count fields == n

-- whether this is an object of this number of fields. If as many fields with different names are then found in it, it
-- has exactly these fields (`NoOtherField`).
abbrev pub has_fields : ℕ → Data → Bool
has_fields n d = has_members n (as_object d)

-- the name and the value of the only field among these
abbrev pub only_member : Members → Option (List ℕ × Data)
only_member no_members = None
only_member (member name d no_members) = Some (name, d)
only_member (member name d (member other e fields)) = None

-- the name and the value of an object's only field
abbrev pub only_field : Data → Option (List ℕ × Data)
only_field d = as_object d >>= only_member

-- ---- numbers

-- the number, if it fits 32 bits
abbrev pub number_of_32_bits : ℕ → Option ℕ
number_of_32_bits n = if nat_lt n (2 ^ 32) then Some n else None

-- a whole number of at most 64 bits, without a decimal point or exponent
abbrev pub long_number_in : Data → Option ℕ
long_number_in d = as_number d >>= as_u64

-- the number, if it fits 16 bits
abbrev pub number_of_16_bits : ℕ → Option ℕ
number_of_16_bits n = if nat_lt n (2 ^ 16) then Some n else None

-- a whole number of at most 16 bits, without a decimal point or exponent
abbrev pub short_number_in : Data → Option ℕ
short_number_in d = long_number_in d >>= number_of_16_bits

-- a whole number of at most 32 bits, without a decimal point or exponent
abbrev pub number_in : Data → Option ℕ
number_in d = long_number_in d >>= number_of_32_bits

-- the number at a field
abbrev pub number_at : List ℕ → Data → Option ℕ
number_at field d = get field d >>= number_in

-- the number of at most 64 bits at a field
abbrev pub long_number_at : List ℕ → Data → Option ℕ
long_number_at field d = get field d >>= long_number_in

-- ---- names

-- a name has 1 to 64 bytes, in UTF-8
abbrev pub is_name : List ℕ → Bool
is_name text = nat_lt 0 (length text) && nat_le (length text) LONGEST_NAME

-- the text, if it is a name
abbrev pub name_of_text : List ℕ → Option (List ℕ)
name_of_text text = if is_name text then Some text else None

-- the name at a field
abbrev pub name_at : List ℕ → Data → Option (List ℕ)
name_at field d = get field d >>= as_str >>= name_of_text

-- ---- lists

-- the number of these items
abbrev pub item_count : Items → ℕ
item_count no_items = 0
item_count (item d ds) = suc (item_count ds)

-- whether there are items, and their number is n
abbrev pub has_count : ℕ → Option Items → Bool
has_count n None = false
has_count n (Some ds) = item_count ds == n

-- whether this is a list of this number of items
abbrev pub has_items : ℕ → Data → Bool
has_items n d = has_count n (as_array d)

-- what each item is read as, or nothing if one cannot be read
abbrev pub values_of_items : {A : Type 0} → (Data → Option A) → Items → Option (List A)
values_of_items read no_items = Some []
values_of_items read (item d ds) = read d >>= λ x. values_of_items read ds >>= λ xs. Some (x ∷ xs)

-- the items of the list at a field
abbrev pub items_at : List ℕ → Data → Option Items
items_at field d = get field d >>= as_array

-- what each item of the list at a field is read as
abbrev pub list_at : {A : Type 0} → (Data → Option A) → List ℕ → Data → Option (List A)
list_at read field d = items_at field d >>= values_of_items read

-- the items of a list that has exactly two
abbrev pub two_items : Items → Option (Data × Data)
two_items no_items = None
two_items (item a no_items) = None
two_items (item a (item b no_items)) = Some (a, b)
two_items (item a (item b (item c ds))) = None

-- both these values, if each is a number
abbrev pub two_numbers : Data × Data → Option (ℕ × ℕ)
two_numbers both = number_in both.0 >>= λ a. number_in both.1 >>= λ b. Some (a, b)

-- a list of exactly two numbers
abbrev pub pair_in : Data → Option (ℕ × ℕ)
pair_in d = as_array d >>= two_items >>= two_numbers
