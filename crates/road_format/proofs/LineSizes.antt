-- A line has a byte for each item of the lists in its value.
use Rattle.std.proofs.Common.{◌≡◌, ◌+◌, ◌≤◌, ℕ, zero, suc, List, [], ◌∷◌, length, Bool, true, false, Option, Some, None, option_map, option_and_then, Ordering, Less, Equal, Greater, refl, arith}
use Rattle.std.specs.Prelude.{⊤}
use Rattle.std.specs.Ordering.{match_ordering}
use Rattle.json.specs.Token.{Token}
use Rattle.json.specs.Lex.{Lexeme, token, comma, colon, Class, quote, backslash, operator, space, other, class, Mode, between, in_word, in_string, in_escape, lex_byte, lex}
use Rattle.json.specs.Lex.{Place, fresh, after_value, after_comma, after_key, begins_colon, may_begin, may_close, if_allowed, place_token, punctuate, tokens}
use Rattle.json.specs.Json as json
use Rattle.json.specs.Json.{Parse, parse_map, after_end_array, read_key, items_step, members_step, items, members, value_with, value, if_last}
use Rattle.json.proofs.Grammar.{after_end_array-shorter, read_key-shorter}
use Rattle.serde_json.specs.Data.{Data, Items, Members, put}
use Rattle.serde_json.specs.Data as values
use Rattle.serde_json.specs.Read.{number_of, of_json, of_items, of_members, max_depth, read}

-- ---- a text has a byte for each lexeme, and thus a byte for each token except one

short_byte : (m : Mode) (c : Class) (x : ℕ) (xs : List ℕ) (k : Mode → List Lexeme) → ((next : Mode) → length (k next) ≤ length xs) → length (lex_byte m c x xs k) ≤ suc (length xs)
short_byte between quote x xs k short = omega (arith, short in_string)
short_byte between backslash x xs k short = omega (arith, short in_word)
short_byte between operator x xs k short = omega (arith, short between)
short_byte between space x xs k short = omega (arith, short between)
short_byte between other x xs k short = omega (arith, short in_word)
short_byte in_word quote x xs k short = omega (arith, short in_word)
short_byte in_word backslash x xs k short = omega (arith, short in_word)
short_byte in_word operator x xs k short = omega (arith, short between)
short_byte in_word space x xs k short = omega (arith, short between)
short_byte in_word other x xs k short = omega (arith, short in_word)
short_byte in_string quote x xs k short = omega (arith, short between)
short_byte in_string backslash x xs k short = omega (arith, short in_escape)
short_byte in_string operator x xs k short = omega (arith, short in_string)
short_byte in_string space x xs k short = omega (arith, short in_string)
short_byte in_string other x xs k short = omega (arith, short in_string)
short_byte in_escape c x xs k short = omega (arith, short in_string)

short_lex : (m : Mode) (xs : List ℕ) → length (lex m xs) ≤ length xs
unfolding lex
short_lex m [] = omega arith
short_lex m (x ∷ xs) = short_byte m (class x) x xs (λ next. lex next xs) (λ next. short_lex next xs)

short_allowed : (b : Bool) (t : Token) (k : Place → List Token) (next : Place) (n : ℕ) → length (k next) ≤ suc n → length (if_allowed b t k next) ≤ suc (suc n)
short_allowed true t k next n short = omega (arith, short)
short_allowed false t k next n short = omega arith

short_token : (p : Place) (t : Token) (b : Bool) (k : Place → List Token) (n : ℕ) → ((next : Place) → length (k next) ≤ suc n) → length (place_token p t b k) ≤ suc (suc n)
short_token p Token.begin_object b k n short = short_allowed (may_begin p) Token.begin_object k fresh n (short fresh)
short_token p Token.end_object b k n short = short_allowed (may_close p) Token.end_object k after_value n (short after_value)
short_token p Token.begin_array b k n short = short_allowed (may_begin p) Token.begin_array k fresh n (short fresh)
short_token p Token.end_array b k n short = short_allowed (may_close p) Token.end_array k after_value n (short after_value)
short_token p (Token.key s) b k n short = omega arith
short_token p (Token.string s) true k n short = short_allowed (may_begin p) (Token.key s) k after_key n (short after_key)
short_token p (Token.string s) false k n short = short_allowed (may_begin p) (Token.string s) k after_value n (short after_value)
short_token p (Token.number s) b k n short = short_allowed (may_begin p) (Token.number s) k after_value n (short after_value)
short_token p (Token.boolean v) b k n short = short_allowed (may_begin p) (Token.boolean v) k after_value n (short after_value)
short_token p Token.null b k n short = short_allowed (may_begin p) Token.null k after_value n (short after_value)
short_token p Token.bad b k n short = omega arith

short_tokens : (p : Place) (ls : List Lexeme) → length (punctuate p ls) ≤ suc (length ls)
unfolding punctuate
short_tokens fresh [] = omega arith
short_tokens after_value [] = omega arith
short_tokens after_comma [] = omega arith
short_tokens after_key [] = omega arith
short_tokens fresh (token t ∷ ls) = short_token fresh t (begins_colon ls) (λ next. punctuate next ls) (length ls) (λ next. short_tokens next ls)
short_tokens after_value (token t ∷ ls) = short_token after_value t (begins_colon ls) (λ next. punctuate next ls) (length ls) (λ next. short_tokens next ls)
short_tokens after_comma (token t ∷ ls) = short_token after_comma t (begins_colon ls) (λ next. punctuate next ls) (length ls) (λ next. short_tokens next ls)
short_tokens after_key (token t ∷ ls) = short_token after_key t (begins_colon ls) (λ next. punctuate next ls) (length ls) (λ next. short_tokens next ls)
short_tokens fresh (comma ∷ ls) = omega arith
short_tokens after_value (comma ∷ ls) = omega (arith, short_tokens after_comma ls)
short_tokens after_comma (comma ∷ ls) = omega arith
short_tokens after_key (comma ∷ ls) = omega arith
short_tokens fresh (colon ∷ ls) = omega arith
short_tokens after_value (colon ∷ ls) = omega arith
short_tokens after_comma (colon ∷ ls) = omega arith
short_tokens after_key (colon ∷ ls) = omega (arith, short_tokens fresh ls)

-- ---- a value has a token for itself and for each item in it

-- the number of items of the lists in a value, at every depth
abbrev mutual
  json_items : json.Json → ℕ
  json_items json.null = 0
  json_items (json.boolean b) = 0
  json_items (json.number s) = 0
  json_items (json.string s) = 0
  json_items (json.array js) = list_items js
  json_items (json.object ms) = fields_items ms

  list_items : json.Items → ℕ
  list_items json.no_items = 0
  list_items (json.item j js) = suc (json_items j + list_items js)

  fields_items : json.Members → ℕ
  fields_items json.no_members = 0
  fields_items (json.member k j ms) = json_items j + fields_items ms

-- reading took at least n tokens, not counting those for the items
abbrev Takes : {A : Type 0} → (A → ℕ) → ℕ → List Token → Option (A × List Token) → Type 0
Takes f n ts None = ⊤
Takes f n ts (Some p) = n + f p.0 + length p.1 ≤ length ts

taken_on : {A B : Type 0} (f : A → ℕ) (g : B → ℕ) (h : A → B) (n m : ℕ) (rs ts : List Token) → ((a : A) → m + g (h a) + length rs ≤ n + f a + length ts) → (o : Option (A × List Token)) → Takes f n rs o → Takes g m ts (parse_map h o)
taken_on f g h n m rs ts less None took = tt
taken_on f g h n m rs ts less (Some p) took = omega (arith, less p.0, took)

-- a longer text has at least as many tokens
fewer : {A : Type 0} (f : A → ℕ) (rs ts : List Token) → length rs ≤ length ts → (o : Option (A × List Token)) → Takes f 0 rs o → Takes f 0 ts o
fewer f rs ts less None took = tt
fewer f rs ts less (Some p) took = omega (arith, less, took)

-- one more value, and then the others
then_more : {B : Type 0} (g : B → ℕ) (h : json.Json → B → B) → ((j : json.Json) (b : B) → g (h j b) ≤ suc (json_items j + g b)) → (more : Parse B) → ((ts : List Token) → Takes g 0 ts (more ts))
    → (ts : List Token) (o : Option (json.Json × List Token)) → Takes json_items 1 ts o → Takes g 0 ts (option_and_then (λ q. parse_map (h q.0) (more q.1)) o)
then_more g h least more others ts None took = tt
then_more g h least more others ts (Some q) took = taken_on g g (h q.0) 0 0 q.1 ts (λ b. omega (arith, least q.0 b, took)) (more q.1) (others q.1)

module _ (p : Parse json.Json) (takes : (ts : List Token) → Takes json_items 1 ts (p ts)) where
  item_takes : (more : Parse json.Items) → ((ts : List Token) → Takes list_items 0 ts (more ts)) → (ts : List Token) (o : Option (List Token)) → after_end_array ts ≡ o → Takes list_items 0 ts (items_step p more ts o)
  item_takes more others ts (Some r) is = omega (arith, after_end_array-shorter ts r is)
  item_takes more others ts None is = then_more list_items json.item (λ j b. omega arith) more others ts (p ts) (takes ts)

  items_take : (n : ℕ) (ts : List Token) → Takes list_items 0 ts (items p n ts)
  unfolding items
  items_take zero ts = tt
  items_take (suc n) ts = item_takes (items p n) (items_take n) ts (after_end_array ts) refl

  member_takes : (more : Parse json.Members) → ((ts : List Token) → Takes fields_items 0 ts (more ts)) → (ts : List Token) (o : Option (Option (List ℕ) × List Token)) → read_key ts ≡ o
      → Takes fields_items 0 ts (option_and_then (λ q. members_step p more q.0 q.1) o)
  member_takes more others ts None is = tt
  member_takes more others ts (Some (None, s)) is = omega (arith, read_key-shorter ts None s is)
  member_takes more others ts (Some (Some k, s)) is =
      let shorter = read_key-shorter ts (Some k) s is in
      fewer fields_items s ts (omega (arith, shorter)) _ (then_more fields_items (json.member k) (λ j b. omega arith) more others s (p s) (takes s))

  members_take : (n : ℕ) (ts : List Token) → Takes fields_items 0 ts (members p n ts)
  unfolding members
  members_take zero ts = tt
  members_take (suc n) ts = member_takes (members p n) (members_take n) ts (read_key ts) refl

array_takes : (ts : List Token) (o : Option (json.Items × List Token)) → Takes list_items 0 ts o → Takes json_items 1 (Token.begin_array ∷ ts) (parse_map json.array o)
array_takes ts None took = tt
array_takes ts (Some p) took = omega (arith, took)

object_takes : (ts : List Token) (o : Option (json.Members × List Token)) → Takes fields_items 0 ts o → Takes json_items 1 (Token.begin_object ∷ ts) (parse_map json.object o)
object_takes ts None took = tt
object_takes ts (Some p) took = omega (arith, took)

one_takes : (a : Parse json.Items) (o : Parse json.Members) → ((ts : List Token) → Takes list_items 0 ts (a ts)) → ((ts : List Token) → Takes fields_items 0 ts (o ts)) → (ts : List Token) → Takes json_items 1 ts (value_with a o ts)
one_takes a o p q [] = tt
one_takes a o p q (Token.begin_object ∷ ts) = object_takes ts (o ts) (q ts)
one_takes a o p q (Token.end_object ∷ ts) = tt
one_takes a o p q (Token.begin_array ∷ ts) = array_takes ts (a ts) (p ts)
one_takes a o p q (Token.end_array ∷ ts) = tt
one_takes a o p q (Token.key s ∷ ts) = tt
one_takes a o p q (Token.string s ∷ ts) = omega arith
one_takes a o p q (Token.number s ∷ ts) = omega arith
one_takes a o p q (Token.boolean b ∷ ts) = omega arith
one_takes a o p q (Token.null ∷ ts) = omega arith
one_takes a o p q (Token.bad ∷ ts) = tt

value_takes : (d : ℕ) (ts : List Token) → Takes json_items 1 ts (value d ts)
unfolding value
value_takes zero ts = one_takes (λ rs. None) (λ rs. None) (λ rs. tt) (λ rs. tt) ts
value_takes (suc d) ts = one_takes (λ rs. items (value d) (length rs) rs) (λ rs. members (value d) (length rs) rs) (λ rs. items_take (value d) (value_takes d) (length rs) rs) (λ rs. members_take (value d) (value_takes d) (length rs) rs) ts

-- ---- the same for the content of the value

-- at most n, if there is a value
abbrev pub AtMost : {A : Type 0} → (A → ℕ) → ℕ → Option A → Type 0
AtMost f n None = ⊤
AtMost f n (Some a) = f a ≤ n

most_mapped : {A B : Type 0} (f : A → ℕ) (g : B → ℕ) (m n : ℕ) (h : A → B) → ((a : A) → f a ≤ m → g (h a) ≤ n) → (o : Option A) → AtMost f m o → AtMost g n (option_map h o)
most_mapped f g m n h k None x = tt
most_mapped f g m n h k (Some a) x = k a x

most_then : {A B : Type 0} (f : A → ℕ) (g : B → ℕ) (m n : ℕ) (h : A → Option B) → ((a : A) → f a ≤ m → AtMost g n (h a)) → (o : Option A) → AtMost f m o → AtMost g n (option_and_then h o)
most_then f g m n h k None x = tt
most_then f g m n h k (Some a) x = k a x

none_at_most : {A : Type 0} (o : Option A) → AtMost (λ _. 0) 0 o
none_at_most None = tt
none_at_most (Some a) = omega arith

-- the number of items of the lists in a value, at every depth
abbrev mutual
  pub data_items : Data → ℕ
  data_items values.null = 0
  data_items (values.boolean b) = 0
  data_items (values.number n) = 0
  data_items (values.string s) = 0
  data_items (values.array ds) = items_within ds
  data_items (values.object ms) = members_within ms

  pub items_within : Items → ℕ
  items_within values.no_items = 0
  items_within (values.item d ds) = suc (data_items d + items_within ds)

  pub members_within : Members → ℕ
  members_within values.no_members = 0
  members_within (values.member k d ms) = data_items d + members_within ms

one_of : (o : Ordering) (a b c : Members) (n : ℕ) → members_within a ≤ n → members_within b ≤ n → members_within c ≤ n → members_within (match_ordering o a b c) ≤ n
one_of Less a b c n p q r = p
one_of Equal a b c n p q r = q
one_of Greater a b c n p q r = r

within_put : (k : List ℕ) (d : Data) (ms : Members) → members_within (put k d ms) ≤ data_items d + members_within ms
within_put k d values.no_members = omega arith
within_put k d (values.member l e ms) =
    one_of _ (values.member k d (values.member l e ms)) (values.member l d ms) (values.member l e (put k d ms)) (data_items d + members_within (values.member l e ms)) (omega arith) (omega arith) (omega (arith, within_put k d ms))

mutual
  within_json : (j : json.Json) → AtMost data_items (json_items j) (of_json j)
  within_json json.null = omega arith
  within_json (json.boolean b) = omega arith
  within_json (json.number s) = most_mapped (λ _. 0) data_items 0 0 values.number (λ a x. omega arith) (number_of s) (none_at_most (number_of s))
  within_json (json.string s) = omega arith
  within_json (json.array js) = most_mapped items_within data_items (list_items js) (list_items js) values.array (λ a x. x) (of_items js) (within_items js)
  within_json (json.object ms) = most_mapped members_within data_items (fields_items ms) (fields_items ms) values.object (λ a x. x) (of_members ms values.no_members) (within_members ms values.no_members (fields_items ms) (omega arith))

  within_items : (js : json.Items) → AtMost items_within (list_items js) (of_items js)
  within_items json.no_items = omega arith
  within_items (json.item j js) =
      most_then data_items items_within (json_items j) (suc (json_items j + list_items js)) _ (λ d x. most_mapped items_within items_within (list_items js) (suc (json_items j + list_items js)) (values.item d) (λ ds y. omega (arith, x, y)) (of_items js) (within_items js)) (of_json j) (within_json j)

  within_members : (ms : json.Members) (found : Members) (n : ℕ) → fields_items ms + members_within found ≤ n → AtMost members_within n (of_members ms found)
  within_members json.no_members found n h = omega (arith, h)
  within_members (json.member name j ms) found n h =
      most_then data_items members_within (json_items j) n _ (λ d x. within_members ms (put name d found) n (omega (arith, h, x, within_put name d found))) (of_json j) (within_json j)

-- ---- a line

most_last : (n : ℕ) (ts : List Token) (o : Option (json.Json × List Token)) → length ts ≤ suc n → Takes json_items 1 ts o → AtMost json_items n (option_and_then (λ p. if_last p.0 p.1) o)
most_last n ts None long took = tt
most_last n ts (Some (j, [])) long took = omega (arith, long, took)
most_last n ts (Some (j, t ∷ r)) long took = tt

abbrev weaker : {A : Type 0} (f : A → ℕ) (m n : ℕ) → m ≤ n → (o : Option A) → AtMost f m o → AtMost f n o
weaker f m n less None x = tt
weaker f m n less (Some a) x = omega (arith, less, x)

-- the value of a text has at most one item for each byte
pub few_items : (text : List ℕ) → AtMost data_items (length text) (read text)
few_items text =
    let long : length (tokens text) ≤ suc (length text) = omega (arith, short_tokens fresh (lex between text), short_lex between text) in
    most_then json_items data_items (length text) (length text) of_json (λ j x. weaker data_items (json_items j) (length text) x (of_json j) (within_json j)) _ (most_last (length text) (tokens text) (value max_depth (tokens text)) long (value_takes max_depth (tokens text)))
