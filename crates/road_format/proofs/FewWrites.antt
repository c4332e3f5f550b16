-- A command's shares make no more writes than its line has bytes.
use Rattle.std.proofs.Common.{◌≡◌, ◌+◌, ◌≤◌, ℕ, suc, List, ◌∷◌, length, Bool, true, false, if◌then◌else◌, IfSome, IfOk, codes, bytes_eq, flat_map, Option, Some, None, option_map, Ordering, Less, Equal, Greater, refl, subst, arith}
use Rattle.std.specs.Prelude.{◌<◌, Result, Ok, Err, nat_le, nat_lt}
use Rattle.std.specs.Ordering.{match_ordering}
use Rattle.std.specs.List.{list_all}
use Rattle.std.specs.Str.{is_utf8}
use Rattle.std.proofs.lemmas.Bool.{and_parts, leb-true, ltb-true}
use Rattle.std.proofs.lemmas.List.{length-append}
use Rattle.serde_json.specs.Data.{Data, Items, Members}
use Rattle.serde_json.specs.Data as values
use Rattle.serde_json.specs.Find.{get, get_member, as_array}
use Rattle.serde_json.specs.Read.{read}
use Rattle.road_plan.specs.declared.limits.TheConstants.{MOST_SESSIONS}
use Rattle.road_scenario.specs.declared.edit.Edit.{Edit}
use Rattle.road_format.specs.CommandGrammar as grammar
use Rattle.road_format.specs.CommandGrammar.{Command, HasFewWrites, are_few_shares, share_writes}
use Rattle.road_format.specs.CommandGrammar.{beyond_in, command_at, command_in, command_of_form, command_of_name, crowd_in, edit_command_in, form_of_name, import_in, only_name, only_number, query_of_name, replica_command_of_name, withdraw_in}
use Rattle.road_format.specs.EditGrammar.{edit_in, edits_in}
use Rattle.road_format.specs.Fields.{◌>>=◌, check, has_fields, items_at, list_at, name_at, number_at, only_field, only_member, values_of_items}
use Rattle.road_format.specs.Forms.{are_of_form, is_known}
use Rattle.road_format.specs.ObjectGrammar.{object_at}
use Rattle.road_format.specs.Reading.{value_of}
use Rattle.road_format.specs.Refusals.{line_refusal, result_or_refusal}
use Rattle.road_format.specs.Views.{Gives, command_view}
use Rattle.road_format.specs.declared.command.Command as declared
use Rattle.road_format.specs.declared.faults.LineFault.{LineFault}
use Rattle.road_format.specs.declared.refusal.Refusal.{Refusal}
use Rattle.road_format.specs.declared.refusal.Refusal.TheVariants.{NotJson, NotACommand}
use Rattle.road_format.proofs.LineSizes.{AtMost, data_items, few_items, items_within, members_within}

-- ---- reading step by step

-- a fact about the result of the second step, from a fact about the result of the first
then_holds : {A B : Type 0} (P : A → Type 0) (Q : B → Type 0) (o : Option A) (f : A → Option B) → IfSome o P → ((a : A) → P a → IfSome (f a) Q) → IfSome (o >>= f) Q
then_holds P Q None f p q = tt
then_holds P Q (Some a) f p q = q a p

-- a fact that holds whatever the result of the first step
anyway : {A B : Type 0} (Q : B → Type 0) (o : Option A) (f : A → Option B) → ((a : A) → IfSome (f a) Q) → IfSome (o >>= f) Q
anyway Q None f q = tt
anyway Q (Some a) f q = q a

checked : (b : Bool) → IfSome (check b) (λ _. b ≡ true)
checked true = refl
checked false = tt

-- ---- items

-- whichever of three values is chosen has at most n items, if each of them has
one_of : (o : Ordering) (n : ℕ) (a b c : Option Data) → AtMost data_items n a → AtMost data_items n b → AtMost data_items n c → AtMost data_items n (match_ordering o a b c)
one_of Less n a b c p q r = p
one_of Equal n a b c p q r = q
one_of Greater n a b c p q r = r

more : (m n : ℕ) → m ≤ n → (o : Option Data) → AtMost data_items m o → AtMost data_items n o
more m n less None x = tt
more m n less (Some d) x = omega (arith, less, x)

member_items : (k : List ℕ) (ms : Members) → AtMost data_items (members_within ms) (get_member k ms)
member_items k values.no_members = tt
member_items k (values.member l e ms) =
    let others = more (members_within ms) (data_items e + members_within ms) (omega arith) (get_member k ms) (member_items k ms) in
    one_of _ (data_items e + members_within ms) (get_member k ms) (Some e) (get_member k ms) others (omega arith) others

field_items : (k : List ℕ) (d : Data) → AtMost data_items (data_items d) (get k d)
field_items k values.null = tt
field_items k (values.boolean b) = tt
field_items k (values.number n) = tt
field_items k (values.string s) = tt
field_items k (values.array ds) = tt
field_items k (values.object ms) = member_items k ms

array_items : (d : Data) → IfSome (as_array d) (λ ds. items_within ds ≤ data_items d)
array_items values.null = tt
array_items (values.boolean b) = tt
array_items (values.number n) = tt
array_items (values.string s) = tt
array_items (values.array ds) = omega arith
array_items (values.object ms) = tt

only_items : (ms : Members) → IfSome (only_member ms) (λ field. data_items field.1 ≤ members_within ms)
only_items values.no_members = tt
only_items (values.member name d values.no_members) = omega arith
only_items (values.member name d (values.member other e fields)) = tt

object_items : (d : Data) → IfSome (only_field d) (λ field. data_items field.1 ≤ data_items d)
object_items values.null = tt
object_items (values.boolean b) = tt
object_items (values.number n) = tt
object_items (values.string s) = tt
object_items (values.array ds) = tt
object_items (values.object ms) = only_items ms

some_at_most : (n : ℕ) (o : Option Data) → AtMost data_items n o → IfSome o (λ d. data_items d ≤ n)
some_at_most n None x = tt
some_at_most n (Some d) x = x

-- ---- shares

-- a list has an item for each value that is read from it
each_read : {A : Type 0} (read_one : Data → Option A) (ds : Items) → IfSome (values_of_items read_one ds) (λ xs. length xs ≤ items_within ds)
each_read read_one values.no_items = omega arith
each_read read_one (values.item d ds) =
    anyway _ (read_one d) _ (λ x. then_holds (λ xs. length xs ≤ items_within ds) _ (values_of_items read_one ds) _ (each_read read_one ds) (λ xs some. omega (arith, some)))

-- a list whose length is at most one number has a length of at most a larger number
longer : {A : Type 0} (m n : ℕ) → m ≤ n → (o : Option (List A)) → IfSome o (λ xs. length xs ≤ m) → IfSome o (λ xs. length xs ≤ n)
longer m n less None x = tt
longer m n less (Some xs) x = omega (arith, less, x)

share_items : (d : Data) → IfSome (edits_in d) (λ share. length share ≤ data_items d)
share_items d =
    then_holds (λ ds. items_within ds ≤ data_items d) (λ (share : List Edit). length share ≤ data_items d) (as_array d) (values_of_items edit_in) (array_items d)
    (λ ds least. longer (items_within ds) (data_items d) least (values_of_items edit_in ds) (each_read edit_in ds))

-- one more share makes one write for each of its edits, and one more write
one_share_more : (share : List Edit) (shares : List (List Edit)) → share_writes (share ∷ shares) ≡ suc (length share + share_writes shares)
one_share_more share shares = let both = length-append share (flat_map (λ (s : List Edit). s) shares) in omega (arith, both)

shares_items : (ds : Items) → IfSome (values_of_items edits_in ds) (λ shares. share_writes shares ≤ items_within ds)
shares_items values.no_items = omega arith
shares_items (values.item d ds) =
    then_holds (λ share. length share ≤ data_items d) (λ shares. share_writes shares ≤ items_within (values.item d ds)) (edits_in d) _ (share_items d) (λ share least.
    then_holds (λ shares. share_writes shares ≤ items_within ds) (λ shares. share_writes shares ≤ items_within (values.item d ds)) (values_of_items edits_in ds) _ (shares_items ds) (λ shares others.
    omega (arith, least, others, one_share_more share shares)))

-- ---- commands

fewer_still : (m n : ℕ) → m ≤ n → (o : Option (List (List Edit))) → IfSome o (λ shares. share_writes shares ≤ m) → IfSome o (λ shares. share_writes shares ≤ n)
fewer_still m n less None x = tt
fewer_still m n less (Some shares) x = omega (arith, less, x)

list_writes : (n : ℕ) (o : Option Items) → IfSome o (λ ds. items_within ds ≤ n) → IfSome (o >>= values_of_items edits_in) (λ shares. share_writes shares ≤ n)
list_writes n o some = then_holds (λ ds. items_within ds ≤ n) _ o (values_of_items edits_in) some (λ ds least. fewer_still (items_within ds) n least (values_of_items edits_in ds) (shares_items ds))

items_least : (n : ℕ) (d : Data) → data_items d ≤ n → IfSome (as_array d) (λ ds. items_within ds ≤ n)
items_least n values.null least = tt
items_least n (values.boolean b) least = tt
items_least n (values.number m) least = tt
items_least n (values.string s) least = tt
items_least n (values.array ds) least = least
items_least n (values.object ms) least = tt

-- if a command is read, it has few writes
record Few (n : ℕ) (read : Option Command) : Type 0 where
  few : IfSome read (HasFewWrites n)

few_anyway : {A : Type 0} {n : ℕ} (o : Option A) (f : A → Option Command) → ((a : A) → Few n (f a)) → Few n (o >>= f)
few_anyway None f q = record { few = tt }
few_anyway (Some a) f q = q a

few_then : {A : Type 0} {n : ℕ} (o : Option A) (f : A → Option Command) (P : A → Type 0) → IfSome o P → ((a : A) → P a → Few n (f a)) → Few n (o >>= f)
few_then None f P p q = record { few = tt }
few_then (Some a) f P p q = q a p

few_either : {n : ℕ} (b : Bool) (x y : Option Command) → Few n x → Few n y → Few n (if b then x else y)
few_either true x y p q = p
few_either false x y p q = q

few_mapped : {A : Type 0} {n : ℕ} (f : A → Command) (o : Option A) → ((a : A) → HasFewWrites n (f a)) → Few n (option_map f o)
few_mapped f None q = record { few = tt }
few_mapped f (Some a) q = record { few = q a }

crowd_few : (form : ℕ) (d : Data) (n : ℕ) → data_items d ≤ n → Few n (crowd_in form d)
unfolding crowd_in
crowd_few form d n least =
    let at_field = some_at_most (data_items d) (get (codes "shares") d) (field_items (codes "shares") d) in
    let listed = then_holds (λ e. data_items e ≤ data_items d) (λ ds. items_within ds ≤ data_items d) (get (codes "shares") d) as_array at_field (items_least (data_items d)) in
    few_anyway (check (has_fields 3 d)) _ (λ exact.
    few_then (list_at edits_in (codes "shares") d) _ (λ shares. share_writes shares ≤ data_items d) (list_writes (data_items d) (items_at (codes "shares") d) listed) (λ shares writes.
    few_then (check (are_few_shares shares)) _ (λ _. are_few_shares shares ≡ true) (checked (are_few_shares shares)) (λ ok few.
    let counted = and_parts (nat_lt 0 (length shares)) (nat_le (length shares) MOST_SESSIONS) few in
    let some : 0 < length shares = ltb-true 0 (length shares) counted.0 in
    let most : length shares ≤ MOST_SESSIONS = leb-true (length shares) MOST_SESSIONS counted.1 in
    let within : share_writes shares ≤ n = omega (arith, writes, least) in
    few_anyway (check (list_all (are_of_form form) shares)) _ (λ formed. few_anyway (number_at (codes "to") d) _ (λ to.
    let both : HasFewWrites n (grammar.Crowd shares to) = (some, most, within) in
    record { few = both })))))

-- no command at a replica is a crowd
edit_few : (at : List ℕ) (d : Data) (n : ℕ) → Few n (edit_command_in at d)
unfolding edit_command_in
edit_few at d n =
    few_anyway (check (has_fields 4 d)) _ (λ exact. few_anyway (object_at (codes "object") d) _ (λ object. few_anyway (number_at (codes "step") d) _ (λ step.
    few_anyway (number_at (codes "value") d) _ (λ value. record { few = tt }))))

withdraw_few : (at : List ℕ) (d : Data) (n : ℕ) → Few n (withdraw_in at d)
unfolding withdraw_in
withdraw_few at d n =
    few_anyway (check (has_fields 3 d)) _ (λ exact. few_anyway (object_at (codes "object") d) _ (λ object. few_anyway (number_at (codes "step") d) _ (λ step. record { few = tt })))

import_few : (form : ℕ) (at : List ℕ) (d : Data) (n : ℕ) → Few n (import_in form at d)
unfolding import_in
import_few form at d n =
    few_anyway (check (has_fields 3 d)) _ (λ exact. few_anyway (list_at edit_in (codes "edits") d) _ (λ edits. few_anyway (check (are_of_form form edits)) _ (λ formed. record { few = tt })))

beyond_few : (at : List ℕ) (d : Data) (n : ℕ) → Few n (beyond_in at d)
unfolding beyond_in
beyond_few at d n =
    few_anyway (check (has_fields 3 d)) _ (λ exact. few_anyway (name_at (codes "heads") d) _ (λ heads. few_anyway (name_at (codes "name") d) _ (λ name. record { few = tt })))

replica_few : (name at : List ℕ) (d : Data) (n : ℕ) → Few n (replica_command_of_name name at d)
unfolding replica_command_of_name
replica_few name at d n =
    few_either (bytes_eq name (codes "edit")) (edit_command_in at d) _ (edit_few at d n)
    (few_either (bytes_eq name (codes "withdraw")) (withdraw_in at d) _ (withdraw_few at d n)
    (few_either (bytes_eq name (codes "advance")) (option_map (grammar.Advance at) (only_number (codes "to") d)) _ (few_mapped (grammar.Advance at) (only_number (codes "to") d) (λ to. tt))
    (few_mapped (grammar.Ask at) (query_of_name name d) (λ query. tt))))

at_few : (name : List ℕ) (form : ℕ) (at : List ℕ) (d : Data) (n : ℕ) → Few n (command_at name form at d)
unfolding command_at
at_few name form at d n =
    few_either (bytes_eq name (codes "import")) (import_in form at d) _ (import_few form at d n)
    (few_either (bytes_eq name (codes "send")) (option_map (grammar.Send at) (only_name (codes "name") d)) _ (few_mapped (grammar.Send at) (only_name (codes "name") d) (λ message. tt))
    (few_either (bytes_eq name (codes "heads")) (option_map (grammar.Heads at) (only_name (codes "name") d)) _ (few_mapped (grammar.Heads at) (only_name (codes "name") d) (λ message. tt))
    (few_either (bytes_eq name (codes "beyond")) (beyond_in at d) _ (beyond_few at d n)
    (few_either (bytes_eq name (codes "take")) (option_map (grammar.Take at) (only_name (codes "message") d)) (replica_command_of_name name at d)
    (few_mapped (grammar.Take at) (only_name (codes "message") d) (λ message. tt)) (replica_few name at d n)))))

named_few : (name : List ℕ) (form : ℕ) (d : Data) (n : ℕ) → data_items d ≤ n → Few n (command_of_name name form d)
unfolding command_of_name
named_few name form d n least =
    few_either (bytes_eq name (codes "crowd")) (crowd_in form d) _ (crowd_few form d n least) (few_anyway (name_at (codes "at") d) (λ at. command_at name form at d) (λ at. at_few name form at d n))

in_few : (d : Data) (n : ℕ) → data_items d ≤ n → IfSome (command_in d) (λ read. HasFewWrites n read.1)
unfolding command_in
in_few d n least =
    let Q : ℕ × Command → Type 0 = λ read. HasFewWrites n read.1 in
    then_holds (λ field. data_items field.1 ≤ data_items d) Q (only_field d) (λ field. form_of_name field.0 field.1 >>= λ form. command_of_name field.0 form field.1 >>= λ command. Some (form, command)) (object_items d) (λ field less.
    anyway Q (form_of_name field.0 field.1) (λ form. command_of_name field.0 form field.1 >>= λ command. Some (form, command)) (λ form.
    then_holds (HasFewWrites n) Q (command_of_name field.0 form field.1) (λ command. Some (form, command)) (named_few field.0 form field.1 n (omega (arith, less, least))).few (λ command few. few)))

-- ---- lines

formed_few : (n : ℕ) (known : Bool) (command : Command) (refusal : Refusal) (c : Command) → HasFewWrites n command → (if known then Ok command else Err refusal) ≡ Ok c → HasFewWrites n c
formed_few n true command refusal c few is = let same : command ≡ c = cc in subst (HasFewWrites n) same few
formed_few n false command refusal c few is = absurd (cc)

command_few : (n : ℕ) (o : Option (ℕ × Command)) (c : Command) → IfSome o (λ read. HasFewWrites n read.1) → result_or_refusal NotACommand o command_of_form ≡ Ok c → HasFewWrites n c
command_few n None c few is = absurd (cc)
command_few n (Some read) c few is = formed_few n (is_known read.0) read.1 _ c few is

data_few : (n : ℕ) (o : Option Data) (c : Command) → IfSome o (λ d. data_items d ≤ n) → result_or_refusal NotJson o (λ d. result_or_refusal NotACommand (command_in d) command_of_form) ≡ Ok c → HasFewWrites n c
data_few n None c few is = absurd (cc)
data_few n (Some d) c few is = command_few n (command_in d) c (in_few d n few) is

read_few : (line : List ℕ) (text : Bool) → IfSome (if text then read line else None) (λ d. data_items d ≤ length line)
read_few line true = some_at_most (length line) (read line) (few_items line)
read_few line false = tt

value_items : (line : List ℕ) → IfSome (value_of line) (λ d. data_items d ≤ length line)
unfolding value_of
value_items line = read_few line (is_utf8 line)

-- a command read from a line makes no more writes than the line has bytes
pub line_few : (line : List ℕ) (d : Data) (result : Result declared.Command LineFault) → value_of line ≡ Some d
    → Gives command_view line_refusal result (result_or_refusal NotACommand (command_in d) command_of_form) → IfOk result (λ command. HasFewWrites (length line) (command_view command))
line_few line d (Err fault) is given = tt
line_few line d (Ok command) is given = data_few (length line) (Some d) (command_view command) (subst (λ (o : Option Data). IfSome o (λ e. data_items e ≤ length line)) is (value_items line)) given

-- a command with few enough writes for one bound has few enough for a larger bound
pub few_within : (m n : ℕ) → m ≤ n → (c : Command) → HasFewWrites m c → HasFewWrites n c
few_within m n less (grammar.Crowd shares to) few = (few.0, few.1, omega (arith, less, few.2))
few_within m n less command few = tt
