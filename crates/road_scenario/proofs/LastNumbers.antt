-- The number in force for an object is the last one set in its steps.
use Rattle.std.specs.Prelude.{◌≡◌, ℕ, ◌<◌, Bool, true, false, cond, ◌&&◌, ◌||◌, T, List, [], ◌∷◌, ◌++◌, nat_le, nat_lt, is_some, refl}
use Rattle.std.specs.declared.cmp.Ordering.{Ordering}
use Rattle.std.specs.declared.cmp.Ordering.TheVariants.{Less, Equal, Greater}
use Rattle.std.specs.declared.option.Option.{Option}
use Rattle.std.specs.declared.option.Option.TheVariants.{None, Some}
use Rattle.std.specs.List.{AllByRecursion, filter}
use Rattle.std.specs.Option.{option_or, unwrap_or, option_and_then}
use Rattle.std.specs.Ordering.{nat_cmp, ordering_reverse, eq_by_cmp, is_eq, is_lt}
use Rattle.std.specs.Cmp.{tied_itself, Equal-is}
use Rattle.std.specs.FinMap.Entries.{find, below_all, is_sorted}
use Rattle.std.proofs.Common.{arith, sym, ap, ◌∙◌}
use Rattle.std.proofs.lemmas.Bool.{true≢false}
use Rattle.std.proofs.lemmas.Bool.Decides.{nat_tests}
use Rattle.std.proofs.Math.Bool.{or-true}
use Rattle.std.proofs.lemmas.List.Elements.{filter-append}
use Rattle.lattice_core.specs.Instances.TestAnswers.{first_of_both, second_of_both, less_by_T}
use Rattle.lattice_core.specs.declared.greatest.Greatest.TheVariants.{Nothing, Of}
use Rattle.road_plan.specs.Objects.{order_key, object_order}
use Rattle.road_plan.specs.Instances.ObjectOrder.{ordered}
use Rattle.road_plan.specs.declared.object.Object.{Object}
use Rattle.road_scenario.specs.declared.edit.Stamp.{Stamp}
use Rattle.road_scenario.specs.declared.edit.Value.{Value}
use Rattle.road_scenario.specs.declared.edit.Edit.{Edit}
use Rattle.road_scenario.specs.Edits.{put_number, number_pair_cmp}
use Rattle.road_scenario.specs.Instances.EditOrder.{number_pair_total}
use Rattle.road_scenario.specs.Registers.{Register, RegistersByStep, RegistersByObject, edit_with, edits_from_register, object_edits, edit_list}
use Rattle.road_scenario.specs.Settings.{is_put_up_to, latest_edit}
use Rattle.road_scenario.specs.Private.RegisterWalks.{register_number, entry_number, last_number, registers_of_object}
use Rattle.road_scenario.specs.Instances.RegisterLattice.{object_cmp}

-- whether two objects are the same
abbrev pub is_one : Object → Object → Bool
is_one p o = is_eq (object_order p o)

-- ---- the code's walk

-- the last number that the registers of an object set
abbrev pub last_number_of : RegistersByStep → Option ℕ
last_number_of [] = None
last_number_of (e ∷ es) = option_or (last_number_of es) (register_number e.1)

pub or_none : (x : Option ℕ) → x ≡ option_or x None
or_none None = refl
or_none (Some n) = refl

or-assoc : (x y z : Option ℕ) → option_or (option_or x y) z ≡ option_or x (option_or y z)
or-assoc None y z = refl
or-assoc (Some n) y z = refl

last-append : (es : RegistersByStep) (x : ℕ × Register) → last_number_of (es ++ x ∷ []) ≡ option_or (register_number x.1) (last_number_of es)
last-append [] x = or_none (register_number x.1)
last-append (e ∷ es) x = ap (λ y. option_or y (register_number e.1)) (last-append es x) ∙ or-assoc (register_number x.1) (last_number_of es) (register_number e.1)

-- a number of the last entry is the last number
pub last_found : (rest left : RegistersByStep) (x : ℕ × Register) (number whole : Option ℕ) (n : ℕ) → rest ≡ left ++ x ∷ [] → number ≡ register_number x.1 → Some n ≡ number → last_number_of rest ≡ whole → Some n ≡ whole
last_found rest left x number whole n ends is some h =
    ap (λ y. option_or y (last_number_of left)) (some ∙ is) ∙ sym (last-append left x) ∙ sym (ap last_number_of ends) ∙ h

-- past an entry that sets none, the last number is that of what is left
pub last_further : (rest left : RegistersByStep) (x : ℕ × Register) (number whole : Option ℕ) → rest ≡ left ++ x ∷ [] → number ≡ register_number x.1 → None ≡ number → last_number_of rest ≡ whole → last_number_of left ≡ whole
last_further rest left x number whole ends is none h =
    ap (λ y. option_or y (last_number_of left)) (none ∙ is) ∙ sym (last-append left x) ∙ sym (ap last_number_of ends) ∙ h

-- ---- one object

-- the edits of an object's steps that set a number for an object up to a step
abbrev pub chosen : Object → ℕ → Object → RegistersByStep → List Edit
chosen o step p steps = filter (is_put_up_to o step) (object_edits p steps)

pub itself : (o : Object) → is_one o o ≡ true
itself o = ap is_eq (tied_itself number_pair_total (order_key o))

-- the edits of another object set nothing for it
pub none_of_other : (o p : Object) (step : ℕ) (steps : RegistersByStep) → is_one p o ≡ false → chosen o step p steps ≡ []
none_of_other o p step [] h = refl
none_of_other o p step (s ∷ steps) h = elim s.1 as (λ w. filter (is_put_up_to o step) (edits_from_register p s.0 w (object_edits p steps)) ≡ []) [
  | Nothing ↦ none_of_other o p step steps h
  | Of w ↦ ap (λ b. cond (b && (nat_le s.0 step && is_some (put_number w.1))) (edit_with p s.0 w ∷ chosen o step p steps) (chosen o step p steps)) h ∙ none_of_other o p step steps h
]

-- each of these edits is dated later
abbrev pub AllLater : ℕ → List Edit → Type 0
AllLater step = AllByRecursion (λ e. step < e.step)

pub is_later : (a b : ℕ) → nat_cmp a b ≡ Less → a < b
is_later a b e = grind (arith, nat_tests)

later_chosen : (o : Object) (step a : ℕ) (steps : RegistersByStep) → T (below_all nat_cmp a steps) → AllLater a (chosen o step o steps)
later_chosen o step a [] h = tt
later_chosen o step a (s ∷ steps) h =
    let rest = later_chosen o step a steps (second_of_both (is_lt (nat_cmp a s.0)) _ h) in
    elim s.1 as (λ w. AllLater a (filter (is_put_up_to o step) (edits_from_register o s.0 w (object_edits o steps)))) [
      | Nothing ↦ rest
      | Of w ↦ elim (is_put_up_to o step (edit_with o s.0 w)) as (λ b. AllLater a (cond b (edit_with o s.0 w ∷ chosen o step o steps) (chosen o step o steps))) [
        | true ↦ (is_later a s.0 (less_by_T _ (first_of_both (is_lt (nat_cmp a s.0)) _ h)), rest)
        | false ↦ rest
      ]
    ]

pub is_below : (a b : ℕ) → a < b → nat_lt a b ≡ true
is_below a b l = grind (arith, nat_tests)

latest-first : (e : Edit) (es : List Edit) → AllLater e.step es → latest_edit (e ∷ es) ≡ option_or (latest_edit es) (Some e)
latest-first e [] h = refl
latest-first e (f ∷ es) h = ap (λ b. latest_edit (cond b f e ∷ es)) (is_below e.step f.step h.0)

-- whether there is an edit
abbrev any : List Edit → Bool
any [] = false
any (e ∷ es) = true

any-latest : (es : List Edit) → is_some (latest_edit es) ≡ any es
any-latest [] = refl
any-latest (e ∷ es) = refl

is_some-or : (x y : Option ℕ) → is_some (option_or x y) ≡ (is_some y || is_some x)
is_some-or None y = or_false (is_some y)
  where
    or_false : (b : Bool) → b ≡ (b || false)
    or_false true = refl
    or_false false = refl
is_some-or (Some n) y = sym (or-true (is_some y))

kept_and : (a b : Bool) (x : Option ℕ) → b ≡ true → is_some (cond a x None) ≡ (b && (a && is_some x))
kept_and true b x h = ap (λ c. c && is_some x) (sym h)
kept_and false b x h = ap (λ c. c && false) (sym h)

any-chosen : (o : Object) (step : ℕ) (steps : RegistersByStep) → is_some (last_number step steps) ≡ any (chosen o step o steps)
any-chosen o step [] = refl
any-chosen o step (s ∷ steps) = is_some-or (last_number step steps) (entry_number step s) ∙ ap (λ b. is_some (entry_number step s) || b) (any-chosen o step steps) ∙ here s.1
  where
    either : (b : Bool) (e : Edit) (es : List Edit) → (b || any es) ≡ any (cond b (e ∷ es) es)
    either true e es = refl
    either false e es = refl

    nothing : (b : Bool) (x : Bool) → (is_some {T = ℕ} (cond b None None) || x) ≡ x
    nothing true x = refl
    nothing false x = refl

    here : (w : Register) → (is_some (entry_number step (s.0, w)) || any (chosen o step o steps)) ≡ any (filter (is_put_up_to o step) (edits_from_register o s.0 w (object_edits o steps)))
    here Nothing = nothing (nat_le s.0 step) (any (chosen o step o steps))
    here (Of w) = ap (λ b. b || any (chosen o step o steps)) (kept_and (nat_le s.0 step) (is_one o o) (put_number w.1) (itself o)) ∙ either (is_put_up_to o step (edit_with o s.0 w)) (edit_with o s.0 w) (chosen o step o steps)

some_first : (x : Option Edit) (y z : Option ℕ) (e : Edit) → option_and_then (λ e. put_number e.value) x ≡ y → is_some y ≡ is_some x → z ≡ put_number e.value → option_and_then (λ e. put_number e.value) (option_or x (Some e)) ≡ option_or y z
some_first None None z e h i k = sym k
some_first None (Some n) z e h i k = absurd (true≢false i)
some_first (Some f) None z e h i k = absurd (true≢false (sym i))
some_first (Some f) (Some n) z e h i k = h

or_nothing : (x : Option ℕ) → x ≡ option_or x None
or_nothing None = refl
or_nothing (Some n) = refl

-- the latest of an object's edits sets the last number of its steps
pub latest_number : (o : Object) (step : ℕ) (steps : RegistersByStep) → T (is_sorted nat_cmp steps) → option_and_then (λ e. put_number e.value) (latest_edit (chosen o step o steps)) ≡ last_number step steps
latest_number o step [] h = refl
latest_number o step (s ∷ steps) h =
    let rest = latest_number o step steps (second_of_both (below_all nat_cmp s.0 steps) _ h) in
    let later = later_chosen o step s.0 steps (first_of_both (below_all nat_cmp s.0 steps) _ h) in
    let some : is_some (last_number step steps) ≡ is_some (latest_edit (chosen o step o steps)) = any-chosen o step steps ∙ sym (any-latest (chosen o step o steps)) in
    elim s.1 as (λ w. option_and_then (λ e. put_number e.value) (latest_edit (filter (is_put_up_to o step) (edits_from_register o s.0 w (object_edits o steps)))) ≡ option_or (last_number step steps) (entry_number step (s.0, w))) [
      | Nothing ↦ rest ∙ or_nothing (last_number step steps) ∙ ap (option_or (last_number step steps)) (no_number (nat_le s.0 step))
      | Of w ↦ here w rest later some
    ]
  where
    no_number : (b : Bool) → ◌≡◌ {A = Option ℕ} None (cond b None None)
    no_number true = refl
    no_number false = refl

    passes : (a b : Bool) (x : Option ℕ) → b ≡ true → (b && (a && is_some x)) ≡ true → cond a x None ≡ x
    passes true b x e h = refl
    passes false b x e h = absurd (true≢false (sym h ∙ ap (λ c. c && false) e))

    stops : (a b : Bool) (x : Option ℕ) → b ≡ true → (b && (a && is_some x)) ≡ false → cond a x None ≡ None
    stops true b None e h = refl
    stops true b (Some n) e h = absurd (true≢false (sym (ap (λ c. c && true) e) ∙ h))
    stops false b x e h = refl

    here : (w : Stamp × Value) → option_and_then (λ e. put_number e.value) (latest_edit (chosen o step o steps)) ≡ last_number step steps → AllLater s.0 (chosen o step o steps) → is_some (last_number step steps) ≡ is_some (latest_edit (chosen o step o steps))
        → option_and_then (λ e. put_number e.value) (latest_edit (filter (is_put_up_to o step) (edit_with o s.0 w ∷ object_edits o steps))) ≡ option_or (last_number step steps) (entry_number step (s.0, Of w))
    here w rest later some = elim (is_put_up_to o step (edit_with o s.0 w)) as (λ b. is_put_up_to o step (edit_with o s.0 w) ≡ b → option_and_then (λ e. put_number e.value) (latest_edit (cond b (edit_with o s.0 w ∷ chosen o step o steps) (chosen o step o steps))) ≡ option_or (last_number step steps) (entry_number step (s.0, Of w))) [
      | true ↦ λ e.
          ap (option_and_then (λ (e : Edit). put_number e.value)) (latest-first (edit_with o s.0 w) (chosen o step o steps) later)
          ∙ some_first (latest_edit (chosen o step o steps)) (last_number step steps) (entry_number step (s.0, Of w)) (edit_with o s.0 w) rest some (passes (nat_le s.0 step) (is_one o o) (put_number w.1) (itself o) e)
      | false ↦ λ e. rest ∙ or_nothing (last_number step steps) ∙ ap (option_or (last_number step steps)) (sym (stops (nat_le s.0 step) (is_one o o) (put_number w.1) (itself o) e))
    ] refl

-- ---- all objects

-- an object below another is a different object
pub other_above : (o p : Object) → object_cmp o p ≡ Less → is_one p o ≡ false
other_above o p l = ap is_eq (number_pair_total.antisymm (order_key p) (order_key o) ∙ ap ordering_reverse (sym (ordered o p) ∙ l))

pub none_above : (o : Object) (step : ℕ) (m : RegistersByObject) → T (below_all object_cmp o m) → filter (is_put_up_to o step) (edit_list m) ≡ []
none_above o step [] h = refl
none_above o step (e ∷ m) h =
    filter-append (is_put_up_to o step) (object_edits e.0 e.1) (edit_list m)
    ∙ (λ i. none_of_other o e.0 step e.1 (other_above o e.0 (less_by_T _ (first_of_both (is_lt (object_cmp o e.0)) _ h))) i ++ none_above o step m (second_of_both (is_lt (object_cmp o e.0)) _ h) i)

-- the two tests of objects agree
pub same_tests : (o p : Object) → eq_by_cmp object_cmp o p ≡ is_one p o
same_tests o p = ap is_eq (ordered o p) ∙ turned (number_pair_cmp (order_key o) (order_key p)) ∙ ap is_eq (sym (number_pair_total.antisymm (order_key p) (order_key o)))
  where
    turned : (r : Ordering) → is_eq r ≡ is_eq (ordering_reverse r)
    turned Less = refl
    turned Equal = refl
    turned Greater = refl

-- the registers of an object, if it is the first of the map
pub steps_here : (e : Object × RegistersByStep) (m : RegistersByObject) (o : Object) → is_one e.0 o ≡ true → registers_of_object object_cmp (e ∷ m) o ≡ e.1
steps_here e m o t = ap (λ b. unwrap_or (cond b (Some e.1) (find object_cmp o m)) []) (same_tests o e.0 ∙ t)

pub steps_there : (e : Object × RegistersByStep) (m : RegistersByObject) (o : Object) → is_one e.0 o ≡ false → registers_of_object object_cmp (e ∷ m) o ≡ registers_of_object object_cmp m o
steps_there e m o t = ap (λ b. unwrap_or (cond b (Some e.1) (find object_cmp o m)) []) (same_tests o e.0 ∙ t)

pub one_object : (p o : Object) → is_one p o ≡ true → ((x y : Object) → number_pair_cmp (order_key x) (order_key y) ≡ Equal → x ≡ y) → p ≡ o
one_object p o t exact = exact p o ((Equal-is _).0 t)
