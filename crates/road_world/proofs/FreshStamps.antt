-- Stamps that one world issues are distinct, and none is that of an import: each is above all that reached its replica
-- before, and has a replica's number.
use Rattle.std.proofs.Common.{◌≡◌, ◌≤◌, ◌<◌, ◌==◌, ℕ, suc, zero, Bool, true, false, List, [], ◌∷◌, ◌++◌, length, map, Option, Some, None, refl, ap, sym, subst, ◌∙◌, arith}
use Rattle.std.specs.Prelude.{◌||◌, IfSome, slice_set, nat_lt, Result, if◌then◌else◌}
use Rattle.std.specs.List.{AllByRecursion, IsDistinct, list_any, slice_index_or}
use Rattle.std.specs.Option.{option_map}
use Rattle.std.specs.declared.result.Result.TheVariants.{Ok, Err}
use Rattle.std.proofs.lemmas.Bool.{and_parts, eqb-true, false_from_ne_true}
use Rattle.std.proofs.lemmas.Bool.Decides.{nat_tests}
use Rattle.std.proofs.lemmas.List.{get_or-set_same, length-replicate}
use Rattle.lattice_core.specs.Sets.{union}
use Rattle.road_plan.specs.Plan.{Plan}
use Rattle.road_plan.specs.declared.limits.TheConstants.{MOST_REPLICAS, FIRST_IMPORT_NUMBER}
use Rattle.road_plan.specs.declared.object.Object.{Object}
use Rattle.road_scenario.specs.Counts.{greatest_count}
use Rattle.road_scenario.specs.Edits.{Edits}
use Rattle.road_scenario.specs.Faults.{fault_of_edit}
use Rattle.road_scenario.specs.declared.edit.Edit as edits
use Rattle.road_scenario.specs.declared.edit.Stamp.{Stamp}
use Rattle.road_scenario.specs.declared.edit.Value.{Value}
use Rattle.road_scenario.specs.declared.edit.Value.TheVariants.{Withdrawn, Put}
use Rattle.road_scenario.proofs.GreatestCounts.{upper_in}
use Rattle.road_replica.specs.Refusals.{received_edit_fault, imported_edit_fault, import_fault}
use Rattle.road_replica.specs.Replicas.{local_edit, single_edit}
use Rattle.road_replica.specs.declared.faults.ReplicaFault.{ReplicaFault}
use Rattle.road_replica.specs.declared.faults.ReplicaFault.TheVariants.{Insider}
use Rattle.road_replica.proofs.ImportedEdits.{none_of_both}
use Rattle.road_replica.specs.declared.reply.Reply.{Reply}
use Rattle.road_replica.specs.declared.reply.Reply.TheVariants.{Stamped, Touched, Message, Horizon}
use Rattle.road_world.specs.Answers.{AreAnswers, IsAnswer, fault_of_event, replica_number, reply_to_event}
use Rattle.road_world.specs.Events.{World, WorldReplica, accepted_events, opening_replica, opening_world, replica_at, world_after_event, world_with_edits, world_with_local_edit}
use Rattle.road_world.specs.Stamps.{AreFresh, IsNew, imported_stamps, is_same_stamp, issued_stamp, issued_stamps}
use Rattle.road_world.specs.declared.event.Event.{Event}
use Rattle.road_world.specs.declared.event.Event.TheVariants.{Edit, Withdraw, Import, Send, Heads, Beyond, Take, Advance}
use Rattle.road_world.specs.declared.faults.WorldFault.{WorldFault}
use Rattle.road_world.specs.declared.faults.WorldFault.TheVariants as faults
use Rattle.road_world.proofs.EventAnswers.{none_refuses}
use Rattle.road_world.proofs.EventLists.{replicas-after_event}
use Rattle.road_world.proofs.GrowingCounts.{greatest_count_of_union, count_of_single}

-- the greatest count of the edits that reached replica r
abbrev count_at : World → ℕ → ℕ
count_at w r = greatest_count (replica_at w r).edits

-- ---- counts grow

-- a number is at most itself
at_most_itself : (n : ℕ) → n ≤ n
at_most_itself n = omega arith

-- if one replica is replaced by one with a greatest count that is not smaller, no replica's greatest count falls
set_grows : (xs : List WorldReplica) (r n : ℕ) (x : WorldReplica) → greatest_count (slice_index_or xs r opening_replica).edits ≤ greatest_count x.edits
    → greatest_count (slice_index_or xs n opening_replica).edits ≤ greatest_count (slice_index_or (slice_set xs r x) n opening_replica).edits
set_grows [] r n x more = at_most_itself _
set_grows (y ∷ ys) zero zero x more = more
set_grows (y ∷ ys) zero (suc n) x more = at_most_itself _
set_grows (y ∷ ys) (suc r) zero x more = at_most_itself _
set_grows (y ∷ ys) (suc r) (suc n) x more = set_grows ys r n x more

-- no count falls if edits reach a replica
edits_grow : (w : World) (r n : ℕ) (s : Edits) → count_at w n ≤ count_at (world_with_edits r s w) n
edits_grow w r n s = set_grows w.replicas r n _ (greatest_count_of_union (replica_at w r).edits s)

-- no event decreases a replica's greatest count
pub counts_grow : (e : Event) (w : World) (n : ℕ) → count_at w n ≤ count_at (world_after_event e w) n
counts_grow (Edit r o step number) w n = edits_grow w r n _
counts_grow (Withdraw r o step) w n = edits_grow w r n _
counts_grow (Import r es) w n = edits_grow w r n _
counts_grow (Send r) w n = at_most_itself _
counts_grow (Heads r) w n = at_most_itself _
counts_grow (Beyond r m) w n = at_most_itself _
counts_grow (Take r m) w n = edits_grow w r n _
counts_grow (Advance r to) w n = set_grows w.replicas r n _ (at_most_itself _)

-- ---- a stamp in the reply to an event

-- a stamp is above a world: it has the number of a replica, and its count is greater than that of each edit that
-- reached this replica
pub record IsAbove (w : World) (s : Stamp) : Type 0 where
  pub of_replica : s.number < length w.replicas
  pub greater : count_at w s.number < s.count

-- a stamp is above the world before an event, and after the event its replica holds it
pub record IsIssued (e : Event) (w : World) (s : Stamp) : Type 0 where
  pub above : IsAbove w s
  pub held : s.count ≤ count_at (world_after_event e w) s.number

-- the stamp of an edit that a replica makes is above the world
made_above : (w : World) (r : ℕ) (o : Object) (step : ℕ) (v : Value) → r < length w.replicas → IsAbove w (local_edit r (replica_at w r).edits o step v).stamp
made_above w r o step v b = record { of_replica = b; greater = next (count_at w r) }
  where
    next : (n : ℕ) → n < suc n
    next n = omega arith

-- the replica holds the edit that it makes from then on
made_held : (w : World) (r : ℕ) (o : Object) (step : ℕ) (v : Value) → r < length w.replicas → suc (count_at w r) ≤ count_at (world_with_local_edit r o step v w) r
made_held w r o step v b =
    let held : Edits = (replica_at w r).edits in
    let made : edits.Edit = local_edit r held o step v in
    by_same _ _ _ (count_of_single held made) (ap (λ (x : WorldReplica). greatest_count x.edits) (get_or-set_same w.replicas r (record (replica_at w r) { edits = union held (single_edit made) }) opening_replica b))
  where
    by_same : (a b c : ℕ) → a ≤ b → c ≡ b → a ≤ c
    by_same a b c h e = omega arith

-- replies with the same stamp
same_stamped : (s t : Stamp) → Stamped s ≡ Stamped t → s ≡ t
same_stamped s t h = cc

-- only edits and withdrawals have a stamp as their reply, and it is that of the edit made
stamp_is_issued : (e : Event) (w : World) (s : Stamp) → fault_of_event w e ≡ None → Stamped s ≡ reply_to_event w e → IsIssued e w s
stamp_is_issued (Edit r o step n) w s f h =
    let there = none_refuses (Edit r o step n) w f in
    let Issued : Stamp → Type 0 = λ t. IsIssued (Edit r o step n) w t in
    subst Issued (sym (same_stamped s _ h)) (record { above = made_above w r o step (Put n) there.0; held = made_held w r o step (Put n) there.0 })
stamp_is_issued (Withdraw r o step) w s f h =
    let there = none_refuses (Withdraw r o step) w f in
    let Issued : Stamp → Type 0 = λ t. IsIssued (Withdraw r o step) w t in
    subst Issued (sym (same_stamped s _ h)) (record { above = made_above w r o step Withdrawn there.0; held = made_held w r o step Withdrawn there.0 })
stamp_is_issued (Import r es) w s f h = cc
stamp_is_issued (Send r) w s f h = cc
stamp_is_issued (Heads r) w s f h = cc
stamp_is_issued (Beyond r m) w s f h = cc
stamp_is_issued (Take r m) w s f h = cc
stamp_is_issued (Advance r to) w s f h = cc

-- ---- the stamp of one answer

-- the stamp of an edit that a replica makes is new there
made_new : (w : World) (r : ℕ) (o : Object) (step : ℕ) (v : Value) → IsNew w r (local_edit r (replica_at w r).edits o step v).stamp
made_new w r o step v = record {
  of_replica = refl;
  greater = λ e inside. next _ _ (upper_in (replica_at w r).edits e inside);
}
  where
    next : (n m : ℕ) → n ≤ m → n < suc m
    next n m h = omega arith

stamp_is_new : (e : Event) (w : World) (s : Stamp) → Stamped s ≡ reply_to_event w e → IsNew w (replica_number e) s
stamp_is_new (Edit r o step n) w s h = subst (IsNew w r) (sym (same_stamped s _ h)) (made_new w r o step (Put n))
stamp_is_new (Withdraw r o step) w s h = subst (IsNew w r) (sym (same_stamped s _ h)) (made_new w r o step Withdrawn)
stamp_is_new (Import r es) w s h = cc
stamp_is_new (Send r) w s h = cc
stamp_is_new (Heads r) w s h = cc
stamp_is_new (Beyond r m) w s h = cc
stamp_is_new (Take r m) w s h = cc
stamp_is_new (Advance r to) w s h = cc

-- the stamp that an answer issues is new at the event's replica
pub issued_is_new : (e : Event) (w : World) (answer : Result Reply WorldFault) → IsAnswer w e answer → IfSome (issued_stamp answer) (IsNew w (replica_number e))
issued_is_new e w (Ok (Stamped s)) h = stamp_is_new e w s h.1
issued_is_new e w (Ok (Touched t)) h = tt
issued_is_new e w (Ok (Message m)) h = tt
issued_is_new e w (Ok (Horizon to)) h = tt
issued_is_new e w (Err fault) h = tt

-- ---- the stamps of all replies

-- a stamp above the world after an event was above it before
above_before : (e : Event) (w : World) (s : Stamp) → IsAbove (world_after_event e w) s → IsAbove w s
above_before e w s a = record {
  of_replica = same_bound _ _ _ (replicas-after_event e w) a.of_replica;
  greater = still _ _ _ (counts_grow e w s.number) a.greater;
}
  where
    same_bound : (n m k : ℕ) → m ≡ k → n < m → n < k
    same_bound n m k e b = omega arith

    still : (n m k : ℕ) → n ≤ m → m < k → n < k
    still n m k p q = omega arith

-- each stamp of a list that is above the world after an event was above it before
all_above_before : (e : Event) (w : World) (ss : List Stamp) → AllByRecursion (IsAbove (world_after_event e w)) ss → AllByRecursion (IsAbove w) ss
all_above_before e w [] all = tt
all_above_before e w (s ∷ ss) all = (above_before e w s all.0, all_above_before e w ss all.1)

-- all stamps that are issued from a world on are above it
pub issued_above : (w : World) (events : List Event) (replies : List (Result Reply WorldFault)) → AreAnswers w events replies → AllByRecursion (IsAbove w) (issued_stamps replies)
issued_above w [] [] h = tt
issued_above w [] (reply ∷ replies) h = absurd h
issued_above w (e ∷ events) [] h = absurd h
issued_above w (e ∷ events) (Ok (Stamped s) ∷ replies) h =
    ((stamp_is_issued e w s h.0.0 h.0.1).above, all_above_before e w _ (issued_above (world_after_event e w) events replies h.1))
issued_above w (e ∷ events) (Ok (Touched t) ∷ replies) h = all_above_before e w _ (issued_above (world_after_event e w) events replies h.1)
issued_above w (e ∷ events) (Ok (Message m) ∷ replies) h = all_above_before e w _ (issued_above (world_after_event e w) events replies h.1)
issued_above w (e ∷ events) (Ok (Horizon to) ∷ replies) h = all_above_before e w _ (issued_above (world_after_event e w) events replies h.1)
issued_above w (e ∷ events) (Err fault ∷ replies) h = issued_above w events replies h.1

-- a stamp that a replica holds is not a stamp above the world
apart : (w : World) (s t : Stamp) → s.count ≤ count_at w s.number → IsAbove w t → is_same_stamp s t ≡ false
apart w s t held above = false_from_ne_true _ (λ h.
    let same = and_parts (s.count == t.count) _ h in
    greater_yet _ _ _ _ (eqb-true s.count t.count same.0) (ap (count_at w) (eqb-true s.number t.number same.1)) held above.greater)
  where
    greater_yet : (c d n m : ℕ) → c ≡ d → n ≡ m → c ≤ n → m < d → ⊥
    greater_yet c d n m p q held more = omega arith

-- so it is not in a list of stamps above the world
all_apart : (w : World) (s : Stamp) (ss : List Stamp) → s.count ≤ count_at w s.number → AllByRecursion (IsAbove w) ss → AllByRecursion (λ t. is_same_stamp s t ≡ false) ss
all_apart w s [] held all = tt
all_apart w s (t ∷ ss) held all = (apart w s t held all.0, all_apart w s ss held all.1)

-- no stamp is issued twice
pub issued_distinct : (w : World) (events : List Event) (replies : List (Result Reply WorldFault)) → AreAnswers w events replies → IsDistinct is_same_stamp (issued_stamps replies)
unfolding IsDistinct
issued_distinct w [] [] h = tt
issued_distinct w [] (reply ∷ replies) h = absurd h
issued_distinct w (e ∷ events) [] h = absurd h
issued_distinct w (e ∷ events) (Ok (Stamped s) ∷ replies) h = (
  all_apart (world_after_event e w) s _ (stamp_is_issued e w s h.0.0 h.0.1).held (issued_above (world_after_event e w) events replies h.1),
  issued_distinct (world_after_event e w) events replies h.1,
)
issued_distinct w (e ∷ events) (Ok (Touched t) ∷ replies) h = issued_distinct (world_after_event e w) events replies h.1
issued_distinct w (e ∷ events) (Ok (Message m) ∷ replies) h = issued_distinct (world_after_event e w) events replies h.1
issued_distinct w (e ∷ events) (Ok (Horizon to) ∷ replies) h = issued_distinct (world_after_event e w) events replies h.1
issued_distinct w (e ∷ events) (Err fault ∷ replies) h = issued_distinct w events replies h.1

-- ---- the stamps of imports

-- a stamp whose number is not that of a replica
abbrev IsOutside : Stamp → Type 0
IsOutside s = FIRST_IMPORT_NUMBER ≤ s.number

-- if there is no cause under another name, there is no cause
unmapped : (x : Option ReplicaFault) → option_map faults.Replica x ≡ None → x ≡ None
unmapped None h = refl
unmapped (Some f) h = cc

-- a number that is not refused as `Insider` is not a replica's
no_insider : (n : ℕ) → (if nat_lt n FIRST_IMPORT_NUMBER then Some Insider else None) ≡ None → FIRST_IMPORT_NUMBER ≤ n
no_insider n h = by_test (nat_lt n FIRST_IMPORT_NUMBER) refl h
  where
    by_test : (b : Bool) → nat_lt n FIRST_IMPORT_NUMBER ≡ b → (if b then Some Insider else None) ≡ None → FIRST_IMPORT_NUMBER ≤ n
    by_test true t g = cc
    by_test false t g = grind (arith, nat_tests)

-- the stamps of edits that are not refused have no replica's number
imported_outside : (plan : Plan) (es : List edits.Edit) → import_fault plan es ≡ None → AllByRecursion IsOutside (map (λ edit. edit.stamp) es)
imported_outside plan [] h = tt
imported_outside plan (e ∷ es) h =
    let both = none_of_both (imported_edit_fault plan e) (import_fault plan es) h in
    let here = none_of_both (option_map received_edit_fault (fault_of_edit plan e)) _ both.0 in
    (no_insider e.stamp.number here.1, imported_outside plan es both.1)

-- a fact about each of two lists is a fact about each of both together
all_of_both : (P : Stamp → Type 0) (ss ts : List Stamp) → AllByRecursion P ss → AllByRecursion P ts → AllByRecursion P (ss ++ ts)
all_of_both P [] ts p q = q
all_of_both P (s ∷ ss) ts p q = (p.0, all_of_both P ss ts p.1 q)

-- an event that is not refused imports no edit with a replica's number
event_outside : (e : Event) (w : World) (more : List Event) → fault_of_event w e ≡ None → AllByRecursion IsOutside (imported_stamps more) → AllByRecursion IsOutside (imported_stamps (e ∷ more))
event_outside (Edit r o step n) w more f all = all
event_outside (Withdraw r o step) w more f all = all
event_outside (Import r es) w more f all =
    all_of_both IsOutside (map (λ edit. edit.stamp) es.items) _ (imported_outside w.plan es.items (unmapped _ (none_refuses (Import r es) w f).1)) all
event_outside (Send r) w more f all = all
event_outside (Heads r) w more f all = all
event_outside (Beyond r m) w more f all = all
event_outside (Take r m) w more f all = all
event_outside (Advance r to) w more f all = all

-- no accepted import has a replica's number
pub imports_outside : (w : World) (events : List Event) (replies : List (Result Reply WorldFault)) → AreAnswers w events replies → AllByRecursion IsOutside (imported_stamps (accepted_events events replies))
imports_outside w [] [] h = tt
imports_outside w [] (reply ∷ replies) h = absurd h
imports_outside w (e ∷ events) [] h = absurd h
imports_outside w (e ∷ events) (Ok reply ∷ replies) h =
    event_outside e w _ h.0.0 (imports_outside (world_after_event e w) events replies h.1)
imports_outside w (e ∷ events) (Err fault ∷ replies) h = imports_outside w events replies h.1

-- ---- both

-- a stamp with a replica's number is not the stamp of an import
not_imported : (s : Stamp) (imports : List Stamp) → s.number < FIRST_IMPORT_NUMBER → AllByRecursion IsOutside imports → list_any (is_same_stamp s) imports ≡ false
not_imported s [] inside all = refl
not_imported s (t ∷ imports) inside all =
    let other : is_same_stamp s t ≡ false = false_from_ne_true _ (λ h.
    on_both_sides s.number t.number (eqb-true s.number t.number (and_parts (s.count == t.count) _ h).1) inside all.0) in
    ap (λ b. b || list_any (is_same_stamp s) imports) other ∙ not_imported s imports inside all.1
  where
    on_both_sides : (n m : ℕ) → n ≡ m → n < FIRST_IMPORT_NUMBER → FIRST_IMPORT_NUMBER ≤ m → ⊥
    on_both_sides n m e p q = omega arith

-- no stamp above a world is the stamp of an import
none_of_imports : (w : World) (stamps imports : List Stamp) → length w.replicas ≤ FIRST_IMPORT_NUMBER → AllByRecursion (IsAbove w) stamps → AllByRecursion IsOutside imports
    → list_any (λ s. list_any (is_same_stamp s) imports) stamps ≡ false
none_of_imports w [] imports few above outside = refl
none_of_imports w (s ∷ stamps) imports few above outside =
    ap (λ b. b || list_any (λ t. list_any (is_same_stamp t) imports) stamps) (not_imported s imports (below _ _ _ above.0.of_replica few) outside)
    ∙ none_of_imports w stamps imports few above.1 outside
  where
    below : (n m k : ℕ) → n < m → m ≤ k → n < k
    below n m k p q = omega arith

-- the stamps that a world issues are fresh, if it has at most the allowed number of replicas
pub stamps_are_fresh : (plan : Plan) (count : ℕ) (events : List Event) (replies : List (Result Reply WorldFault)) → count ≤ MOST_REPLICAS → AreAnswers (opening_world plan count) events replies
    → AreFresh (issued_stamps replies) (imported_stamps (accepted_events events replies))
stamps_are_fresh plan count events replies few h = record {
  distinct = issued_distinct (opening_world plan count) events replies h;
  none_imported = none_of_imports (opening_world plan count) _ _ (within count _ (length-replicate count opening_replica) few) (issued_above (opening_world plan count) events replies h) (imports_outside (opening_world plan count) events replies h);
}
  where
    within : (n m : ℕ) → m ≡ n → n ≤ MOST_REPLICAS → m ≤ FIRST_IMPORT_NUMBER
    within n m e b = omega arith
