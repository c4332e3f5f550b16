-- The result of a replica's write, and the world after it, are those of the event; the same for messages.
use Rattle.std.proofs.Common.{◌≡◌, ◌≤◌, ◌<◌, ◌∙◌, ℕ, List, [], ◌∷◌, ◌++◌, length, Option, Some, None, refl, ap, arith, sym, subst}
use Rattle.std.specs.Prelude.{IsErrAnd, IsNone, Result, slice_set, unwrap_or}
use Rattle.std.specs.List.{slice_get, slice_index_or}
use Rattle.std.specs.Option.{option_map}
use Rattle.std.specs.declared.result.Result.TheVariants.{Ok, Err}
use Rattle.std.proofs.lemmas.Bool.Decides.{nat_tests}
use Rattle.std.proofs.lemmas.List.{set-get_or}
use Rattle.lattice_core.specs.Sets.{from_list}
use Rattle.lattice_core.proofs.SetElements.{contains-from_list}
use Rattle.road_plan.specs.Plan.{Plan}
use Rattle.road_plan.specs.declared.object.Object.{Object}
use Rattle.road_scenario.specs.Edits.{Edits}
use Rattle.road_scenario.specs.Faults.{fault_in, fault_of_edit}
use Rattle.road_scenario.specs.Instances.EditOrder.{edit_total}
use Rattle.road_scenario.specs.declared.edit.Edit as edit
use Rattle.road_scenario.specs.declared.edit.Stamp.{Stamp}
use Rattle.road_scenario.specs.declared.edit.Value.{Value}
use Rattle.road_scenario.specs.declared.edit.Value.TheVariants.{Withdrawn, Put}
use Rattle.road_scenario.specs.declared.faults.EditFault.{EditFault}
use Rattle.road_scenario.proofs.EditRanges.{in_range-one}
use Rattle.road_scenario.proofs.FirstFaults.{all_in_range, each_in_range}
use Rattle.road_sheet.specs.Commands.{IsAllowed, SheetCommand, sheet_after}
use Rattle.road_sheet.specs.Commands as commands
use Rattle.road_sheet.specs.Sheets.{IsSheet, Sheet}
use Rattle.road_rewind.specs.Growth.{TicksAtMost, meter_after, touched_step}
use Rattle.road_rewind.proofs.StepCounts.{few_steps}
use Rattle.road_replica.specs.Refusals.{advance_fault, received_edit_fault, edit_fault, import_fault, own_edit_fault, take_fault}
use Rattle.road_replica.specs.Replicas.{Replica, edit_made, replica_after, single_edit}
use Rattle.road_replica.specs.Writes.{IsAccepted, IsRefused, most_steps_of_command, steps_of_command}
use Rattle.road_replica.specs.declared.faults.ReplicaFault.{ReplicaFault}
use Rattle.road_replica.specs.declared.faults.ReplicaFault.TheVariants.{OutOfMemory}
use Rattle.road_replica.specs.declared.reply.Reply.{Reply}
use Rattle.road_replica.specs.declared.reply.Reply.TheVariants as replies
use Rattle.road_replica.proofs.GrownSheets.{grown_by_edits, grown_is_sheet}
use Rattle.road_replica.proofs.ImportedEdits.{no_fault_imported}
use Rattle.road_replica.proofs.Writes.{few_steps_of}
use Rattle.road_world.specs.Answers.{IsAnswer, IsRefusal, fault_at_replica, fault_of_event, replica_number, replica_with_sheet, reply_to_event, sheet_at, stamp_reply}
use Rattle.road_world.specs.Applied.{IsApplied}
use Rattle.road_world.specs.Events.{World, carried_edits, message_of_event, world_after_event, world_of_winners}
use Rattle.road_world.specs.Private.LocalEvents.{local_event}
use Rattle.road_world.specs.Private.Worlds.{IsWorldKept}
use Rattle.road_world.specs.Steps.{command_of_event, most_steps_of_event, steps_of_event}
use Rattle.road_world.specs.declared.event.Event.{Event}
use Rattle.road_world.specs.declared.event.Event.TheVariants.{Edit, Withdraw, Import, Send, Heads, Beyond, Take, Advance}
use Rattle.road_world.specs.declared.faults.WorldFault.{WorldFault}
use Rattle.road_world.specs.declared.faults.WorldFault.TheVariants as faults
use Rattle.road_world.specs.declared.message.Message.{Message}
use Rattle.road_world.proofs.EventAnswers.{IsWrite, fault_there, not_accepted, refused}
use Rattle.road_world.proofs.KeptWorlds.{advanced, is_replica, posted, still_kept, taken, viewed, with_sheet, written}
use Rattle.road_world.proofs.MadeMessages.{memory_refuses, no_command, none_is_no_item, reply_made, same_some}

-- ---- what is allowed

-- a sheet is still a valid sheet after an allowed command
sheet_kept : (command : SheetCommand) (s : Sheet) → IsSheet s → IsAllowed s.plan command → IsSheet (sheet_after command s)
sheet_kept (commands.Take edits) s is fits = subst IsSheet (grown_by_edits s edits) (grown_is_sheet s edits 0 is fits (omega arith))
sheet_kept (commands.Advance to) s is within = record {
  plan_within = is.plan_within;
  winners = is.winners;
  in_range = is.in_range;
  within_limit = let old = is.within_limit in omega (arith, within, old);
}

none_of : {A B : Type 0} (f : A → B) (o : Option A) → option_map f o ≡ None → o ≡ None
none_of f None none = refl
none_of f (Some a) none = cc

nothing : (o : Option EditFault) → o ≡ None → IsNone o
nothing None none = refl
nothing (Some fault) none = cc

-- an edit to which no cause applies is allowed
pub edit_allowed : (x : Replica) (object : Object) (step : ℕ) (value : Value) → edit_fault x object step value ≡ None → IsAllowed x.sheet.plan (commands.Take (single_edit (edit_made x object step value)))
edit_allowed x object step value none =
    let made : edit.Edit = edit_made x object step value in
    in_range-one x.sheet.plan made (none_of own_edit_fault (fault_of_edit x.sheet.plan made) none)

-- imported edits to which no cause applies are allowed
pub import_allowed : (p : Plan) (edits : List edit.Edit) → import_fault p edits ≡ None → IsAllowed p (commands.Take (from_list edits))
import_allowed p edits none e i = each_in_range p edits (no_fault_imported p edits none) e (sym (contains-from_list edit_total edits e) ∙ i)

-- the edits of a scenario to which no cause applies are allowed
pub take_allowed : (p : Plan) (edits : Edits) → take_fault p edits ≡ None → IsAllowed p (commands.Take edits)
take_allowed p edits none = all_in_range p edits (fault_in p edits) refl (nothing _ (none_of received_edit_fault (fault_in p edits) none))

-- an advance to which no cause applies is allowed
pub advance_allowed : (p : Plan) (to : ℕ) → advance_fault to ≡ None → IsAllowed p (commands.Advance to)
advance_allowed p to none = grind (arith, nat_tests)

-- ---- steps

-- the steps of an event that has a command are those of the command
read_command : (read : SheetCommand → Sheet → ℕ) (o : Option SheetCommand) (command : SheetCommand) (s : Sheet) → o ≡ Some command → unwrap_or (option_map (λ c. read c s) o) 0 ≡ read command s
read_command read o command s is = ap (λ (p : Option SheetCommand). unwrap_or (option_map (λ c. read c s) p) 0) is

-- an accepted command computes at most as many steps as a refused one may
few_of_command : (o : Option SheetCommand) (s : Sheet) → unwrap_or (option_map (λ c. steps_of_command c s) o) 0 ≤ unwrap_or (option_map (λ c. most_steps_of_command c s) o) 0
few_of_command None s = omega arith
few_of_command (Some (commands.Take edits)) s = few_steps s.horizon s.horizon (touched_step s edits)
few_of_command (Some (commands.Advance to)) s = omega arith

pub few_of_event : (w : World) (event : Event) → steps_of_event w event ≤ most_steps_of_event w event
few_of_event w event = few_of_command (command_of_event w event) (sheet_at w (replica_number event))

-- ---- a write

module _ (plan : Plan) (xs : List Replica) (ms : List Message) (kept : IsWorldKept plan xs ms) (k : World) (v : viewed plan xs ms ≡ k) where
  -- a replica after the command of an event is the world after the event
  after_write : (event : Event) (command : SheetCommand) (x y : Replica) → x ≡ slice_index_or xs (replica_number event) x → replica_number event < length xs → command_of_event k event ≡ Some command → y ≡ replica_after command x
      → viewed plan (slice_set xs (replica_number event) y) ms ≡ world_of_winners (world_after_event event k)
  after_write (Edit r object step number) command x y is below of after =
      taken plan xs ms kept k v r x y (single_edit (edit_made (replica_with_sheet k r) object step (Put number))) is below (after ∙ ap (λ (c : SheetCommand). replica_after c x) (sym (same_some _ _ of)))
  after_write (Withdraw r object step) command x y is below of after =
      taken plan xs ms kept k v r x y (single_edit (edit_made (replica_with_sheet k r) object step Withdrawn)) is below (after ∙ ap (λ (c : SheetCommand). replica_after c x) (sym (same_some _ _ of)))
  after_write (Import r edits) command x y is below of after =
      taken plan xs ms kept k v r x y (from_list edits.items) is below (after ∙ ap (λ (c : SheetCommand). replica_after c x) (sym (same_some _ _ of)))
  after_write (Send r) command x y is below of after = absurd (none_is_no_item command of)
  after_write (Heads r) command x y is below of after = absurd (none_is_no_item command of)
  after_write (Beyond r message) command x y is below of after = absurd (none_is_no_item command of)
  after_write (Take r message) command x y is below of after =
      taken plan xs ms kept k v r x y (carried_edits (slice_get k.messages message)) is below (after ∙ ap (λ (c : SheetCommand). replica_after c x) (sym (same_some _ _ of)))
  after_write (Advance r to) command x y is below of after =
      advanced plan xs ms kept k v r to x y is below (after ∙ ap (λ (c : SheetCommand). replica_after c x) (sym (same_some _ _ of)))

  -- the replica that accepted a command replaces the one before
  pub accepted_kept : (r : ℕ) (command : SheetCommand) (cause : Option ReplicaFault) (x y : Replica) (meter later : ℕ) → x ≡ slice_index_or xs r x → r < length xs → (cause ≡ None → IsAllowed x.sheet.plan command) → IsAccepted command cause x y meter later
      → IsWorldKept plan (slice_set xs r y) ms
  accepted_kept r command cause x y meter later is there allowed accepted =
      let of = is_replica plan xs ms kept r x is there in
      let sheet : IsSheet y.sheet = subst IsSheet (sym (ap (λ (z : Replica). z.sheet) accepted.after)) (sheet_kept command x.sheet of.sheet (allowed accepted.accepted)) in
      still_kept plan xs ms kept r y (written plan xs ms kept k v r x y command is there accepted.after sheet)

  module _ (event : Event) (command : SheetCommand) (cause : Option ReplicaFault) (x y : Replica) (meter later : ℕ) (is : x ≡ slice_index_or xs (replica_number event) x) (there : replica_number event < length xs) (below : replica_number event < length k.replicas) where
    same : x ≡ replica_with_sheet k (replica_number event)
    same = with_sheet plan xs ms kept k v (replica_number event) x is there

    -- a function of the replica's sheet has the same value for the world's sheet of the replica
    read_there : (read : SheetCommand → Sheet → ℕ) → command_of_event k event ≡ Some command → read command x.sheet ≡ unwrap_or (option_map (λ c. read c (sheet_at k (replica_number event))) (command_of_event k event)) 0
    read_there read of =
        ap (λ (z : Replica). read command z.sheet) same ∙ sym (read_command read (command_of_event k event) command (sheet_at k (replica_number event)) of)

    -- if the replica accepts the command, the event is applied
    pub accepted_applied : (reply : Reply) → command_of_event k event ≡ Some command → fault_at_replica k event ≡ option_map faults.Replica cause → reply ≡ reply_to_event k event → IsAccepted command cause x y meter later
        → IsApplied event (Ok reply) k (viewed plan (slice_set xs (replica_number event) y) ms) meter later
    accepted_applied reply of at answered accepted = record {
      answer = (fault_there k event below ∙ at ∙ ap (option_map faults.Replica) accepted.accepted, answered);
      after = after_write event command x y is there of accepted.after;
      unchanged = tt;
      steps = accepted.steps ∙ ap (meter_after meter) (read_there steps_of_command of);
      named = tt;
      few_steps = subst (λ n. TicksAtMost n meter later) (read_there most_steps_of_command of) (few_steps_of command x.sheet meter later accepted.steps);
    }

    -- if the replica refuses the command, the event is refused
    pub refused_applied : (result : Result Reply WorldFault) (fault : ReplicaFault) → command_of_event k event ≡ Some command → fault_at_replica k event ≡ option_map faults.Replica cause → IsWrite event → IsRefused command cause fault x y meter later
        → IsErrAnd result (λ given. given ≡ faults.Replica fault) → IsApplied event result k (viewed plan (slice_set xs (replica_number event) y) ms) meter later
    refused_applied (Ok reply) fault of at writes is_refused given = absurd given
    refused_applied (Err other) fault of at writes is_refused given =
        let cause_here : IsRefusal event (fault_at_replica k event) (faults.Replica fault) =
        subst (λ (o : Option WorldFault). IsRefusal event o (faults.Replica fault)) (sym at) (refused event cause fault writes is_refused.refused) in record {
          answer = subst (λ (f : WorldFault). IsAnswer k event (Err f)) (sym given) (not_accepted k event (faults.Replica fault) below cause_here);
          after = tt;
          unchanged = ap (λ (ys : List Replica). viewed plan ys ms)
              (ap (slice_set xs (replica_number event)) (is_refused.unchanged ∙ is) ∙ set-get_or xs (replica_number event) x) ∙ v;
          steps = tt;
          named = λ some. is_refused.named (λ none. some (fault_there k event below ∙ at ∙ ap (option_map faults.Replica) none));
          few_steps = subst (λ n. TicksAtMost n meter later) (read_there most_steps_of_command of) is_refused.few_steps;
        }

  -- ---- an edit or a withdrawal that a replica makes

  module _ (r : ℕ) (object : Object) (step : ℕ) (x y : Replica) (meter later : ℕ) (is : x ≡ slice_index_or xs r x) (there : r < length xs) (below : r < length k.replicas) where
    same_local : x ≡ replica_with_sheet k r
    same_local = with_sheet plan xs ms kept k v r x is there

    command_local : (value : Value) → Some (commands.Take (single_edit (edit_made (replica_with_sheet k r) object step value))) ≡ Some (commands.Take (single_edit (edit_made x object step value)))
    command_local value = ap (λ (z : Replica). Some (commands.Take (single_edit (edit_made z object step value)))) (sym same_local)

    fault_local : (value : Value) → option_map faults.Replica (edit_fault (replica_with_sheet k r) object step value) ≡ option_map faults.Replica (edit_fault x object step value)
    fault_local value = ap (λ (z : Replica). option_map faults.Replica (edit_fault z object step value)) (sym same_local)

    stamp_local : (value : Value) (stamp : Stamp) → stamp ≡ (edit_made x object step value).stamp → replies.Stamped stamp ≡ stamp_reply k r object step value
    stamp_local value stamp is_stamp = ap replies.Stamped (is_stamp ∙ ap (λ (z : Replica). (edit_made z object step value).stamp) same_local)

    -- if the replica accepts it, the reply is its stamp
    pub local_accepted : (value : Value) (stamp : Stamp) → stamp ≡ (edit_made x object step value).stamp → IsAccepted (commands.Take (single_edit (edit_made x object step value))) (edit_fault x object step value) x y meter later
        → IsApplied (local_event r object step value) (Ok (replies.Stamped stamp)) k (viewed plan (slice_set xs r y) ms) meter later
    local_accepted (Put number) stamp is_stamp accepted =
        accepted_applied (Edit r object step number) (commands.Take (single_edit (edit_made x object step (Put number)))) (edit_fault x object step (Put number)) x y meter later is there below
        (replies.Stamped stamp) (command_local (Put number)) (fault_local (Put number)) (stamp_local (Put number) stamp is_stamp) accepted
    local_accepted Withdrawn stamp is_stamp accepted =
        accepted_applied (Withdraw r object step) (commands.Take (single_edit (edit_made x object step Withdrawn))) (edit_fault x object step Withdrawn) x y meter later is there below
        (replies.Stamped stamp) (command_local Withdrawn) (fault_local Withdrawn) (stamp_local Withdrawn stamp is_stamp) accepted

    -- if the replica refuses it, the event is refused
    pub local_refused : (value : Value) (result : Result Reply WorldFault) (fault : ReplicaFault) → IsRefused (commands.Take (single_edit (edit_made x object step value))) (edit_fault x object step value) fault x y meter later
        → IsErrAnd result (λ given. given ≡ faults.Replica fault) → IsApplied (local_event r object step value) result k (viewed plan (slice_set xs r y) ms) meter later
    local_refused (Put number) result fault is_refused given =
        refused_applied (Edit r object step number) (commands.Take (single_edit (edit_made x object step (Put number)))) (edit_fault x object step (Put number)) x y meter later is there below
        result fault (command_local (Put number)) (fault_local (Put number)) (λ f h. h) is_refused given
    local_refused Withdrawn result fault is_refused given =
        refused_applied (Withdraw r object step) (commands.Take (single_edit (edit_made x object step Withdrawn))) (edit_fault x object step Withdrawn) x y meter later is there below
        result fault (command_local Withdrawn) (fault_local Withdrawn) (λ f h. h) is_refused given

-- ---- calls that compute nothing

-- no steps are at most any number of steps
no_steps : (most meter : ℕ) → TicksAtMost most meter meter
no_steps most meter = record { ticks = 0; few = omega arith; counted = refl }

-- a message that is already made, and is the one that its event makes
module _ (plan : Plan) (xs : List Replica) (ms now : List Message) (kept : IsWorldKept plan xs ms) (k : World) (v : viewed plan xs ms ≡ k) (event : Event) (message : Message) (accepted : fault_of_event k event ≡ None) (made : message_of_event k event ≡ Some message) where
  no_steps_made : (meter : ℕ) → meter ≡ meter_after meter (steps_of_event k event)
  no_steps_made meter =
      ap (λ (o : Option SheetCommand). meter_after meter (unwrap_or (option_map (λ c. steps_of_command c (sheet_at k (replica_number event))) o) 0)) (sym (no_command event k message made))

  -- if the message is appended, the event is applied
  pub post_applied : (number meter : ℕ) → number ≡ length k.messages → now ≡ ms ++ message ∷ [] → IsApplied event (Ok (replies.Message number)) k (viewed plan xs now) meter meter
  post_applied number meter is put = record {
    answer = (accepted, ap replies.Message is ∙ sym (reply_made event k message made));
    after = ap (λ (ns : List Message). viewed plan xs ns) put ∙ posted plan xs ms kept k v event message accepted made;
    unchanged = tt;
    steps = no_steps_made meter;
    named = tt;
    few_steps = no_steps (most_steps_of_event k event) meter;
  }

-- if there is no memory for the message, the event is refused
pub post_refused : (event : Event) (k : World) (meter : ℕ) → fault_of_event k event ≡ None → IsApplied event (Err (faults.Replica OutOfMemory)) k k meter meter
post_refused event k meter accepted = record {
  answer = subst (λ (o : Option WorldFault). IsRefusal event o (faults.Replica OutOfMemory)) (sym accepted) (memory_refuses event);
  after = tt;
  unchanged = refl;
  steps = tt;
  named = λ some. refl;
  few_steps = no_steps (most_steps_of_event k event) meter;
}

-- if the message of an event is refused, the event is refused
pub made_refused : (event : Event) (k : World) (fault : WorldFault) (meter : ℕ) → IsRefusal event (fault_of_event k event) fault → IsApplied event (Err fault) k k meter meter
made_refused event k fault meter is = record {
  answer = is;
  after = tt;
  unchanged = refl;
  steps = tt;
  named = λ some. refl;
  few_steps = no_steps (most_steps_of_event k event) meter;
}

-- the world passes that refusal on
pub made_handed_on : (event : Event) (result : Result Reply WorldFault) (k : World) (meter : ℕ) (fault : WorldFault) → IsErrAnd result (λ given. given ≡ fault) → IsRefusal event (fault_of_event k event) fault
    → IsApplied event result k k meter meter
made_handed_on event (Ok reply) k meter fault given is = absurd given
made_handed_on event (Err other) k meter fault given is =
    subst (λ (f : WorldFault). IsApplied event (Err f) k k meter meter) (sym given) (made_refused event k fault meter is)

-- the world passes that refusal on
pub post_handed_on : (event : Event) (result : Result Reply WorldFault) (old new : World) (meter : ℕ) → IsErrAnd result (λ given. given ≡ faults.Replica OutOfMemory) → IsApplied event (Err (faults.Replica OutOfMemory)) old new meter meter
    → IsApplied event result old new meter meter
post_handed_on event (Ok reply) old new meter given is = absurd given
post_handed_on event (Err fault) old new meter given is =
    subst (λ (f : WorldFault). IsApplied event (Err f) old new meter meter) (sym given) is
