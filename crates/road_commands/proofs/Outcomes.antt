-- The outcomes of commands, from the effects of their events in the world.
use Rattle.std.proofs.Common.{◌≡◌, ◌⊎◌, ◌<◌, ℕ, length, false, Option, Some, None, refl, ap, sym, subst, ◌∙◌, inl, inr}
use Rattle.std.specs.Prelude.{IfErr, Result}
use Rattle.std.specs.declared.result.Result.TheVariants.{Ok, Err}
use Rattle.std.specs.Global.{Vec}
use Rattle.std.specs.Option.{option_and_then, option_map}
use Rattle.lattice_core.specs.Sets.{from_list}
use Rattle.road_scenario.specs.declared.edit.Edit.{Edit}
use Rattle.road_replica.specs.Refusals.{growth_fault, import_fault}
use Rattle.road_replica.specs.declared.faults.ReplicaFault.{ReplicaFault}
use Rattle.road_replica.specs.declared.faults.ReplicaFault.TheVariants.{OutOfMemory, WorkersGone}
use Rattle.road_replica.specs.declared.faults.ReplicaFault.TheVariants as replica_faults
use Rattle.road_workers.specs.Crews.{gone_after}
use Rattle.road_workers.specs.declared.faults.CrewFault.{CrewFault}
use Rattle.road_workers.specs.declared.faults.CrewFault.TheVariants as crew_faults
use Rattle.road_world.proofs.EventAnswers.{fault_there}
use Rattle.road_world.proofs.MadeMessages.{same_some}
use Rattle.road_world.specs.Answers.{IsRefusal, IsUnnamedRefusal, fault_at_replica, fault_of_event, gone_after_answer, replica_number, reply_to_event}
use Rattle.road_world.specs.Events.{World, makes_message, world_with_edits}
use Rattle.road_world.specs.declared.event.Event.{Event}
use Rattle.road_world.specs.declared.event.Event.TheVariants as events
use Rattle.road_world.specs.declared.faults.WorldFault.{WorldFault}
use Rattle.road_world.specs.declared.faults.WorldFault.TheVariants as world_faults
use Rattle.road_format.specs.Replies.{Answer, Refused}
use Rattle.road_format.specs.Views.{answer_view}
use Rattle.road_format.specs.declared.answer.Answer as declared
use Rattle.road_format.specs.declared.refusal.Refusal.{Refusal}
use Rattle.road_commands.specs.Private.Changes.{AnswersRefusal, names_message}
use Rattle.road_commands.specs.Private.Outcomes.{IsOutcome}
use Rattle.road_commands.specs.Laboratory.{Laboratory, Outcome, change_outcome, import_outcome, laboratory_of_winners, outcome_unless}
use Rattle.road_commands.specs.Laboratory.{replica_refusal, touched_answer, world_refusal}

-- ---- refusals

-- out of memory and lost workers have no answer,
unnamed_want : (fault : WorldFault) → (fault ≡ world_faults.Replica WorkersGone) ⊎ (fault ≡ world_faults.Replica OutOfMemory) → world_refusal fault ≡ None
unnamed_want fault is = elim is as (λ _. world_refusal fault ≡ None) [
  | inl gone ↦ ap world_refusal gone
  | inr memory ↦ ap world_refusal memory
]

-- so a refusal without a named cause has no answer
unnamed : (e : Event) (fault : WorldFault) → IsUnnamedRefusal e fault → world_refusal fault ≡ None
unnamed (events.Edit r o step n) fault is = unnamed_want fault is
unnamed (events.Withdraw r o step) fault is = unnamed_want fault is
unnamed (events.Import r es) fault is = unnamed_want fault is
unnamed (events.Send r) fault is = ap world_refusal is
unnamed (events.Heads r) fault is = ap world_refusal is
unnamed (events.Beyond r m) fault is = ap world_refusal is
unnamed (events.Take r m) fault is = unnamed_want fault is
unnamed (events.Advance r to) fault is = unnamed_want fault is

-- an event that makes no message has no message's number as its reply
pub change_named : (w : World) (e : Event) → makes_message e ≡ false → names_message (reply_to_event w e) ≡ false
change_named w (events.Edit r o step n) h = refl
change_named w (events.Withdraw r o step) h = refl
change_named w (events.Import r es) h = refl
change_named w (events.Send r) h = cc
change_named w (events.Heads r) h = cc
change_named w (events.Beyond r m) h = cc
change_named w (events.Take r m) h = refl
change_named w (events.Advance r to) h = refl

-- a refusal that has an answer is for a named cause
named : (e : Event) (cause : Option WorldFault) (fault : WorldFault) (refusal : Refusal) → IsRefusal e cause fault → world_refusal fault ≡ Some refusal → option_and_then world_refusal cause ≡ Some refusal
named e (Some cause) fault refusal is said = ap world_refusal (sym is) ∙ said
named e None fault refusal is said = let unsaid = unnamed e fault is in cc

-- a refusal that is answered is that of the named cause at the replica
answered_refusal : (lab : Laboratory) (e : Event) (fault : WorldFault) (refusal : Refusal) → replica_number e < length lab.world.replicas → IsRefusal e (fault_of_event lab.world e) fault
    → world_refusal fault ≡ Some refusal → option_and_then world_refusal (fault_at_replica lab.world e) ≡ Some refusal
answered_refusal lab e fault refusal below is said =
    let here = subst (λ (cause : Option WorldFault). IsRefusal e cause fault) (fault_there lab.world e below) is in
    named e (fault_at_replica lab.world e) fault refusal here said

-- an answer to a refusal is that refusal
refused_by : (refusal : Option Refusal) (answer : declared.Answer) → AnswersRefusal refusal (Ok answer) → (r : Refusal) × ((refusal ≡ Some r) × (answer_view answer ≡ Refused r))
refused_by None answer is = cc
refused_by (Some r) answer is = (r, (refl, sym (same_some (Refused r) (answer_view answer) is)))

-- a refusal that is answered does not count as a crew that has gone
named_gone : (fault : WorldFault) (r : Refusal) (n : ℕ) → world_refusal fault ≡ Some r → gone_after_answer (Err fault) n ≡ n
named_gone world_faults.NoReplica r n said = refl
named_gone world_faults.NoMessage r n said = refl
named_gone (world_faults.Replica replica_faults.NoObject) r n said = refl
named_gone (world_faults.Replica replica_faults.Step) r n said = refl
named_gone (world_faults.Replica replica_faults.ValueOutOfRange) r n said = refl
named_gone (world_faults.Replica replica_faults.Count) r n said = refl
named_gone (world_faults.Replica replica_faults.Insider) r n said = refl
named_gone (world_faults.Replica replica_faults.CountsSpent) r n said = refl
named_gone (world_faults.Replica replica_faults.Horizon) r n said = refl
named_gone (world_faults.Replica replica_faults.NoDetector) r n said = refl
named_gone (world_faults.Replica replica_faults.Range) r n said = refl
named_gone (world_faults.Replica replica_faults.NotSimulated) r n said = refl
named_gone (world_faults.Replica replica_faults.OutOfMemory) r n said = refl
named_gone (world_faults.Replica replica_faults.WorkersGone) r n said = cc

-- a crew's fault counts as it does at the replica
gone_passed_on : (lost : CrewFault) (n : ℕ) → gone_after_answer (Err (world_faults.Replica (growth_fault lost))) n ≡ gone_after {A = declared.Answer} (Err lost) n
gone_passed_on crew_faults.WorkersGone n = refl
gone_passed_on crew_faults.OutOfMemory n = refl

-- what the world refuses is answered by its refusal, or not at all, if the outcome is the refusal of a named cause
module _ (lab : Laboratory) (e : Event) (fault : WorldFault) (new : Laboratory) (count later : ℕ) (below : replica_number e < length lab.world.replicas) (is : IsRefusal e (fault_of_event lab.world e) fault)
    (same : new ≡ lab) (won : laboratory_of_winners lab ≡ lab) (gone : later ≡ gone_after_answer (Err fault) count) where
  of_refusal : (o : Outcome) (result : Result declared.Answer CrewFault) → AnswersRefusal (world_refusal fault) result → IfErr result (λ lost. fault ≡ world_faults.Replica (growth_fault lost))
      → ((r : Refusal) → option_and_then world_refusal (fault_at_replica lab.world e) ≡ Some r → o ≡ record { answer = Refused r; after = lab }) → IsOutcome o result lab new count later
  of_refusal o (Ok answer) result lost refuses =
      let said = refused_by (world_refusal fault) answer result in
      let refused : o ≡ record { answer = Refused said.0; after = lab } = refuses said.0 (answered_refusal lab e fault said.0 below is said.1.0) in
      let unasked : later ≡ count = gone ∙ named_gone fault said.0 count said.1.0 in record {
        answer = said.1.1 ∙ sym (ap (λ (p : Outcome). p.answer) refused);
        after = same ∙ sym won ∙ sym (ap (λ (p : Outcome). laboratory_of_winners p.after) refused);
        unchanged = tt;
        gone = unasked;
      }
  of_refusal o (Err lost) result is_lost refuses = record {
    answer = tt;
    after = tt;
    unchanged = same;
    gone = gone ∙ ap (λ (f : WorldFault). gone_after_answer (Err f) count) is_lost ∙ gone_passed_on lost count;
  }

  -- an event that the world refuses is answered with that refusal
  pub refused_change : (answer : Answer) (result : Result declared.Answer CrewFault) → AnswersRefusal (world_refusal fault) result → IfErr result (λ lost. fault ≡ world_faults.Replica (growth_fault lost))
      → IsOutcome (change_outcome lab e answer) result lab new count later
  refused_change answer result answers lost = of_refusal (change_outcome lab e answer) result answers lost (λ r cause. rw cause refl)

-- ---- imports

-- a replica's cause is answered as the world's
as_world : (cause : Option ReplicaFault) → option_and_then world_refusal (option_map world_faults.Replica cause) ≡ option_and_then replica_refusal cause
as_world None = refl
as_world (Some cause) = refl

-- an import is the event of these edits
pub import_is : (lab : Laboratory) (r : ℕ) (edits : Vec Edit) → change_outcome lab (events.Import r edits) (touched_answer lab.world r (from_list edits.items)) ≡ import_outcome lab r edits.items
import_is lab r edits =
    ap (λ (refusal : Option Refusal). outcome_unless lab refusal (record {
      answer = touched_answer lab.world r (from_list edits.items);
      after = record lab { world = world_with_edits r (from_list edits.items) lab.world };
    })) (as_world (import_fault lab.world.plan edits.items))
