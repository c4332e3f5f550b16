-- No command changes the plan.
use Rattle.std.proofs.Common.{◌≡◌, ℕ, List, Option, Some, None, refl}
use Rattle.std.specs.Option.{option_and_then, option_map_or}
use Rattle.road_scenario.specs.declared.edit.Edit as edit
use Rattle.road_format.specs.CommandGrammar as commands
use Rattle.road_format.specs.CommandGrammar.{Command, replica_name}
use Rattle.road_format.specs.declared.refusal.Refusal.{Refusal}
use Rattle.road_format.specs.declared.refusal.Refusal.TheVariants as refusals
use Rattle.road_commands.specs.Laboratory.{Laboratory, Outcome, crowd_of, crowd_outcome, laboratory_after, number_of, outcome_at, outcome_by_name, outcome_by_number, outcome_unless}

-- the plan after an outcome is the plan before it
abbrev KeepsPlan : Laboratory → Outcome → Type 0
KeepsPlan lab o = o.after.world.plan ≡ lab.world.plan

unless_kept : (lab : Laboratory) (refusal : Option Refusal) (o : Outcome) → KeepsPlan lab o → KeepsPlan lab (outcome_unless lab refusal o)
unless_kept lab (Some refusal) o kept = refl
unless_kept lab None o kept = kept

by_number_kept : (lab : Laboratory) (refusal : Refusal) (number : Option ℕ) (next : ℕ → Outcome) → ((n : ℕ) → KeepsPlan lab (next n)) → KeepsPlan lab (outcome_by_number lab refusal number next)
by_number_kept lab refusal None next kept = refl
by_number_kept lab refusal (Some n) next kept = kept n

at_kept : (lab : Laboratory) (r : ℕ) (command : Command) → KeepsPlan lab (outcome_at lab r command)
at_kept lab r (commands.Edit at object step number) = unless_kept lab _ _ refl
at_kept lab r (commands.Withdraw at object step) = unless_kept lab _ _ refl
at_kept lab r (commands.Import at edits) = unless_kept lab _ _ refl
at_kept lab r (commands.Send at name) = unless_kept lab _ _ refl
at_kept lab r (commands.Heads at name) = unless_kept lab _ _ refl
at_kept lab r (commands.Beyond at asked name) =
    by_number_kept lab refusals.NoMessage (number_of lab.message_names asked) _ (λ message. unless_kept lab _ _ refl)
at_kept lab r (commands.Take at name) =
    by_number_kept lab refusals.NoMessage (number_of lab.message_names name) _ (λ message. unless_kept lab _ _ refl)
at_kept lab r (commands.Advance at to) = unless_kept lab _ _ refl
at_kept lab r (commands.Ask at query) = refl
at_kept lab r (commands.Crowd shares to) = refl

by_name_kept : (lab : Laboratory) (command : Command) → KeepsPlan lab (outcome_by_name lab command)
by_name_kept lab command =
    by_number_kept lab refusals.NoReplica (option_and_then (number_of lab.replica_names) (replica_name command)) _ (λ r. at_kept lab r command)

by_crowd_kept : (lab : Laboratory) (crowd : Option (List (List edit.Edit) × ℕ)) (o : Outcome) → KeepsPlan lab o → KeepsPlan lab (option_map_or (λ c. crowd_outcome lab c.0 c.1) crowd o)
by_crowd_kept lab None o kept = kept
by_crowd_kept lab (Some crowd) o kept = refl

pub plan-after : (lab : Laboratory) (command : Command) → (laboratory_after lab command).world.plan ≡ lab.world.plan
plan-after lab command = by_crowd_kept lab (crowd_of command) (outcome_by_name lab command) (by_name_kept lab command)
