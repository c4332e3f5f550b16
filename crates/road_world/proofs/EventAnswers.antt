-- The answers of a replica are the answers of its world.
use Rattle.std.proofs.Common.{◌≡◌, ◌⊎◌, ◌<◌, ℕ, Bool, true, false, length, Option, Some, None, refl, ap, arith, sym, subst, inl, inr}
use Rattle.std.specs.Prelude.{IsErrAnd, Result, nat_lt, if◌then◌else◌}
use Rattle.std.specs.Option.{option_map}
use Rattle.std.specs.declared.result.Result.TheVariants.{Ok, Err}
use Rattle.std.proofs.lemmas.Bool.{lt-ltb}
use Rattle.std.proofs.lemmas.Bool.Decides.{nat_tests}
use Rattle.road_replica.specs.Refusals.{IsWriteRefusal}
use Rattle.road_replica.specs.declared.faults.ReplicaFault.{ReplicaFault}
use Rattle.road_replica.specs.declared.faults.ReplicaFault.TheVariants.{WorkersGone, OutOfMemory}
use Rattle.road_replica.specs.declared.reply.Reply.{Reply}
use Rattle.road_world.specs.Answers.{replica_number, fault_at_replica, fault_of_event, IsUnnamedRefusal, IsRefusal, IsAnswer}
use Rattle.road_world.specs.Events.{World}
use Rattle.road_world.specs.declared.event.Event.{Event}
use Rattle.road_world.specs.declared.faults.WorldFault.{WorldFault}
use Rattle.road_world.specs.declared.faults.WorldFault.TheVariants as faults
use Rattle.road_world.specs.declared.faults.WorldFault.TheVariants.{NoReplica}

-- a write: it may be refused for lost workers or out of memory
abbrev pub IsWrite : Event → Type 0
IsWrite event = (fault : WorldFault) → (fault ≡ faults.Replica WorkersGone) ⊎ (fault ≡ faults.Replica OutOfMemory) → IsUnnamedRefusal event fault

-- a replica's refusal of a write is a refusal of the event
pub refused : (event : Event) (cause : Option ReplicaFault) (fault : ReplicaFault) → IsWrite event → IsWriteRefusal cause fault → IsRefusal event (option_map faults.Replica cause) (faults.Replica fault)
refused event (Some cause) fault writes is = ap faults.Replica is
refused event None fault writes is = elim is as (λ _. IsRefusal event None (faults.Replica fault)) [
  | inl gone ↦ writes (faults.Replica fault) (inl (ap faults.Replica gone))
  | inr none ↦ writes (faults.Replica fault) (inr (ap faults.Replica none))
]

-- if the replica exists, the cause is the one at the replica
pub fault_there : (w : World) (event : Event) → replica_number event < length w.replicas → fault_of_event w event ≡ fault_at_replica w event
fault_there w event below = ap (λ b. if b then fault_at_replica w event else Some NoReplica) (lt-ltb (replica_number event) (length w.replicas) below)

-- a refusal for the cause at the replica is a refusal of the event
pub not_accepted : (w : World) (event : Event) (fault : WorldFault) → replica_number event < length w.replicas → IsRefusal event (fault_at_replica w event) fault → IsAnswer w event (Err fault)
not_accepted w event fault below is = subst (λ cause. IsRefusal event cause fault) (sym (fault_there w event below)) is

-- a result that is that refusal is a refusal of the event, once the world passes it on
pub handed_on : (w : World) (event : Event) (result : Result Reply WorldFault) (fault : ReplicaFault) → replica_number event < length w.replicas → IsErrAnd result (λ given. given ≡ faults.Replica fault)
    → IsRefusal event (fault_at_replica w event) (faults.Replica fault) → IsAnswer w event result
handed_on w event (Ok reply) fault below given is = absurd given
handed_on w event (Err other) fault below given is = subst (λ given. IsAnswer w event (Err given)) (sym given) (not_accepted w event (faults.Replica fault) below is)

-- an event that is not refused names an existing replica, which does not refuse it
pub none_refuses : (e : Event) (w : World) → fault_of_event w e ≡ None → (replica_number e < length w.replicas) × (fault_at_replica w e ≡ None)
none_refuses e w h = parts (replica_number e) (length w.replicas) (fault_at_replica w e) h
  where
    parts : (n m : ℕ) (f : Option WorldFault) → (if nat_lt n m then f else Some NoReplica) ≡ None → (n < m) × (f ≡ None)
    parts n m f h = by_test (nat_lt n m) refl h
      where
        by_test : (b : Bool) → nat_lt n m ≡ b → (if b then f else Some NoReplica) ≡ None → (n < m) × (f ≡ None)
        by_test true t g = (grind (arith, nat_tests), g)
        by_test false t g = cc
