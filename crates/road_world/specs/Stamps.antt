-- The stamps that a world issues.
use Rattle.std.specs.Prelude.{◌≡◌, ◌<◌, ◌==◌, ◌&&◌, ℕ, Bool, true, false, List, [], ◌∷◌, ◌++◌, map, Result}
use Rattle.std.specs.List.{IsDistinct, list_any}
use Rattle.std.specs.declared.option.Option.{Option}
use Rattle.std.specs.declared.option.Option.TheVariants.{None, Some}
use Rattle.std.specs.declared.result.Result.TheVariants.{Ok}
use Rattle.lattice_core.specs.Sets.{contains}
use Rattle.road_scenario.specs.declared.edit.Edit.{Edit}
use Rattle.road_scenario.specs.declared.edit.Stamp.{Stamp}
use Rattle.road_replica.specs.declared.reply.Reply.{Reply}
use Rattle.road_replica.specs.declared.reply.Reply.TheVariants.{Stamped}
use Rattle.road_world.specs.Events.{World, replica_at}
use Rattle.road_world.specs.declared.event.Event.{Event}
use Rattle.road_world.specs.declared.event.Event.TheVariants.{Import}
use Rattle.road_world.specs.declared.faults.WorldFault.{WorldFault}

-- whether two stamps are equal
abbrev pub is_same_stamp : Stamp → Stamp → Bool
is_same_stamp s t = s.count == t.count && s.number == t.number

-- the stamp that an answer issues, if it is the answer to a local edit
abbrev pub issued_stamp : Result Reply WorldFault → Option Stamp
issued_stamp (Ok (Stamped stamp)) = Some stamp
issued_stamp answer = None

-- a stamp is new at replica r: it has r's number, and its count is greater than that of each edit that r holds
pub record IsNew (w : World) (r : ℕ) (stamp : Stamp) : Type 0 where
  pub of_replica : stamp.number ≡ r
  pub greater : (e : Edit) → contains (replica_at w r).edits e ≡ true → e.stamp.count < stamp.count

-- the stamps in replies: those of the local edits that were accepted
abbrev pub issued_stamps : List (Result Reply WorldFault) → List Stamp
issued_stamps [] = []
issued_stamps (Ok (Stamped stamp) ∷ replies) = stamp ∷ issued_stamps replies
issued_stamps (reply ∷ replies) = issued_stamps replies

-- the stamps of imported edits
abbrev pub imported_stamps : List Event → List Stamp
imported_stamps [] = []
imported_stamps (Import r edits ∷ events) = map (λ edit. edit.stamp) edits.items ++ imported_stamps events
imported_stamps (event ∷ events) = imported_stamps events

-- no stamp is issued twice, and no issued stamp is that of an import
pub record AreFresh (stamps imports : List Stamp) : Type 0 where
  pub distinct : IsDistinct is_same_stamp stamps
  pub none_imported : list_any (λ stamp. list_any (is_same_stamp stamp) imports) stamps ≡ false
