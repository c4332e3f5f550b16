-- Crowds: shares of edits, one for each session. A session takes its edits one after another and then advances.
use Rattle.std.specs.Prelude.{ℕ, ◌+◌, List, length, map, Vec}
use Rattle.std.specs.List.{flat_map}
use Rattle.std.specs.Option.{option_or}
use Rattle.std.specs.declared.alloc.Global.{Global}
use Rattle.std.specs.declared.option.Option.{Option}
use Rattle.lattice_core.specs.Sets.{from_list}
use Rattle.road_plan.specs.Plan.{Plan}
use Rattle.road_scenario.specs.Edits.{Edits}
use Rattle.road_scenario.specs.Winners.{winners}
use Rattle.road_scenario.specs.declared.edit.Edit.{Edit}
use Rattle.road_sheet.specs.Sheets.{Sheet}
use Rattle.road_replica.specs.Refusals.{advance_fault, import_fault}
use Rattle.road_replica.specs.declared.faults.ReplicaFault.{ReplicaFault}

-- the shares as lists of edits
abbrev pub shares_of : List (Vec Edit Global) → List (List Edit)
shares_of vecs = map (λ v. v.items) vecs

-- the edits of all shares, one share after another
abbrev pub edits_of : List (List Edit) → List Edit
edits_of shares = flat_map (λ share. share) shares

-- the winners of the edits of all shares
abbrev pub crowd_winners : List (List Edit) → Edits
crowd_winners shares = winners (from_list (edits_of shares))

-- the number of writes that the sessions make: one for each edit, and one advance for each session
abbrev pub crowd_writes : List (List Edit) → ℕ
crowd_writes shares = length (edits_of shares) + length shares

-- the sheet that results from a crowd: the winners of all its edits, simulated up to its step
abbrev pub crowd_sheet : Plan → List (List Edit) → ℕ → Sheet
crowd_sheet plan shares to = record { plan = plan; edits = crowd_winners shares; horizon = to }

-- the first named cause for which a crowd is refused: the fault of the first faulty edit, in the order of the shares,
-- else that of its step, if it is too late
abbrev pub shares_fault : Plan → List (List Edit) → ℕ → Option ReplicaFault
shares_fault plan shares to = option_or (import_fault plan (edits_of shares)) (advance_fault to)
