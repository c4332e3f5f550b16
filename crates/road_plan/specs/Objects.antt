-- Objects, which edits set: their kinds, where they exist, and which values they take.
use Rattle.std.specs.Prelude.{ℕ, Bool, true, false, length, nat_lt, nat_le}
use Rattle.std.specs.List.{slice_index_or}
use Rattle.std.specs.Ordering.{nat_cmp}
use Rattle.std.specs.declared.cmp.Ordering.{Ordering}
use Rattle.std.specs.declared.option.Option.{Option}
use Rattle.std.specs.declared.option.Option.TheVariants.{None, Some}
use Rattle.lattice_core.specs.Exact.{pair_cmp}
use Rattle.road_plan.specs.Plan.{Plan}
use Rattle.road_plan.specs.declared.object.Object.{Object}
use Rattle.road_plan.specs.declared.object.Object.TheVariants.{Limit, Slow, Block, Inflow, Watch, Start}
use Rattle.road_plan.specs.declared.limits.TheConstants.{GREATEST_LIMIT, CERTAIN}

-- whether a plan has the zone, cell, inlet or detector: a blocked cell may be any cell of the road
abbrev pub is_in_plan : Plan → Object → Bool
is_in_plan p (Limit zone) = nat_lt zone (length p.zones)
is_in_plan p (Slow zone) = nat_lt zone (length p.zones)
is_in_plan p (Block cell) = nat_lt cell p.cells
is_in_plan p (Inflow inlet) = nat_lt inlet (length p.inlets)
is_in_plan p (Watch detector) = nat_lt detector (length p.detectors)
is_in_plan p (Start zone) = nat_lt zone (length p.zones)

-- whether an object takes a value: speed limits and chances up to their maximum, and 0 (off) or 1 (on) for blocks and
-- detectors
abbrev pub allows : Object → ℕ → Bool
allows (Limit zone) value = nat_le value GREATEST_LIMIT
allows (Slow zone) value = nat_le value CERTAIN
allows (Block cell) value = nat_le value 1
allows (Inflow inlet) value = nat_le value CERTAIN
allows (Watch detector) value = nat_le value 1
allows (Start zone) value = nat_le value CERTAIN

-- whether an object is the slowing chance of a zone's standing cars
abbrev pub is_start : Object → Bool
is_start (Limit zone) = false
is_start (Slow zone) = false
is_start (Block cell) = false
is_start (Inflow inlet) = false
is_start (Watch detector) = false
is_start (Start zone) = true

-- the value of an object that no edit sets: the plan's number, no block, and a detector that is on; a plan has no
-- slowing chance of standing cars
abbrev pub default : Plan → Object → Option ℕ
default p (Limit zone) = Some (slice_index_or p.zones zone (0, 0)).0
default p (Slow zone) = Some (slice_index_or p.zones zone (0, 0)).1
default p (Block cell) = Some 0
default p (Inflow inlet) = Some (slice_index_or p.inlets inlet (0, 0)).1
default p (Watch detector) = Some 1
default p (Start zone) = None

-- the key that objects are ordered by: the kind's place among the kinds, and the index
abbrev pub order_key : Object → ℕ × ℕ
order_key (Limit zone) = (0, zone)
order_key (Slow zone) = (1, zone)
order_key (Block cell) = (2, cell)
order_key (Inflow inlet) = (3, inlet)
order_key (Watch detector) = (4, detector)
order_key (Start zone) = (5, zone)

-- the order of objects by kind, then by index
abbrev pub object_order : Object → Object → Ordering
object_order x y = pair_cmp nat_cmp nat_cmp (order_key x) (order_key y)
