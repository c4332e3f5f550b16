-- Which plans are refused, and for which fault.
use Rattle.std.specs.Prelude.{◌+◌, ◌-◌, ◌==◌, ◌&&◌, not, Bool, length, map, nat_eq, nat_lt, nat_le, if◌then◌else◌}
use Rattle.std.specs.List.{list_all}
use Rattle.std.specs.Set.{distinct_count}
use Rattle.std.specs.declared.option.Option.{Option}
use Rattle.std.specs.declared.option.Option.TheVariants.{None, Some}
use Rattle.road_plan.specs.Plan.{Plan, exit_start, zone_of}
use Rattle.road_plan.specs.declared.faults.PlanFault.{PlanFault}
use Rattle.road_plan.specs.declared.faults.PlanFault.TheVariants.{Length, Exit, Zones, Inlets, Detectors, Default}
use Rattle.road_plan.specs.declared.limits.TheConstants.{LEAST_LENGTH, GREATEST_LENGTH, GREATEST_EXIT}
use Rattle.road_plan.specs.declared.limits.TheConstants.{MOST_ZONES, MOST_INLETS, MOST_DETECTORS}
use Rattle.road_plan.specs.declared.limits.TheConstants.{GREATEST_LIMIT, CERTAIN}

-- whether the length of the road is in its range
abbrev pub has_length : Plan → Bool
has_length p = nat_le LEAST_LENGTH p.cells && nat_le p.cells GREATEST_LENGTH

-- whether the deleted zone is a part of the road
abbrev pub has_exit : Plan → Bool
has_exit p = nat_lt 0 p.exit && nat_le p.exit GREATEST_EXIT && nat_lt p.exit p.cells

-- whether there is one entry for each zone of the road; the last zone may be shorter
abbrev pub has_zones : Plan → Bool
has_zones p = nat_lt 0 p.width && nat_le (length p.zones) MOST_ZONES && length p.zones == zone_of p (p.cells - 1) + 1

-- whether there is an inlet, there are not too many, all are before the deleted zone, and no two are at one cell
abbrev pub has_inlets : Plan → Bool
has_inlets p =
    nat_lt 0 (length p.inlets) && nat_le (length p.inlets) MOST_INLETS
    && list_all (λ inlet. nat_lt inlet.0 (exit_start p)) p.inlets
    && distinct_count nat_eq (map (λ inlet. inlet.0) p.inlets) == length p.inlets

-- whether there are not too many detectors, and all are past the first cell and before the deleted zone
abbrev pub has_detectors : Plan → Bool
has_detectors p =
    nat_le (length p.detectors) MOST_DETECTORS
    && list_all (λ site. nat_lt 0 site && nat_lt site (exit_start p)) p.detectors

-- whether each speed limit, slowing chance and inflow is in its range
abbrev pub has_defaults : Plan → Bool
has_defaults p =
    list_all (λ zone. nat_le zone.0 GREATEST_LIMIT && nat_le zone.1 CERTAIN) p.zones
    && list_all (λ inlet. nat_le inlet.1 CERTAIN) p.inlets

-- the first fault of a plan, in the order of the faults
abbrev pub fault_of_plan : Plan → Option PlanFault
fault_of_plan p =
    if not (has_length p) then Some Length
    else (if not (has_exit p) then Some Exit
    else (if not (has_zones p) then Some Zones
    else (if not (has_inlets p) then Some Inlets
    else (if not (has_detectors p) then Some Detectors
    else (if not (has_defaults p) then Some Default else None)))))
