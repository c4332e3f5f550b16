-- Shelves of intervals.
use Rattle.std.specs.Prelude.{◌≡◌, List, length}
use Rattle.std.specs.List.{All, flat_map}
use Rattle.road_sheet.specs.declared.shared_intervals.TheConstants.{SHELF_INTERVALS}
use Rattle.road_sheet.specs.declared.interval.Interval.{Interval}

-- each shelf has as many intervals as fit
abbrev pub AreFull : List (List Interval) → Type 0
AreFull shelves = All (λ shelf. length shelf ≡ SHELF_INTERVALS) shelves

-- the intervals on shelves, one shelf after another
abbrev pub intervals_on : List (List Interval) → List Interval
intervals_on shelves = flat_map (λ shelf. shelf) shelves
