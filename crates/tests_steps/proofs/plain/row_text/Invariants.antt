use Rattle.std.proofs.Common.{◌≡◌, map}
use Rattle.std.specs.List.{range_with_len}
use Rattle.std.specs.String.{string_bytes}
use Rattle.road_cells.specs.Array.{vehicle_at}
use Rattle.road_cells.specs.Gap.{is_blocked}
use Rattle.road_ends.specs.Row.{letter}
use Rattle.tests_steps.proofs.plain.row_text.Given as goal

abbrev pub invariant-loop-cell : goal.invariant-loop-cell
invariant-loop-cell l = string_bytes l.text ≡ map (λ c. letter (is_blocked l.blocks c) (vehicle_at l.road c)) (range_with_len 0 l.cell)
