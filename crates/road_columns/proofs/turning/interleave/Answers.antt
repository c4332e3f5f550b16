-- Each lane of the result is computed from the lanes of the arguments, so the lanes are compared one by one.
use Rattle.std.proofs.Common.{◌≡◌, ◌+◌, ◌/◌, ◌%◌, [], ◌∷◌, ◌++◌, slice_index, get_or, arith}
use Rattle.road_columns.proofs.Eights.{each_of_eight}
use Rattle.road_columns.proofs.TurnedRows.{on_left, on_right}
use Rattle.road_columns.specs.Private.Rows.{lane_at}
use Rattle.road_columns.proofs.turning.interleave.Goals as goal

pub returns-clause-low : goal.returns-clause-low
returns-clause-low c =
    each_of_eight (λ k. slice_index (get_or (c.args.a ++ c.args.b) 0 0 ∷ get_or (c.args.a ++ c.args.b) 8 0 ∷ get_or (c.args.a ++ c.args.b) 1 0 ∷ get_or (c.args.a ++ c.args.b) 9 0 ∷ get_or (c.args.a ++ c.args.b) 2 0 ∷ get_or (c.args.a ++ c.args.b) 10 0 ∷ get_or (c.args.a ++ c.args.b) 3 0 ∷ get_or (c.args.a ++ c.args.b) 11 0 ∷ []) k ≡ lane_at (c.args.a ∷ c.args.b ∷ []) (k % 2) (k / 2))
    (on_left c.args.a c.args.b c.fits-a.0 0 (omega arith))
    (on_right c.args.a c.args.b c.fits-a.0 0)
    (on_left c.args.a c.args.b c.fits-a.0 1 (omega arith))
    (on_right c.args.a c.args.b c.fits-a.0 1)
    (on_left c.args.a c.args.b c.fits-a.0 2 (omega arith))
    (on_right c.args.a c.args.b c.fits-a.0 2)
    (on_left c.args.a c.args.b c.fits-a.0 3 (omega arith))
    (on_right c.args.a c.args.b c.fits-a.0 3)

pub returns-clause-high : goal.returns-clause-high
returns-clause-high c =
    each_of_eight (λ k. slice_index (get_or (c.args.a ++ c.args.b) 4 0 ∷ get_or (c.args.a ++ c.args.b) 12 0 ∷ get_or (c.args.a ++ c.args.b) 5 0 ∷ get_or (c.args.a ++ c.args.b) 13 0 ∷ get_or (c.args.a ++ c.args.b) 6 0 ∷ get_or (c.args.a ++ c.args.b) 14 0 ∷ get_or (c.args.a ++ c.args.b) 7 0 ∷ get_or (c.args.a ++ c.args.b) 15 0 ∷ []) k ≡ lane_at (c.args.a ∷ c.args.b ∷ []) (k % 2) (4 + k / 2))
    (on_left c.args.a c.args.b c.fits-a.0 4 (omega arith))
    (on_right c.args.a c.args.b c.fits-a.0 4)
    (on_left c.args.a c.args.b c.fits-a.0 5 (omega arith))
    (on_right c.args.a c.args.b c.fits-a.0 5)
    (on_left c.args.a c.args.b c.fits-a.0 6 (omega arith))
    (on_right c.args.a c.args.b c.fits-a.0 6)
    (on_left c.args.a c.args.b c.fits-a.0 7 (omega arith))
    (on_right c.args.a c.args.b c.fits-a.0 7)
