-- A run depends only on the settings of earlier steps.
use Rattle.std.specs.Prelude.{◌≡◌, ℕ, zero, suc, ◌<◌, refl}
use Rattle.std.proofs.Common.{arith}
use Rattle.road_plan.specs.Plan.{Plan}
use Rattle.road_ends.specs.Run.{Course, run, road_after_step}
use Rattle.road_ends.specs.Laws.{DependOnEarlierSettings}

run-same : (p : Plan) (f g : Course) (t : ℕ) → ((u : ℕ) → u < t → f u ≡ g u) → run p f t ≡ run p g t
run-same p f g zero same = refl
run-same p f g (suc t) same = λ i. road_after_step p (same t (omega arith) i) t (run-same p f g t (λ u below. same u (omega arith)) i)

pub depend_on_earlier_settings : (p : Plan) → DependOnEarlierSettings p
depend_on_earlier_settings p f g s same t le = run-same p f g t (λ u below. same u (omega arith))
