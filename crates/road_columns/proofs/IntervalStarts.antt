-- The words of an interval from step to step, and how many cars there are.
use Rattle.std.specs.Prelude.{◌≡◌, ℕ, ◌+◌, ◌-◌, ◌*◌, ◌/◌, ◌%◌, ◌<◌, ◌≤◌, List}
use Rattle.std.proofs.Common.{arith, inl, inr}
use Rattle.std.proofs.Math.Path.{transport}
use Rattle.std.proofs.lemmas.Bool.{cases_lt}
use Rattle.road_plan.specs.Plan.{Plan, exit_start}
use Rattle.road_columns.specs.Private.Interval.{HaveIntervalWords}
use Rattle.road_columns.specs.Private.Step.{AreCarsInColumn}
use Rattle.road_columns.specs.declared.cars.CarColumns.{CarColumns}
use Rattle.road_columns.specs.declared.interval.IntervalWords.{IntervalWords}
use Rattle.road_columns.proofs.LooseWords.{fall_to}

-- no more cars are before the exit than there are cells
pub few_cars : (p : Plan) (head tail : ℕ) (cells : List ℕ) → AreCarsInColumn p head tail cells → tail - head ≤ exit_start p
few_cars p head tail cells cars = elim (cases_lt head tail) as (λ _. tail - head ≤ exit_start p) [
  | inl some ↦
      let fall = fall_to cells head tail head (tail - 1) cars.falling (omega arith) (omega arith) (omega arith) in
      let first = cars.before_exit head (omega arith) some in omega arith
  | inr none ↦ omega arith
]

-- except after its last step, an interval continues
pub words_on : (p : Plan) (t : ℕ) (cars : CarColumns) (words : IntervalWords) → t % 64 < 63
    → HaveIntervalWords p (64 * (t / 64)) (t % 64 + 1) cars words → HaveIntervalWords p (64 * ((t + 1) / 64)) ((t + 1) % 64) cars words
words_on p t cars words early have =
    let first : 64 * (t / 64) ≡ 64 * ((t + 1) / 64) = omega arith in
    let step : t % 64 + 1 ≡ (t + 1) % 64 = omega arith in
    transport (λ j. HaveIntervalWords p (first j) (step j) cars words) have
