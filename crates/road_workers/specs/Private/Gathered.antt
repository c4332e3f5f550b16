-- Results that have come from the workers of a pool.
use Rattle.std.specs.Prelude.{◌≡◌, ℕ, zero, suc, ◌+◌, ◌<◌, List, length, slice_index_or, slice_set, Vec, Result}
use Rattle.std.specs.Prelude.{IfOk, IfSome, IsSome}
use Rattle.std.specs.declared.option.Option.{Option}
use Rattle.std.specs.declared.option.Option.TheVariants.{Some, None}
use Rattle.std.specs.declared.result.Result.TheVariants.{Ok, Err}
use Rattle.std.specs.declared.alloc.Global.{Global}
use Rattle.std.specs.declared.alloc.AllocError.{AllocError}
use Rattle.road_cells.specs.Array.{Array}
use Rattle.road_cells.specs.Cars.{cars_of}
use Rattle.road_ends.specs.Input.{StepInput}
use Rattle.road_ends.specs.Span.{Span}
use Rattle.road_detector.specs.declared.span_result.SpanResult.{SpanResult}
use Rattle.road_workers.specs.Private.Pieces.{speeds_of_worker}
use Rattle.road_workers.specs.Private.Stretches.{IsRunOf, cars_between, cut}

-- no worker has answered yet
abbrev pub AreMissing : {A : Type 0} → List (Option A) → Type 0
AreMissing {A} places = (w : ℕ) (d : Option A) → w < length places → slice_index_or places w d ≡ None

-- the first n workers have answered
abbrev pub AreThere : {A : Type 0} → ℕ → List (Option A) → Type 0
AreThere {A} n places = (w : ℕ) (d : Option A) → w < n → IsSome (slice_index_or places w d)

-- each answer that has come is right at its place
abbrev pub AreRight : {A : Type 0} → (ℕ → A → Type 0) → List (Option A) → Type 0
AreRight {A} right places = (w : ℕ) (d : Option A) → w < length places → IfSome (slice_index_or places w d) (right w)

-- the place of worker w still waits for its answer
abbrev pub IsMissing : {A : Type 0} → List (Option A) → ℕ → Type 0
IsMissing places w = (w < length places) × (slice_index_or places w None ≡ None)

-- an answer has come to one place that was waiting, and all other places are as before
abbrev pub TakesOne : {A : Type 0} → List (Option A) → A → List (Option A) → Type 0
TakesOne before answer after = (w : ℕ) × IsMissing before w × (after ≡ slice_set before w (Some answer))

-- what a worker answered: the speeds of its piece, or out of memory
abbrev pub PieceAnswer : Type 0
PieceAnswer = Result (Vec ℕ Global) AllocError

-- the speeds, if there are some, are those of the piece of worker w, of n workers
abbrev pub IsAnswerOf : StepInput → ℕ → ℕ → PieceAnswer → Type 0
IsAnswerOf input n w answer = IfOk answer (λ new. new.items ≡ speeds_of_worker input n w)

-- one place for each worker, with its answer if that has come
abbrev pub AreGathered : StepInput → List (Option PieceAnswer) → Type 0
AreGathered input places = AreRight (IsAnswerOf input (length places)) places

-- what a worker answered: the result of its stretch, or out of memory
abbrev pub StretchAnswer : Type 0
StretchAnswer = Result SpanResult AllocError

-- the result, if there is one, is that of stretch number w of n
abbrev pub IsRunAt : Span → Array → ℕ → ℕ → StretchAnswer → Type 0
IsRunAt span a n w answer = IfOk answer
    (IsRunOf (cut span.plan.cells (cars_of a) n w) (cut span.plan.cells (cars_of a) n (w + 1)) span a)

-- one place for each worker, with its answer if that has come; before their stretches the caller has `own` stretches
abbrev pub AreRun : Span → Array → ℕ → List (Option StretchAnswer) → Type 0
AreRun span a own places = AreRight (λ w. IsRunAt span a (own + length places) (own + w)) places

-- how many cars are on a stretch from lo to before hi, if a worker has run it
abbrev pub cars_on : ℕ → ℕ → Option StretchAnswer → ℕ
cars_on lo hi None = 0
cars_on lo hi (Some (Err fault)) = 0
cars_on lo hi (Some (Ok ran)) = length (cars_between lo hi ran.road)

-- how many cars are on the stretches of the first k workers. The stretch of worker w is number own + w: it goes from
-- where it begins to where the next one begins
abbrev pub cars_on_first : ℕ → (ℕ → ℕ) → ℕ → List (Option StretchAnswer) → ℕ
cars_on_first zero begin own places = 0
cars_on_first (suc k) begin own places = cars_on_first k begin own places
    + cars_on (begin (own + k)) (begin (own + k + 1)) (slice_index_or places k None)
