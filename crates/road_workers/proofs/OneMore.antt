-- What holds for the first workers still holds with one more.
use Rattle.std.specs.Prelude.{◌≡◌, ℕ, ◌+◌, ◌<◌, List, ◌++◌, ◌∷◌, [], length, slice_index_or, slice_set, IfSome}
use Rattle.std.specs.declared.option.Option.{Option}
use Rattle.std.specs.declared.option.Option.TheVariants.{Some}
use Rattle.std.specs.declared.thread.PromisedHandle.{PromisedHandle}
use Rattle.std.proofs.Common.{arith, rules, sym, subst, inl, inr}
use Rattle.std.proofs.lemmas.Bool.{cases_eq, cases_lt}
use Rattle.std.proofs.lemmas.Grind.{get_or-set_at}
use Rattle.std.proofs.lemmas.List.{length-append, length-set, get_or_append_left, get_or_push, get_or-set_other}
use Rattle.road_cells.specs.Array.{Array}
use Rattle.road_ends.specs.Input.{StepInput}
use Rattle.road_ends.specs.Span.{Span}
use Rattle.road_workers.specs.Private.Gathered.{AreGathered, AreMissing, AreRight, AreRun, IsAnswerOf, IsRunAt, PieceAnswer, StretchAnswer}
use Rattle.road_workers.specs.Private.Started.{AreStartedFrom, IsOfWorker}
use Rattle.road_workers.specs.declared.scoped.SpeedsOf.{SpeedsOf}

-- without the first element of a list, each other one is one place earlier
pub get_or_next : {A : Type 0} → (xs ys : List A) (x : A) (k : ℕ) (d : A) → xs ≡ x ∷ ys → slice_index_or xs (k + 1) d ≡ slice_index_or ys k d
get_or_next xs ys x k d is = grind rules

-- if no answer has come, each answer that has come is right
pub missing_right : {A : Type 0} → (right : ℕ → A → Type 0) (places : List (Option A)) → AreMissing places → AreRight right places
missing_right right places missing = λ w d below. subst (λ p. IfSome p (right w)) (sym (missing w d below)) tt

-- an answer is put at its worker's place
pub right_set : {A : Type 0} → (right : ℕ → A → Type 0) (places : List (Option A)) (w : ℕ) (answer : A)
    → AreRight right places → w < length places → right w answer → AreRight right (slice_set places w (Some answer))
right_set right places w answer was inside its = λ k d below.
    let same : length (slice_set places w (Some answer)) ≡ length places = length-set places w (Some answer) in
    elim (cases_eq k w) as (λ _. IfSome (slice_index_or (slice_set places w (Some answer)) k d) (right k)) [
      | inl at ↦ subst (λ p. IfSome p (right k)) (sym (get_or-set_at places w k (Some answer) d at inside))
          (subst (λ k. right k answer) (sym at) its)
      | inr other ↦ subst (λ p. IfSome p (right k)) (sym (get_or-set_other places w k (Some answer) d other))
          (was k d (omega (arith, below, same)))
    ]

pub gathered_set : (input : StepInput) (places : List (Option PieceAnswer)) (w : ℕ) (answer : PieceAnswer)
    → AreGathered input places → w < length places → IsAnswerOf input (length places) w answer → AreGathered input (slice_set places w (Some answer))
gathered_set input places w answer was inside its =
    subst (λ n. AreRight (IsAnswerOf input n) (slice_set places w (Some answer))) (sym (length-set places w (Some answer)))
    (right_set (IsAnswerOf input (length places)) places w answer was inside its)

pub run_set : (span : Span) (a : Array) (own : ℕ) (places : List (Option StretchAnswer)) (w : ℕ) (answer : StretchAnswer)
    → AreRun span a own places → w < length places → IsRunAt span a (own + length places) (own + w) answer → AreRun span a own (slice_set places w (Some answer))
run_set span a own places w answer was inside its =
    subst (λ n. AreRight (λ w. IsRunAt span a (own + n) (own + w)) (slice_set places w (Some answer))) (sym (length-set places w (Some answer)))
    (right_set (λ w. IsRunAt span a (own + length places) (own + w)) places w answer was inside its)

-- one more thread is started after those of the first workers
pub started_one_more : {T : Type 0} → (input : StepInput) (n : ℕ) (threads : List (PromisedHandle T SpeedsOf)) (thread : PromisedHandle T SpeedsOf)
    → AreStartedFrom input n 0 threads → IsOfWorker input n (length threads) thread.promise → AreStartedFrom input n 0 (threads ++ thread ∷ [])
started_one_more input n threads thread was its = λ k d below.
    let more : length (threads ++ thread ∷ []) ≡ length threads + 1 = length-append threads (thread ∷ []) in
    elim (cases_lt k (length threads)) as (λ _. IsOfWorker input n (0 + k) (slice_index_or (threads ++ thread ∷ []) k d).promise) [
      | inl before ↦ subst (λ h. IsOfWorker input n (0 + k) h.promise) (sym (get_or_append_left threads (thread ∷ []) d k before)) (was k d before)
      | inr behind ↦
          let at : length threads ≡ k = omega (arith, below, behind, more) in
          let its_place : length threads ≡ 0 + k = omega (arith, at) in
          subst (λ h. IsOfWorker input n (0 + k) h.promise) (sym (get_or_push threads thread d k at))
          (subst (λ w. IsOfWorker input n w thread.promise) its_place its)
    ]
