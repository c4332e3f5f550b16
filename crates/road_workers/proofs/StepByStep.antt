-- A span that is run one step after another: the road and the counts after one more step.
use Rattle.std.specs.Prelude.{◌≡◌, ℕ, ◌+◌, ◌^◌, ◌<◌, ◌≤◌, List, length, slice_index_or}
use Rattle.std.proofs.Common.{sym, ap, subst, ◌∙◌, arith}
use Rattle.std.proofs.lemmas.List.FromFn.{fill_by_all}
use Rattle.road_plan.specs.declared.limits.TheConstants.{GREATEST_HORIZON}
use Rattle.road_cells.specs.Array.{Array}
use Rattle.road_ends.specs.Input.{StepInput, input_of, input_next, input_speeds}
use Rattle.road_ends.specs.Span.{Span}
use Rattle.road_detector.specs.Passes.{plus, no_totals, passes_at, passes_from, total_from, span_totals}
use Rattle.road_detector.specs.declared.counts.Totals.{Totals}
use Rattle.road_detector.proofs.TotalsFrom.{bounded_from, total_from_more}
use Rattle.road_detector.proofs.CarsPassOneByOne.{one_from}
use Rattle.road_workers.specs.Private.Stretches.{road_after}
use Rattle.road_workers.proofs.StretchTotals.{road_after-more, sums_fit}

-- what a detector counts in k steps of a span
abbrev pub count_of : Span → ℕ → Array → ℕ → Totals
count_of span k a d = total_from span.plan (λ _. span.settings) span.step k a d

-- what a detector counts in the step after k, from the road before that step
abbrev pub step_count : Span → ℕ → Array → ℕ → Totals
step_count span k here d = passes_from span.plan span.settings (span.step + k) here d

-- each detector has counted k steps
abbrev pub AreCounted : Span → ℕ → Array → List Totals → Type 0
AreCounted span k a totals = (d : ℕ) → d < length totals → slice_index_or totals d no_totals ≡ count_of span k a d

-- the sums of two totals are below 2^32
abbrev pub Fit : Totals → Totals → Type 0
Fit before more = (before.cars + more.cars < 2 ^ 32) × (before.speeds + more.speeds < 2 ^ 32)

-- the road after one more step
pub road_more : (span : Span) (k : ℕ) (a here later : Array) → here ≡ road_after span k a → later ≡ input_next (input_of span.plan span.settings (span.step + k) here) → later ≡ road_after span (k + 1) a
road_more span k a here later is next = next ∙ ap (λ (x : Array). input_next (input_of span.plan span.settings (span.step + k) x)) is ∙ road_after-more span k a

-- a detector counts the same at the speeds of the step's input
pub same_count : (span : Span) (k : ℕ) (here : Array) (input : StepInput) (speeds : List ℕ) (d : ℕ) → input ≡ input_of span.plan span.settings (span.step + k) here → speeds ≡ input_speeds input → passes_at input speeds d ≡ step_count span k here d
same_count span k here input speeds d entered by_rules = ap (λ (ys : List ℕ). passes_at input ys d) by_rules ∙ ap (λ (x : StepInput). passes_at x (input_speeds x) d) entered

-- the sums with the counts of one more step are below 2^32
pub counts_fit : (span : Span) (k : ℕ) (a here : Array) (totals : List Totals) → here ≡ road_after span k a → AreCounted span k a totals → k < span.steps → span.step + span.steps ≤ GREATEST_HORIZON
    → (d : ℕ) → d < length totals → Fit (slice_index_or totals d no_totals) (step_count span k here d)
counts_fit span k a here totals is counted early within d below =
    let one = one_from span.plan span.settings (span.step + k) (road_after span k a) d in
    subst (λ (x : Totals). Fit x (step_count span k here d)) (sym (counted d below))
    (subst (λ (x : Array). Fit (count_of span k a d) (step_count span k x d)) (sym is)
    (sums_fit span k (count_of span k a d) (step_count span k (road_after span k a) d) early within
    (bounded_from span.plan (λ _. span.settings) span.step k a d) (record { few = one.0; slow = one.1 })))

-- the totals after the counts of one more step are added
pub one_more_counted : (span : Span) (k : ℕ) (a here : Array) (before after : List Totals) → here ≡ road_after span k a → AreCounted span k a before → length after ≡ length before
    → ((d : ℕ) → d < length before → slice_index_or after d no_totals ≡ plus (slice_index_or before d no_totals) (step_count span k here d))
    → AreCounted span (k + 1) a after
one_more_counted span k a here before after is counted long more d below =
    let early : d < length before = omega arith in
    more d early ∙ ap (λ (x : Totals). plus x (step_count span k here d)) (counted d early)
    ∙ ap (λ (x : Array). plus (count_of span k a d) (step_count span k x d)) is
    ∙ total_from_more span.plan (λ _. span.settings) span.step k a d

-- once all steps are counted, the totals are those of the span
pub span_counted : (span : Span) (a : Array) (totals : List Totals) → length totals ≡ length span.plan.detectors → AreCounted span span.steps a totals → totals ≡ span_totals span a
span_counted span a totals each counted =
    fill_by_all (count_of span span.steps a) totals (length span.plan.detectors) no_totals each (λ d below. counted d (omega arith))
