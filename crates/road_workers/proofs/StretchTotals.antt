-- The totals of a stretch: none at first, after one more step, and their bounds.
use Rattle.std.specs.Prelude.{◌≡◌, ℕ, ◌+◌, ◌-◌, ◌^◌, ◌<◌, ◌≤◌, ◌&&◌, Bool, true, false, if◌then◌else◌, List, length, replicate, nat_le, nat_lt, slice_index, slice_index_or, IfOk, refl}
use Rattle.std.specs.declared.result.Result.{Result}
use Rattle.std.specs.declared.result.Result.TheVariants.{Ok, Err}
use Rattle.std.proofs.Common.{sym, ap, subst, ◌∙◌, arith}
use Rattle.std.proofs.Math.Numerals.{add-one}
use Rattle.std.proofs.lemmas.List.{length-replicate, get_or-replicate}
use Rattle.std.proofs.lemmas.List.FromFn.{fill_by_all}
use Rattle.std.proofs.lemmas.Bool.Decides.{nat_tests}
use Rattle.road_plan.specs.Plan.{Plan, IsWithinLimits}
use Rattle.road_plan.specs.declared.limits.TheConstants.{GREATEST_HORIZON}
use Rattle.road_cells.specs.Array.{Array}
use Rattle.road_ends.specs.Input.{StepInput, input_of, input_next, input_speeds}
use Rattle.road_ends.specs.Span.{Span}
use Rattle.road_detector.specs.Passes.{plus, no_totals, passes_from, total_from, span_totals}
use Rattle.road_detector.specs.declared.counts.Totals.{Totals}
use Rattle.road_detector.proofs.TotalsFrom.{AreBounded, bounded_from, total_from_more}
use Rattle.road_detector.proofs.CarsPassOneByOne.{one_from}
use Rattle.road_workers.specs.Private.Stretches.{has_site, passes_on, road_after, total_on, AreTotalsOn}

-- the input of the step after k steps of a span
abbrev pub step_input : Span → ℕ → Array → StepInput
step_input span k a = input_of span.plan span.settings (span.step + k) (road_after span k a)

no_more : plus no_totals no_totals ≡ no_totals
no_more = refl

pub total_on-bounded : (lo hi : ℕ) (span : Span) (k : ℕ) (a : Array) (d : ℕ) → AreBounded k (total_on lo hi span k a d)
total_on-bounded lo hi span k a d = by (has_site lo hi span.plan d)
  where
    by : (b : Bool) → AreBounded k (if b then total_from span.plan (λ _. span.settings) span.step k a d else no_totals)
    by true = bounded_from span.plan (λ _. span.settings) span.step k a d
    by false = record { few = omega arith; slow = omega arith }

pub passes_on-bounded : (lo hi : ℕ) (span : Span) (k : ℕ) (a : Array) (d : ℕ) → AreBounded 1 (passes_on lo hi (step_input span k a) (input_speeds (step_input span k a)) d)
passes_on-bounded lo hi span k a d = by (has_site lo hi span.plan d)
  where
    by : (b : Bool) → AreBounded 1 (if b then passes_from span.plan span.settings (span.step + k) (road_after span k a) d else no_totals)
    by true = let one = one_from span.plan span.settings (span.step + k) (road_after span k a) d in record { few = one.0; slow = one.1 }
    by false = record { few = omega arith; slow = omega arith }

pub total_on-more : (lo hi : ℕ) (span : Span) (k : ℕ) (a : Array) (d : ℕ)
    → plus (total_on lo hi span k a d) (passes_on lo hi (step_input span k a) (input_speeds (step_input span k a)) d) ≡ total_on lo hi span (k + 1) a d
total_on-more lo hi span k a d = by (has_site lo hi span.plan d)
  where
    by : (b : Bool) → plus (if b then total_from span.plan (λ _. span.settings) span.step k a d else no_totals)
        (if b then passes_from span.plan span.settings (span.step + k) (road_after span k a) d else no_totals)
        ≡ (if b then total_from span.plan (λ _. span.settings) span.step (k + 1) a d else no_totals)
    by true = total_from_more span.plan (λ _. span.settings) span.step k a d
    by false = no_more

-- the road after one more step
pub road_after-more : (span : Span) (k : ℕ) (a : Array) → input_next (step_input span k a) ≡ road_after span (k + 1) a
road_after-more span k a = sym (ap (λ n. road_after span n a) (add-one k))

-- the sums with the counts of one more step are below 2^32
pub sums_fit : (span : Span) (k : ℕ) (before more : Totals) → k < span.steps → span.step + span.steps ≤ GREATEST_HORIZON → AreBounded k before → AreBounded 1 more
    → (before.cars + more.cars < 2 ^ 32) × (before.speeds + more.speeds < 2 ^ 32)
sums_fit span k before more early within bounded one =
    let few = bounded.few in
    let slow = bounded.slow in
    let few_more = one.few in
    let slow_more = one.slow in
    ((omega arith), (omega arith))

-- nothing is counted in no steps
pub none_on : (lo hi : ℕ) (span : Span) (a : Array) (d : ℕ) → total_on lo hi span 0 a d ≡ no_totals
none_on lo hi span a d = by (has_site lo hi span.plan d)
  where
    by : (b : Bool) → (if b then no_totals else no_totals) ≡ no_totals
    by true = refl
    by false = refl

pub none_at : (lo hi : ℕ) (span : Span) (a : Array) (totals : List Totals) → totals ≡ replicate (length span.plan.detectors) no_totals → AreTotalsOn lo hi span 0 a totals
none_at lo hi span a totals none = record {
  each = ap length none ∙ length-replicate (length span.plan.detectors) no_totals;
  counted = λ d below. ap (λ xs. slice_index_or xs d no_totals) none ∙ get_or-replicate (length span.plan.detectors) d no_totals no_totals (let long = ap length none ∙ length-replicate (length span.plan.detectors) no_totals in omega arith) ∙ sym (none_on lo hi span a d);
}

-- each detector on these cells counts in the step of an input what it counts in the step after k steps of a span
abbrev pub IsCountedLike : ℕ → ℕ → Span → ℕ → Array → StepInput → Type 0
IsCountedLike lo hi span k a input = (d : ℕ) → passes_on lo hi input (input_speeds input) d ≡ passes_on lo hi (step_input span k a) (input_speeds (step_input span k a)) d

abbrev Fit : Totals → Totals → Type 0
Fit before more = (before.cars + more.cars < 2 ^ 32) × (before.speeds + more.speeds < 2 ^ 32)

pub fit_at : (lo hi : ℕ) (span : Span) (k : ℕ) (a : Array) (totals : List Totals) (input : StepInput) → IsCountedLike lo hi span k a input → AreTotalsOn lo hi span k a totals → k < span.steps → span.step + span.steps ≤ GREATEST_HORIZON
    → (d : ℕ) → d < length totals → Fit (slice_index_or totals d no_totals) (passes_on lo hi input (input_speeds input) d)
fit_at lo hi span k a totals input like are early within d below =
    subst (λ b. Fit b (passes_on lo hi input (input_speeds input) d)) (sym (are.counted d below))
    (subst (Fit (total_on lo hi span k a d)) (sym (like d))
    (sums_fit span k (total_on lo hi span k a d) (passes_on lo hi (step_input span k a) (input_speeds (step_input span k a)) d) early within
    (total_on-bounded lo hi span k a d) (passes_on-bounded lo hi span k a d)))

-- the totals after one more step
pub totals_after : (lo hi : ℕ) (span : Span) (k : ℕ) (a : Array) (before after : List Totals) (input : StepInput) → IsCountedLike lo hi span k a input → AreTotalsOn lo hi span k a before → length after ≡ length before
    → ((d : ℕ) → d < length before → slice_index_or after d no_totals ≡ plus (slice_index_or before d no_totals) (passes_on lo hi input (input_speeds input) d))
    → AreTotalsOn lo hi span (k + 1) a after
totals_after lo hi span k a before after input like are long counts = record {
  each = long ∙ are.each;
  counted = λ d below.
      let early : d < length before = omega arith in
      counts d early ∙ ap (λ b. plus b (passes_on lo hi input (input_speeds input) d)) (are.counted d early)
      ∙ ap (plus (total_on lo hi span k a d)) (like d) ∙ total_on-more lo hi span k a d;
}

-- a site on the cells from lo to before hi
pub site_on : (lo hi site : ℕ) → lo ≤ site → site < hi → (nat_le lo site && nat_lt site hi) ≡ true
site_on lo hi site above below = grind (arith, nat_tests)

-- each site is on the whole road
pub site_on_road : (p : Plan) (d : ℕ) → IsWithinLimits p → d < length p.detectors → has_site 0 p.cells p d ≡ true
site_on_road p d within below =
    let before : slice_index p.detectors d < p.cells - p.exit = within.sites_before_exit d 0 below in
    site_on 0 p.cells (slice_index p.detectors d) (omega arith) (omega arith)

-- so a run of the whole road has the totals of the span
pub whole_totals : (span : Span) (cells : ℕ) (a : Array) (totals : List Totals) → IsWithinLimits span.plan → cells ≡ span.plan.cells → AreTotalsOn 0 cells span span.steps a totals → totals ≡ span_totals span a
whole_totals span cells a totals within all are =
    fill_by_all (total_from span.plan (λ _. span.settings) span.step span.steps a) totals (length span.plan.detectors) no_totals are.each
    (λ d below. are.counted d (let long = are.each in omega arith)
    ∙ ap (λ b. if b then total_from span.plan (λ _. span.settings) span.step span.steps a d else no_totals) (ap (λ n. has_site 0 n span.plan d) all ∙ site_on_road span.plan d within below))

-- what follows from a property of each result follows if there is a result
pub if_ok : {A E : Type 0} (r : Result A E) (P Q : A → Type 0) → ((x : A) → P x → Q x) → IfOk r P → IfOk r Q
if_ok (Ok x) P Q f is = f x is
if_ok (Err e) P Q f is = tt
