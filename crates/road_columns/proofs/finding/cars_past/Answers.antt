-- A binary search counts the cars on a cell or past it.
use Rattle.std.proofs.Common.{◌≡◌, ◌<◌, ◌≤◌, ◌+◌, ℕ, List, true, false, nat_le, length, slice_index, rules, of_calls, arith}
use Rattle.std.specs.List.Sorted.{IsPartitionedBy}
use Rattle.std.proofs.lemmas.Bool.Decides.{nat_tests}
use Rattle.std.proofs.lemmas.Fn.{always_returns_same}
use Rattle.std.proofs.lemmas.List.{get_or_default}
use Rattle.road_columns.proofs.LooseWords.{fall_to}
use Rattle.road_columns.proofs.finding.cars_past.Goals as goal

parted_by_site : (cells : List ℕ) (site : ℕ) → ((k : ℕ) → k + 1 < length cells → slice_index cells (k + 1) < slice_index cells k) → IsPartitionedBy (λ cell. nat_le site cell) cells
parted_by_site cells site falling i j d le below past =
    let fall = fall_to cells 0 (length cells) i j (λ k from less. falling k less) (omega arith) le below in
    let low = get_or_default cells i 0 d (omega arith) in
    let high = get_or_default cells j 0 d below in
    grind (arith, nat_tests)

is_past : (site cell : ℕ) → nat_le site cell ≡ true → site ≤ cell
is_past site cell is = grind (arith, nat_tests)

is_before : (site cell : ℕ) → nat_le site cell ≡ false → cell < site
is_before site cell is = grind (arith, nat_tests)

pub returns : goal.returns
returns c =
    let point = c.partition_point.ensures.partitioned (λ cell. nat_le c.args.site cell) (always_returns_same _ _ _ (λ a r f k. search (rules, of_calls)))
    (parted_by_site c.args.cells.now c.args.site c.requires) in
    let bound = c.partition_point.ensures.bound in
    record {
      within = bound;
      past = λ k less. is_past c.args.site (slice_index c.args.cells.now k) (point.0 k 0 (omega arith) less);
      before = λ k high below. is_before c.args.site (slice_index c.args.cells.now k) (point.1 k 0 high below);
    }
