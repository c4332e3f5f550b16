-- Each part is written behind the parts before it.
use Rattle.std.proofs.Common.{◌≡◌, ◌∙◌, ◌+◌, ℕ, List, length, slice_index, sym, ap, arith}
use Rattle.std.specs.List.{slice_index_or}
use Rattle.road_columns.proofs.finding.write_sites.Goals as goal

pub returns : goal.returns
returns c =
    let inlets = ap length c.inlets-inlets.ensures.inlets in
    let detectors = ap length c.detectors.ensures.detectors in
    let a = c.write_inlets.ensures.long in
    let b = c.write_detectors.ensures.long in
    let d = c.write_firsts.ensures.long in
    let same = c.inlets.ensures.inlets in
    let same' = c.detectors-2.ensures.detectors in
    let many = ap length c.inlets.ensures.inlets in
    let many' = ap length c.detectors-2.ensures.detectors in
    let size = c.requires in
    record {
      as_many = omega arith;
      inlets = λ i below.
          c.write_firsts.ensures.before i (omega arith) ∙ c.write_detectors.ensures.before i (omega arith) ∙ c.write_inlets.ensures.written i (omega arith)
          ∙ ap (λ (xs : List (ℕ × ℕ)). (slice_index_or xs i (0, 0)).0) same;
      detectors = λ k below.
          let there : length c.inlets-inlets.result.now + k ≡ length c.args.plan.now.inlets + k = omega arith in
          ap (slice_index c.write_firsts.new.sites) (sym there) ∙ c.write_firsts.ensures.before (length c.inlets-inlets.result.now + k) (omega arith) ∙ c.write_detectors.ensures.written k (omega arith)
          ∙ ap (λ xs. slice_index xs k) same';
      firsts = λ r below.
          let there : length c.inlets-inlets.result.now + length c.detectors.result.now + r ≡ length c.args.plan.now.inlets + length c.args.plan.now.detectors + r = omega arith in
          ap (slice_index c.write_firsts.new.sites) (sym there) ∙ c.write_firsts.ensures.written r below;
    }
