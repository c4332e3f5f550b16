-- If each object of a plan has the same setting, all settings are the same.
use Rattle.std.specs.Prelude.{◌≡◌, ℕ, zero, suc, ◌+◌, ◌<◌, ◌==◌, Bool, true, ◌∷◌, map, length, if◌then◌else◌, refl}
use Rattle.std.specs.List.{filter, range_with_len}
use Rattle.std.proofs.Common.{arith, ap}
use Rattle.std.proofs.lemmas.Bool.{lt-ltb}
use Rattle.road_plan.specs.Objects.{is_in_plan}
use Rattle.road_plan.specs.Plan.{Plan}
use Rattle.road_plan.specs.declared.object.Object.{Object}
use Rattle.road_plan.specs.declared.object.Object.TheVariants.{Limit, Slow, Block, Inflow, Watch, Start}
use Rattle.road_scenario.specs.Edits.{Edits}
use Rattle.road_scenario.specs.Settings.{setting, settings_of}

-- two functions agree on `count` numbers, from `start` on
abbrev AreSameFrom : {A : Type 0} → ℕ → ℕ → (ℕ → A) → (ℕ → A) → Type 0
AreSameFrom start count f g = (k : ℕ) → k < start + count → f k ≡ g k

same_map : {A : Type 0} (start count : ℕ) (f g : ℕ → A) → AreSameFrom start count f g → map f (range_with_len start count) ≡ map g (range_with_len start count)
same_map start zero f g same = refl
same_map start (suc count) f g same =
    let first = same start (omega arith) in
    let rest = same_map (start + 1) count f g (λ k below. same k (omega arith)) in
    λ i. first i ∷ rest i

same_filter : (start count : ℕ) (f g : ℕ → Bool) → AreSameFrom start count f g → filter f (range_with_len start count) ≡ filter g (range_with_len start count)
same_filter start zero f g same = refl
same_filter start (suc count) f g same =
    let first = same start (omega arith) in
    let rest = same_filter (start + 1) count f g (λ k below. same k (omega arith)) in
    λ i. if first i then start ∷ rest i else rest i

pub settings-objects : (p : Plan) (s t : Edits) (step : ℕ) → ((o : Object) → is_in_plan p o ≡ true → setting p s o step ≡ setting p t o step) → settings_of p s step ≡ settings_of p t step
settings-objects p s t step each =
    let limits = same_map 0 (length p.zones) (λ z. setting p s (Limit z) step) (λ z. setting p t (Limit z) step) (λ z below. each (Limit z) (lt-ltb z (length p.zones) (omega arith))) in
    let chances = same_map 0 (length p.zones) (λ z. setting p s (Slow z) step) (λ z. setting p t (Slow z) step) (λ z below. each (Slow z) (lt-ltb z (length p.zones) (omega arith))) in
    let inflows = same_map 0 (length p.inlets) (λ n. setting p s (Inflow n) step) (λ n. setting p t (Inflow n) step) (λ n below. each (Inflow n) (lt-ltb n (length p.inlets) (omega arith))) in
    let blocks = same_filter 0 p.cells (λ c. setting p s (Block c) step == 1) (λ c. setting p t (Block c) step == 1) (λ c below. ap (λ (n : ℕ). n == 1) (each (Block c) (lt-ltb c p.cells (omega arith)))) in
    let watched = same_map 0 (length p.detectors) (λ d. setting p s (Watch d) step == 1) (λ d. setting p t (Watch d) step == 1) (λ d below. ap (λ (n : ℕ). n == 1) (each (Watch d) (lt-ltb d (length p.detectors) (omega arith)))) in
    let starts = same_map 0 (length p.zones) (λ z. setting p s (Start z) step) (λ z. setting p t (Start z) step) (λ z below. each (Start z) (lt-ltb z (length p.zones) (omega arith))) in
    λ i. record { limits = limits i; chances = chances i; inflows = inflows i; blocks = blocks i; watched = watched i; starts = starts i }
