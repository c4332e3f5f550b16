-- One more car, in front of all others.
use Rattle.std.proofs.Common.{arith, ◌≡◌, ◌∙◌, ℕ, ◌≤◌, ◌+◌, List, ◌++◌, ◌∷◌, [], Vec, Global, ap, subst, sym}
use Rattle.road_cells.specs.Cars.{AreRising, AreRisingFrom, end_of}
use Rattle.road_cells.specs.declared.car.Car.{Car}
use Rattle.tests_plans.proofs.roads.road_of.Goals as goal
use Rattle.tests_plans.proofs.roads.road_of.Goals.{then-from-end+in_ok-push, else-from-end}

-- the cars still rise with one more after the last
rise-push : (k : ℕ) (cars : List Car) (car : Car) → AreRisingFrom k cars → end_of cars ≤ car.cell → k ≤ car.cell → AreRisingFrom k (cars ++ car ∷ [])
rise-push k [] car rise behind after = (after, tt)
rise-push k (first ∷ cars) car rise behind after = (rise.0, rise-push (first.cell + 1) cars car rise.1 (omega arith) (omega arith))

-- and the added car is then the last
end-push : (cars : List Car) (car : Car) → end_of cars ≤ car.cell → end_of (cars ++ car ∷ []) ≤ car.cell + 1
end-push [] car behind = omega arith
end-push (first ∷ cars) car behind = let rest = end-push cars car (omega arith) in omega arith

rise_more : (cars more : List Car) (car : Car) → more ≡ cars ++ car ∷ [] → AreRising cars → end_of cars ≤ car.cell → AreRising more
rise_more cars more car is rise behind = subst AreRising (sym is) (rise-push 0 cars car rise behind (omega arith))

end_more : (cars more : List Car) (car : Car) (end : ℕ) → more ≡ cars ++ car ∷ [] → end_of cars ≤ car.cell → end ≡ car.cell + 1 → end_of more ≤ end
end_more cars more car end is behind last = let pushed = end-push cars car behind in
    subst (λ cs. end_of cs ≤ end) (sym is) (omega arith)

pub loop-car-preserved : goal.loop-car-preserved
loop-car-preserved c =
    let was = c.loop-car.invariant in
    let before = c.loop-car.rising.items in
    let after = c.if-from-end.rising.items in
    elim c.if-from-end.branch [
      | then-from-end+in_ok-push w ↦
          let from = w.from-end in
          let is = ap (λ v. v.items) w.rising-is ∙ w.in_ok-push.ensures.items in
          let last = w.end-is in
          let cell = c.from.ensures in
          let behind = was.behind in
          record {
            rise = rise_more before after _ is was.rise (omega arith);
            behind = end_more before after _ c.if-from-end.end is (omega arith) (omega arith);
          }
      | else-from-end w ↦
          let same : after ≡ before = ap (λ (v : Vec Car Global). v.items) w.rising-is in
          record {
            rise = subst AreRising (sym same) was.rise;
            behind = subst (λ cs. end_of cs ≤ c.if-from-end.end) (sym same) (subst (λ e. end_of before ≤ e) (sym w.end-is) was.behind);
          }
    ]
