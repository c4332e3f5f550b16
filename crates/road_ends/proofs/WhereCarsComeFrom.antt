-- Where a car comes from: by motion from a cell, and there from the road before or from an inlet.
use Rattle.std.specs.Prelude.{◌≡◌, ℕ, ◌+◌, ◌<◌, ◌==◌, ◌⊎◌, true, false, cond, List, [], ◌∷◌, length, nat_eq, refl}
use Rattle.std.specs.List.{slice_index_or, position, range_with_len}
use Rattle.std.specs.Option.{option_or}
use Rattle.std.specs.declared.option.Option.{Option}
use Rattle.std.specs.declared.option.Option.TheVariants.{None, Some}
use Rattle.std.proofs.Common.{sym, ap, ◌∙◌, inl, inr, arith}
use Rattle.std.proofs.lemmas.Bool.Decides.{nat_tests}
use Rattle.std.proofs.lemmas.List.Quantifiers.{position-Some}
use Rattle.road_plan.specs.Plan.{Plan}
use Rattle.road_plan.specs.Settings.{Settings}
use Rattle.road_cells.specs.Array.{Array, Vehicle, vehicle_at}
use Rattle.road_cells.proofs.ArrayPlaces.{vehicle_at-array}
use Rattle.road_rules.specs.Motion.{first_some, arrival_from, arrival_at}
use Rattle.road_ends.specs.Entries.{car_number, is_admitting, admitted_car, entry_at, road_with_entries}
use Rattle.road_ends.proofs.NoCollision.{within}

-- the cell from which a car came by motion
pub record CameFrom (speed : ℕ → Vehicle → ℕ) (a : Array) (j : ℕ) (car : Vehicle) : Type 0 where
  pub cell : ℕ
  pub earlier : Vehicle
  pub stood : vehicle_at a cell ≡ Some earlier
  pub reached : cell + speed cell earlier ≡ j
  pub same_number : car.number ≡ earlier.number
  pub new_speed : car.speed ≡ speed cell earlier

found : (f : ℕ → Option Vehicle) (cs : List ℕ) (car : Vehicle) → first_some f cs ≡ Some car → (c : ℕ) × (f c ≡ Some car)
found f [] car none = let never : None ≡ Some car = none in cc
found f (c ∷ cs) car first = elim (f c) as (λ o. f c ≡ o → (c : ℕ) × (f c ≡ Some car)) [
  | None ↦ λ empty. found f cs car (sym (ap (λ o. option_or o (first_some f cs)) empty) ∙ first)
  | Some x ↦ λ here. (c, here ∙ sym (ap (λ o. option_or o (first_some f cs)) here) ∙ first)
] refl

came : (speed : ℕ → Vehicle → ℕ) (a : Array) (j c : ℕ) (car : Vehicle) → arrival_from j c (speed c) (vehicle_at a c) ≡ Some car → CameFrom speed a j car
came speed a j c car comes = elim (vehicle_at a c) as (λ o. vehicle_at a c ≡ o → CameFrom speed a j car) [
  | None ↦ λ empty. let never : None ≡ Some car = sym (ap (arrival_from j c (speed c)) empty) ∙ comes in cc
  | Some x ↦ λ here. at x here (sym (ap (arrival_from j c (speed c)) here) ∙ comes)
] refl
  where
    at : (x : Vehicle) → vehicle_at a c ≡ Some x → arrival_from j c (speed c) (Some x) ≡ Some car → CameFrom speed a j car
    at x here comes = elim (c + speed c x == j) as (λ b. (c + speed c x == j) ≡ b → CameFrom speed a j car) [
      | true ↦ λ reached.
          let is : Some (record { number = x.number; speed = speed c x }) ≡ Some car = sym (ap (λ b. cond b (Some (record { number = x.number; speed = speed c x })) None) reached) ∙ comes in
          let same : car ≡ record { number = x.number; speed = speed c x } = cc in
          record { cell = c; earlier = x; stood = here; reached = (grind (arith, nat_tests)); same_number = ap (λ v. v.number) same; new_speed = ap (λ v. v.speed) same }
      | false ↦ λ missed. let never : None ≡ Some car = sym (ap (λ b. cond b (Some (record { number = x.number; speed = speed c x })) None) missed) ∙ comes in cc
    ] refl

-- a car that arrives came from a cell
pub came_from : (speed : ℕ → Vehicle → ℕ) (a : Array) (j : ℕ) (car : Vehicle) → arrival_at speed a j ≡ Some car → CameFrom speed a j car
came_from speed a j car arrives = let from = found (λ c. arrival_from j c (speed c) (vehicle_at a c)) (range_with_len 0 (length a)) car arrives in came speed a j from.0 car from.1

-- the inlet where a car entered
pub record EnteredBy (p : Plan) (t c : ℕ) (car : Vehicle) : Type 0 where
  pub inlet : ℕ
  pub in_plan : inlet < length p.inlets
  pub at_cell : nat_eq c (slice_index_or p.inlets inlet (0, 0)).0 ≡ true
  pub numbered : car.number ≡ car_number t inlet
  pub stands : car.speed ≡ 0

entered_at : (p : Plan) (s : Settings) (t c : ℕ) (car : Vehicle) (o : Option ℕ) → position (λ inlet. nat_eq c inlet.0) p.inlets ≡ o → admitted_car p s t c o ≡ Some car → EnteredBy p t c car
entered_at p s t c car None place enters = let never : None ≡ Some car = enters in cc
entered_at p s t c car (Some i) place enters = elim (is_admitting p s t c i) as (λ b. cond b (Some (record { number = car_number t i; speed = 0 })) None ≡ Some car → EnteredBy p t c car) [
  | true ↦ λ is.
      let same : car ≡ record { number = car_number t i; speed = 0 } = cc in
      let at = position-Some (λ inlet. nat_eq c inlet.0) p.inlets i (0, 0) place in
      record { inlet = i; in_plan = at.0; at_cell = at.1; numbered = ap (λ v. v.number) same; stands = ap (λ v. v.speed) same }
  | false ↦ λ is. let never : None ≡ Some car = is in cc
] enters

-- a car that enters came in at an inlet
pub entered_by : (p : Plan) (s : Settings) (t c : ℕ) (car : Vehicle) → entry_at p s t c ≡ Some car → EnteredBy p t c car
entered_by p s t c car enters = entered_at p s t c car (position (λ inlet. nat_eq c inlet.0) p.inlets) refl enters

-- a car on the road after the entries was there before or entered
pub stood_or_entered : (p : Plan) (s : Settings) (t : ℕ) (a : Array) (c : ℕ) (car : Vehicle) → vehicle_at (road_with_entries p s t a) c ≡ Some car → (vehicle_at a c ≡ Some car) ⊎ EnteredBy p t c car
stood_or_entered p s t a c car here =
    let below = within p.cells (λ c. option_or (vehicle_at a c) (entry_at p s t c)) c car here in
    split (vehicle_at a c) refl (sym (vehicle_at-array p.cells (λ c. option_or (vehicle_at a c) (entry_at p s t c)) c below) ∙ here)
  where
    split : (o : Option Vehicle) → vehicle_at a c ≡ o → option_or o (entry_at p s t c) ≡ Some car → (vehicle_at a c ≡ Some car) ⊎ EnteredBy p t c car
    split None empty is = inr (entered_by p s t c car is)
    split (Some x) stood is = inl (stood ∙ is)
