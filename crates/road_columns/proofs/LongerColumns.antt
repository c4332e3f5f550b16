-- Columns that are made longer.
use Rattle.std.specs.Prelude.{◌≡◌, ℕ, zero, suc, ◌+◌, ◌-◌, ◌*◌, ◌/◌, ◌%◌, ◌<◌, ◌≤◌, List, ◌∷◌, length}
use Rattle.std.specs.Prelude.{OnErr}
use Rattle.std.proofs.Common.{Result, Ok, Err, sym, ap, ◌∙◌, arith, refl, subst}
use Rattle.std.proofs.Math.Path.{transport}
use Rattle.road_plan.specs.Plan.{Plan}
use Rattle.road_cells.specs.Cars.{array_of}
use Rattle.road_columns.specs.Private.Cars.{AreLonger, road_of}
use Rattle.road_columns.specs.Private.CarsAt.{from_place}
use Rattle.road_columns.specs.Private.Drawn.{drawn_word}
use Rattle.road_columns.specs.Private.Entering.{ArePlacesFrom}
use Rattle.road_columns.specs.Private.Held.{StandOn, cars_held, road_in}
use Rattle.road_columns.specs.Private.Interval.{HaveIntervalWords, MakesRoom}
use Rattle.road_columns.specs.Private.Running.{AreRunning}
use Rattle.road_columns.specs.Private.Step.{AreCarsInColumn}
use Rattle.road_columns.specs.declared.cars.CarColumns.{CarColumns}
use Rattle.road_columns.specs.declared.counts.Counts.{Counts}
use Rattle.road_columns.specs.declared.interval.IntervalWords.{IntervalWords}
use Rattle.road_columns.proofs.CarsStepped.{places_same}

-- a fact that holds anyway also holds if the result is an error
pub on_err : {T E P : Type 0} (r : Result T E) → P → OnErr r P
on_err (Ok x) holds = tt
on_err (Err e) holds = holds

-- the cars depend only on cells, speeds and numbers
same_cars : (cell cell' speed speed' number number' : ℕ → ℕ) (n : ℕ) → ((i : ℕ) → i < n → cell i ≡ cell' i) → ((i : ℕ) → i < n → speed i ≡ speed' i) → ((i : ℕ) → i < n → number i ≡ number' i)
    → cars_held cell speed number n ≡ cars_held cell' speed' number' n
same_cars cell cell' speed speed' number number' zero cells speeds numbers = refl
same_cars cell cell' speed speed' number number' (suc m) cells speeds numbers = λ j.
    record { number = numbers m (omega arith) j; cell = cells m (omega arith) j; speed = speeds m (omega arith) j }
    ∷ same_cars cell cell' speed speed' number number' m (λ i below. cells i (omega arith)) (λ i below. speeds i (omega arith)) (λ i below. numbers i (omega arith)) j

module _ (old new : CarColumns) (are : AreLonger old new) where
  pub cars_longer : (p : Plan) → AreCarsInColumn p old.head old.tail old.cells.items → AreCarsInColumn p new.head new.tail new.cells.items
  cars_longer p cars =
      let low = cars.low in
      let inside = cars.inside in
      let longer = are.longer in
      transport (λ j. AreCarsInColumn p (sym are.head j) (sym are.tail j) new.cells.items) (record {
        low = cars.low;
        order = cars.order;
        inside = omega arith;
        front = let order = cars.order in let same = are.cells (old.head - 1) (omega arith) in let far = cars.front in omega arith;
        behind = are.cells old.tail cars.inside ∙ cars.behind;
        falling = λ i from below.
            let a = are.cells i (omega arith) in
            let b = are.cells (i + 1) (omega arith) in
            let fall = cars.falling i from below in omega arith;
        before_exit = λ i from below. let a = are.cells i (omega arith) in let on = cars.before_exit i from below in omega arith;
      })

  pub places_longer : old.tail ≤ length old.cells.items → (sites : List ℕ) → ArePlacesFrom old.cells.items old.head old.tail sites old.places.items → ArePlacesFrom new.cells.items new.head new.tail sites new.places.items
  places_longer inside sites places =
      transport (λ j. ArePlacesFrom new.cells.items (sym are.head j) (sym are.tail j) sites (sym are.places j))
      (places_same old.cells.items new.cells.items old.head old.tail sites old.places.items (λ i from below. are.cells i (omega arith)) places)

  -- the road is the same
  pub road_longer : old.tail ≤ length old.cells.items → road_of new ≡ road_of old
  road_longer inside =
      (λ j. road_in new.cells.items new.speeds.items new.numbers.items (are.head j) (are.tail j))
      ∙ ap array_of (same_cars (from_place new.cells.items old.head) (from_place old.cells.items old.head) (from_place new.speeds.items old.head) (from_place old.speeds.items old.head) (from_place new.numbers.items old.head) (from_place old.numbers.items old.head) (old.tail - old.head)
      (λ i below. are.cells (old.head + i) (omega arith)) (λ i below. are.speeds (old.head + i) (omega arith)) (λ i below. are.numbers (old.head + i) (omega arith)))

-- the parts of a run still fit together
pub running_longer : (p : Plan) (sites : List ℕ) (t lo hi : ℕ) (cars cars' : CarColumns) (words words' : IntervalWords) (counts : Counts) → MakesRoom cars cars' words words'
    → AreRunning p sites t lo hi cars words counts → AreRunning p sites t lo hi cars' words' counts
running_longer p sites t lo hi cars cars' words words' counts made are =
    let st = are.standing in
    let longer = made.longer in
    let inside : cars.tail ≤ length cars.cells.items = let within = are.standing.cars_are.inside in omega arith in
    record {
      up_to = are.up_to;
      on_road = are.on_road;
      standing = record {
        source_is = λ stream place. ap (λ source. drawn_word source stream place) made.source ∙ st.source_is stream place;
        inlets_each = ap length made.inlets ∙ st.inlets_each;
        cars_are = cars_longer cars cars' longer p st.cars_are;
        places_are = places_longer cars cars' longer inside sites st.places_are;
      };
      stand = subst (StandOn lo hi) (sym (road_longer cars cars' longer inside)) are.stand;
      counts_are = are.counts_are;
      words_are = λ drawn.
          let same = made.drawn drawn in
          transport (λ j. HaveIntervalWords p (64 * (t / 64)) (t % 64) (sym same.0 j) (sym same.1 j))
          (are.words_are (ap (λ (w : IntervalWords). w.drawn) (sym same.1) ∙ drawn));
    }
