-- The turn of an inlet: a car is inserted into the columns, or nothing changes.
use Rattle.std.specs.Prelude.{◌≡◌, ◌≢◌, ℕ, ◌+◌, ◌-◌, ◌*◌, ◌/◌, ◌<◌, ◌≤◌, ◌&&◌, true, false, List, [], length, slice_index}
use Rattle.std.specs.List.{slice_index_or}
use Rattle.std.proofs.Common.{sym, ap, ◌∙◌, arith, inl, inr, subst}
use Rattle.std.proofs.Math.Path.{transport}
use Rattle.std.proofs.lemmas.Bool.{cases_order}
use Rattle.road_plan.specs.Plan.{exit_start}
use Rattle.road_cells.specs.Array.{Array}
use Rattle.road_words.specs.Words.{word}
use Rattle.road_ends.specs.Entries.{car_number, inlet_stream, is_admitting}
use Rattle.road_columns.specs.Private.Cars.{AreAllOn, PutsCar}
use Rattle.road_columns.specs.Private.CarsAt.{AreCarsAt, from_place, is_between, with_first_entries}
use Rattle.road_columns.specs.Private.Drawn.{drawn_word}
use Rattle.road_columns.specs.Private.Entered.{number_with}
use Rattle.road_columns.specs.Private.EnteredList.{high16_in}
use Rattle.road_columns.specs.Private.Entering.{ArePlacesFrom, IsPutIn}
use Rattle.road_columns.specs.Private.Interval.{AreEntered, KeepsCar, KeepsRest, entered_of_words}
use Rattle.road_columns.specs.Private.Lanes.{index_of}
use Rattle.road_columns.specs.Private.LooseWords.{AreFalling, HaveLooseWords}
use Rattle.road_columns.specs.Private.Running.{AreReady}
use Rattle.road_columns.specs.Private.Step.{AreCarsInColumn}
use Rattle.road_columns.specs.declared.cars.CarColumns.{CarColumns}
use Rattle.road_columns.specs.declared.interval.IntervalWords.{IntervalWords}
use Rattle.road_columns.specs.declared.layout.Layout.{Layout}
use Rattle.road_columns.proofs.CarsEntered.{inlets_before_exit, inlets_first}
use Rattle.road_columns.proofs.ColumnPlaces.{places_put}
use Rattle.road_columns.proofs.FallingColumns.{all_before, all_past, loose_numbers, numbers_put, still_falling}
use Rattle.road_columns.proofs.FirstEntries.{inlet_cell, inlet_closed}
use Rattle.road_columns.proofs.InletTurns.{enters_here, taken_here}

module _ (g : Layout) (first k i : ℕ) (cars : CarColumns) (words : IntervalWords) (are : AreReady g first k i cars words) (early : k < 64) (below : i < length g.plan.now.inlets) where
  -- there is room for one more car
  pub room_for_one : cars.tail + 1 < length cars.cells.items
  room_for_one =
      let room = are.room in omega arith

  pub site_is : i < length g.sites.now
  site_is = let many = are.layout.sites_are.as_many in omega arith

  pub place_from : cars.head ≤ slice_index cars.places.items i
  place_from = are.standing.places_are.from i site_is

  pub place_to : slice_index cars.places.items i ≤ cars.tail
  place_to =
      let order = are.standing.cars_are.order in
      let from = are.standing.places_are.from i site_is in
      let within = (are.standing.places_are.each i site_is).within in omega arith

  -- the upper 16 bits of the inlet's word, read from its batch
  pub inlet_word : (t : ℕ) → first + k ≡ t → (batch : List ℕ) (index : ℕ) → batch ≡ slice_index_or words.inlets.items i [] → index ≡ index_of k
      → slice_index batch index ≡ word g.plan.now.words (inlet_stream i) t / 65536
  inlet_word t now batch index read at =
      let many = are.standing.inlets_each in
      (λ j. slice_index (read j) (at j)) ∙ are.words_are.inlet_words i k (omega arith) early ∙ ap (λ u. word g.plan.now.words (inlet_stream i) u / 65536) now

  module _ (t lo hi : ℕ) (a : Array) (on : AreAllOn (with_first_entries lo hi i g.plan.now g.settings.now t a) cars) where
    pub closed_on : (is_between lo hi (inlet_cell g.plan.now.inlets i) && is_admitting g.plan.now g.settings.now t (inlet_cell g.plan.now.inlets i) i) ≡ false
        → AreAllOn (with_first_entries lo hi (i + 1) g.plan.now g.settings.now t a) cars
    closed_on closed =
        inlet_closed g.plan.now g.settings.now t a lo hi i are.layout.within.inlets_apart below (cars.tail - cars.head) (from_place cars.cells.items cars.head) (from_place cars.speeds.items cars.head) (from_place cars.numbers.items cars.head) on closed

    pub taken_on : slice_index cars.cells.items (slice_index cars.places.items i - 1) ≡ slice_index g.sites.now i → AreAllOn (with_first_entries lo hi (i + 1) g.plan.now g.settings.now t a) cars
    taken_on taken =
        let front = are.standing.cars_are.front in
        taken_here g.plan.now g.settings.now t lo hi i a cars.cells.items cars.speeds.items cars.numbers.items g.sites.now cars.places.items cars.head cars.tail are.layout.within below
        (inlets_first g.plan.now g.regions.now g.sites.now are.layout.sites_are) are.standing.cars_are.low are.standing.cars_are.order are.standing.places_are on (omega arith) taken

  -- a car is inserted
  module _ (cars' : CarColumns) (number : ℕ) (free : slice_index cars.cells.items (slice_index cars.places.items i - 1) ≢ slice_index g.sites.now i)
      (put : PutsCar g.sites.now cars cars' (slice_index cars.places.items i) (slice_index g.sites.now i) number) where
    cars_put_in : AreCarsInColumn g.plan.now cars'.head cars'.tail cars'.cells.items
    cars_put_in =
        let c = are.standing.cars_are in
        let low = are.standing.cars_are.low in
        let order = are.standing.cars_are.order in
        let front = are.standing.cars_are.front in
        let room = room_for_one in
        let size = put.cells_each in
        let from = place_from in
        let to = place_to in
        let at = are.standing.places_are.each i site_is in
        transport (λ j. AreCarsInColumn g.plan.now (sym put.head j) (sym put.tail j) cars'.cells.items) (record {
          low = c.low;
          order = omega arith;
          inside = omega arith;
          front = let kept = put.cells.low (cars.head - 1) (omega arith) in omega arith;
          behind = ap (slice_index cars'.cells.items) (sym put.tail) ∙ put.behind;
          falling = still_falling cars.cells.items cars.head cars.tail (slice_index cars.places.items i) (slice_index g.sites.now i) c.falling c.order place_from at free cars'.cells.items put.cells;
          before_exit = λ q above less. elim (cases_order q (slice_index cars.places.items i)) as (λ _. slice_index cars'.cells.items q < exit_start g.plan.now) [
            | inl same ↦
                let here = ap (slice_index cars'.cells.items) same ∙ put.cells.here in
                let on_site = inlets_before_exit g.plan.now g.regions.now g.sites.now are.layout.within are.layout.sites_are i below in omega arith
            | inr (inl earlier) ↦
                let kept = put.cells.low q earlier in
                let was = are.standing.cars_are.before_exit q above (omega arith) in omega arith
            | inr (inr later) ↦
                let moved = put.cells.high q later (omega arith) in
                let was = are.standing.cars_are.before_exit (q - 1) (omega arith) (omega arith) in omega arith
          ];
        })

    places_put_in : ArePlacesFrom cars'.cells.items cars'.head cars'.tail g.sites.now cars'.places.items
    places_put_in = transport (λ j. ArePlacesFrom cars'.cells.items (sym put.head j) (sym put.tail j) g.sites.now cars'.places.items)
        (places_put cars.cells.items cars'.cells.items cars.head cars.tail (slice_index cars.places.items i) (slice_index g.sites.now i) are.standing.cars_are.order place_from put.cells (are.standing.places_are.each i site_is)
        g.sites.now cars.places.items cars'.places.items are.standing.places_are (put.places_each ∙ are.standing.places_are.as_many) put.places)

    pub put_on : (t lo hi : ℕ) (a : Array) → AreAllOn (with_first_entries lo hi i g.plan.now g.settings.now t a) cars
        → (is_between lo hi (inlet_cell g.plan.now.inlets i) && is_admitting g.plan.now g.settings.now t (inlet_cell g.plan.now.inlets i) i) ≡ true → number ≡ car_number t i
        → AreAllOn (with_first_entries lo hi (i + 1) g.plan.now g.settings.now t a) cars'
    put_on t lo hi a on admits named =
        transport (λ j. AreCarsAt (with_first_entries lo hi (i + 1) g.plan.now g.settings.now t a) (sym put.tail j - sym put.head j)
        (from_place cars'.cells.items (sym put.head j)) (from_place cars'.speeds.items (sym put.head j)) (from_place cars'.numbers.items (sym put.head j)))
        (enters_here g.plan.now g.settings.now t lo hi i a cars.cells.items cars.speeds.items cars.numbers.items g.sites.now cars.places.items cars.head cars.tail are.layout.within below
        (inlets_first g.plan.now g.regions.now g.sites.now are.layout.sites_are) are.standing.cars_are.low are.standing.cars_are.order are.standing.places_are on
        cars'.cells.items cars'.speeds.items cars'.numbers.items number free admits put.cells put.speeds put.numbers named)

    -- a car is inserted together with its words
    module _ (words' : IntervalWords) (width : ℕ) (wide : width ≡ length cars.cells.items + 8) (keeps : KeepsCar words words' cars.tail)
        (kept : words.worded ≡ true → cars.head ≤ slice_index cars.places.items i → AreFalling cars.cells.items cars.head cars.tail
        → IsPutIn cars.cells.items cars'.cells.items (slice_index cars.places.items i) cars.tail (slice_index g.sites.now i) 0
        → ((q : ℕ) → cars.head ≤ q → q < slice_index cars.places.items i → slice_index g.sites.now i < slice_index cars.cells.items q)
        → ((q : ℕ) → slice_index cars.places.items i ≤ q → q < cars.tail → slice_index cars.cells.items q < slice_index g.sites.now i)
        → HaveLooseWords g.plan.now.words first width k words.rows.items (entered_of_words words) cars.head cars.tail cars.cells.items (slice_index cars.numbers.items)
        → HaveLooseWords g.plan.now.words first width k words'.rows.items (entered_of_words words') cars.head (cars.tail + 1) cars'.cells.items (number_with (slice_index cars.places.items i) number (slice_index cars.numbers.items))) where
      rest : KeepsRest words words'
      rest = keeps.rest

      of_cars : words.worded ≡ true → HaveLooseWords g.plan.now.words first (length cars'.cells.items + 8) k words'.rows.items (entered_of_words words') cars'.head cars'.tail cars'.cells.items (slice_index cars'.numbers.items)
      of_cars is =
          let c = are.standing.cars_are in
          let at = are.standing.places_are.each i site_is in
          let to = place_to in
          transport (λ j. HaveLooseWords g.plan.now.words first ((wide ∙ ap (λ n. n + 8) (sym put.cells_each)) j) k words'.rows.items (entered_of_words words') (sym put.head j) (sym put.tail j) cars'.cells.items (slice_index cars'.numbers.items))
          (loose_numbers g.plan.now.words first width k words'.rows.items (entered_of_words words') cars.head (cars.tail + 1) cars'.cells.items
          (number_with (slice_index cars.places.items i) number (slice_index cars.numbers.items)) (slice_index cars'.numbers.items)
          (λ q less. numbers_put cars.numbers.items cars'.numbers.items (slice_index cars.places.items i) cars.tail number q put.numbers place_to less) keeps.entered.in_order
          (kept is place_from c.falling put.cells
          (all_past cars.cells.items cars.head cars.tail (slice_index cars.places.items i) (slice_index g.sites.now i) c.falling c.order place_from at free)
          (all_before cars.cells.items cars.head cars.tail (slice_index cars.places.items i) (slice_index g.sites.now i) c.falling c.order place_from at free)
          (subst (λ w. HaveLooseWords g.plan.now.words first w k words.rows.items (entered_of_words words) cars.head cars.tail cars.cells.items (slice_index cars.numbers.items)) (sym wide) (are.words_are.of_cars is))))

      pub put_ready : AreReady g first k (i + 1) cars' words'
      put_ready =
          let short = cars.short in
          let room = are.room in
          let beside = are.room_beside in
          let size = put.cells_each in
          let size_beside = keeps.rest.beside_each in
          let one = keeps.bound in
          let tail = put.tail in
          let head = put.head in
          let from = cars.from in
          record {
            layout = are.layout;
            standing = record {
              source_is = λ stream place. ap (λ source. drawn_word source stream place) rest.source ∙ are.standing.source_is stream place;
              inlets_each = ap length rest.inlets ∙ are.standing.inlets_each;
              cars_are = cars_put_in;
              places_are = places_put_in;
            };
            words_are = record {
              rows_each = rest.rows_each ∙ are.words_are.rows_each ∙ ap (λ n. 64 * (n + 8)) (sym put.cells_each);
              entered = subst (AreEntered words') (sym put.tail) keeps.entered;
              of_cars = λ is. of_cars (sym rest.worded ∙ is);
              inlet_words = λ j r inside soon. ap (λ xs. high16_in xs j r) rest.inlets ∙ are.words_are.inlet_words j r (subst (λ xs. j < length xs) rest.inlets inside) soon;
            };
            room = omega arith;
            room_beside = omega arith;
            free = λ is. are.free (sym rest.worded ∙ is);
          }
