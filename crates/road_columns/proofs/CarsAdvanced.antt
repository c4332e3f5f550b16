-- A step of the cars in columns, once they have entered.
use Rattle.std.specs.Prelude.{◌≡◌, ℕ, ◌+◌, ◌-◌, ◌*◌, ◌/◌, ◌%◌, ◌<◌, ◌≤◌, false, List, length, slice_index, slice_range}
use Rattle.std.proofs.Common.{sym, ap, ◌∙◌, arith, inr, subst}
use Rattle.std.proofs.Math.Path.{transport}
use Rattle.std.specs.List.{slice_index_or}
use Rattle.road_plan.specs.Plan.{exit_start}
use Rattle.road_cells.specs.Array.{Array}
use Rattle.road_rules.specs.Speeds.{comes_about, slowed_speed}
use Rattle.road_ends.specs.Input.{StepInput, input_next, input_speeds}
use Rattle.road_ends.proofs.StepByCars.{not_falling}
use Rattle.road_detector.specs.Passes.{passes_at, plus}
use Rattle.road_columns.specs.Columns.{AreColumnsOf}
use Rattle.road_columns.specs.Private.Cars.{AreCarsOf, MoveCars}
use Rattle.road_columns.specs.Private.CarsAt.{IsPlaceAt, from_place}
use Rattle.road_columns.specs.Private.Entering.{ArePlacesFrom, place_on}
use Rattle.road_columns.specs.Private.Interval.{AreEntered, entered_of_words}
use Rattle.road_columns.specs.Private.Lanes.{index_of}
use Rattle.road_columns.specs.Private.LooseWords.{HaveLooseWords}
use Rattle.road_columns.specs.Private.Motion.{chance_at}
use Rattle.road_columns.specs.Private.Pieces.{IsHigh16At, MovesCars}
use Rattle.road_columns.specs.Private.Regions.{AreEndsOf, IsOfRegion, region_at, wish_at}
use Rattle.road_columns.specs.Private.Running.{AreReady}
use Rattle.road_columns.specs.Private.Sites.{IsOfSteps, passes_of, totals_of_count}
use Rattle.road_columns.specs.Private.Step.{AreCarsInColumn, LetsLeave}
use Rattle.road_columns.specs.declared.cars.CarColumns.{CarColumns}
use Rattle.road_columns.specs.declared.interval.IntervalWords.{IntervalWords}
use Rattle.road_columns.specs.declared.layout.Layout.{Layout}
use Rattle.road_columns.specs.declared.regions.Region.{Region}
use Rattle.road_columns.proofs.ColumnPlaces.{range_long}
use Rattle.road_columns.proofs.CarsStepped.{cars_stepped, places_stepped, road_stepped, words_stepped}
use Rattle.road_columns.proofs.CountsStepped.{count_is, count_more}
use Rattle.road_columns.proofs.MovedCars.{apart, block_ahead, slow_enough, speed_is}
use Rattle.road_columns.proofs.RegionPlaces.{end_in, ends_fall, in_region, last_end}
use Rattle.road_columns.proofs.StepSites.{detector_each, detector_from, detector_to, ends_each, ends_from, rises_from, sites_before_exit}
use Rattle.road_columns.proofs.StretchColumns.{one_leaves}

-- the result of `advance_regions`
pub record AreAdvanced (regions : List Region) (ends row : List ℕ) (index n : ℕ) (beside : List ℕ) (batches : List (List ℕ)) (head tail : ℕ) (cells speeds cells' speeds' : List ℕ) : Type 0 where
  pub all : MovesCars head tail cells speeds cells' speeds'
  pub by_regions : (r q : ℕ) → IsOfRegion (length regions) ends r q → head ≤ q → (word : ℕ)
      → (0 < wish_at (region_at regions r).chances.limit (region_at regions r).block cells speeds q → IsHigh16At row index n beside batches q (word / 65536))
      → slice_index speeds' q ≡ slowed_speed (wish_at (region_at regions r).chances.limit (region_at regions r).block cells speeds q)
      (comes_about word (chance_at (slice_index speeds q) (region_at regions r).chances.standing (region_at regions r).chances.moving))

-- `ends` has the place of the first car before each region
abbrev pub ends_of : Layout → CarColumns → ℕ → List ℕ
ends_of g cars start = slice_range cars.places.items start (length g.sites.now)

-- the words of a step
abbrev pub row_of : CarColumns → IntervalWords → ℕ → List ℕ
row_of cars words k = slice_range words.rows.items (k * (length cars.cells.items + 8)) (k * (length cars.cells.items + 8) + (length cars.cells.items + 8))

module _ (g : Layout) (first k n : ℕ) (cars : CarColumns) (words : IntervalWords) (are : AreReady g first k n cars words) where
  pub short : g.plan.now.cells ≤ 65520
  short = let most = are.layout.within.short_enough in omega arith

  -- the places of the regions
  module _ (start : ℕ) (starts : start ≡ length g.plan.now.inlets + length g.plan.now.detectors) where
    pub end_from : (r : ℕ) → r < length g.regions.now → cars.head ≤ slice_index (ends_of g cars start) r
    end_from = ends_from g.plan.now g.regions.now g.sites.now are.layout.sites_are cars.cells.items cars.places.items cars.head cars.tail are.standing.places_are start starts

    pub end_each : (r : ℕ) → r < length g.regions.now → IsPlaceAt (cars.tail - cars.head) (from_place cars.cells.items cars.head) (region_at g.regions.now r).first (slice_index (ends_of g cars start) r - cars.head)
    end_each = ends_each g.plan.now g.regions.now g.sites.now are.layout.sites_are cars.cells.items cars.places.items cars.head cars.tail are.standing.places_are start starts

    pub end_last : slice_index (ends_of g cars start) 0 ≡ cars.tail
    end_last = last_end g.regions.now (ends_of g cars start) cars.head cars.tail cars.cells.items are.standing.cars_are.order end_from end_each are.layout.regions_are.some are.layout.regions_are.begin

    pub end_falls : (r : ℕ) → r + 1 < length g.regions.now → slice_index (ends_of g cars start) (r + 1) ≤ slice_index (ends_of g cars start) r
    end_falls = ends_fall g.regions.now (ends_of g cars start) cars.head cars.tail cars.cells.items are.standing.cars_are.order end_from end_each are.layout.regions_are.rising

    pub ends_are : AreEndsOf (length g.regions.now) cars.head cars.tail (ends_of g cars start)
    ends_are =
        let kept = are.standing.places_are.as_many in
        let sites = are.layout.sites_are.as_many in
        let many = range_long cars.places.items start (length g.sites.now) (omega arith) in
        record { as_many = omega arith; last = end_last; from_on = end_from; fall = end_falls }

    pub blocks_ahead : (r q : ℕ) → IsOfRegion (length g.regions.now) (ends_of g cars start) r q → cars.head ≤ q → slice_index cars.cells.items q < (region_at g.regions.now r).block
    blocks_ahead r q is low =
        let before = is.before_end in
        let end = end_in g.regions.now (ends_of g cars start) cars.head cars.tail cars.cells.items are.standing.cars_are.order end_from end_each r is.within in
        block_ahead g.plan.now g.settings.now g.regions.now r (slice_index cars.cells.items q) short are.layout.regions_are
        (in_region g.regions.now (ends_of g cars start) cars.head cars.tail cars.cells.items are.standing.cars_are.order end_from end_each r q is low) (are.standing.cars_are.before_exit q low (omega arith))

  -- the places of the detectors
  module _ (start : ℕ) (starts : start ≡ length g.plan.now.inlets) where
    pub watch_from : (d : ℕ) → d < length g.plan.now.detectors → cars.head ≤ slice_index cars.places.items (start + d)
    watch_from = detector_from g.plan.now g.regions.now g.sites.now are.layout.sites_are cars.cells.items cars.places.items cars.head cars.tail are.standing.places_are start starts

    pub watch_to : (d : ℕ) → d < length g.plan.now.detectors → slice_index cars.places.items (start + d) ≤ cars.tail
    watch_to d below = detector_to g.plan.now g.regions.now g.sites.now are.layout.sites_are cars.cells.items cars.places.items cars.head cars.tail are.standing.places_are start starts d below are.standing.cars_are.order

    pub watch_each : (d : ℕ) → d < length g.plan.now.detectors → IsPlaceAt (cars.tail - cars.head) (from_place cars.cells.items cars.head) (slice_index g.plan.now.detectors d) (slice_index cars.places.items (start + d) - cars.head)
    watch_each = detector_each g.plan.now g.regions.now g.sites.now are.layout.sites_are cars.cells.items cars.places.items cars.head cars.tail are.standing.places_are start starts

-- the cars move by the speeds of the definition
module _ (g : Layout) (t n : ℕ) (cars cars' : CarColumns) (words : IntervalWords) (are : AreReady g (64 * (t / 64)) (t % 64) n cars words) (start : ℕ) (starts : start ≡ length g.plan.now.inlets + length g.plan.now.detectors)
    (done : AreAdvanced g.regions.now (ends_of g cars start) (row_of cars words (t % 64)) (index_of (t % 64)) words.entered words.beside.items words.batches.items cars.head cars.tail cars.cells.items cars.speeds.items cars'.cells.items cars'.speeds.items)
    (head : cars'.head ≡ cars.head) (tail : cars'.tail ≡ cars.tail) (numbers : cars'.numbers.items ≡ cars.numbers.items) (places : cars'.places.items ≡ cars.places.items) where
  pub moves : MoveCars g.plan.now g.settings.now t cars cars'
  moves =
      let p = g.plan.now in
      let s = g.settings.now in
      let c = are.standing.cars_are in
      let rising = not_falling g.settings.now.blocks are.layout.fits.blocks_rise in
      let wide : cars.tail ≤ length cars.cells.items + 8 = let inside = are.standing.cars_are.inside in omega arith in
      let few = rises_from words.entered words.beside.items are.words_are.entered.rising in
      let few_cells = short g (64 * (t / 64)) (t % 64) n cars words are in
      let from = end_from g (64 * (t / 64)) (t % 64) n cars words are start starts in
      let each = end_each g (64 * (t / 64)) (t % 64) n cars words are start starts in
      record {
        head = head;
        tail = tail;
        numbers = numbers;
        places = places;
        cells_each = done.all.cells_each;
        moved = done.all.moved;
        others = done.all.other_cells;
        apart = apart p s t g.regions.now cars.cells.items cars.speeds.items cars'.speeds.items cars'.cells.items cars.numbers.items cars.head cars.tail (length cars.cells.items + 8) words.rows.items words.entered words.beside.items words.batches.items
            (ends_of g cars start) are.layout.fits few_cells rising are.layout.regions_are c wide few are.words_are.entered.rising words.worded are.words_are.of_cars are.free from each done.by_regions done.all.moved;
        slow = slow_enough p s t g.regions.now cars.cells.items cars.speeds.items cars'.speeds.items cars'.cells.items cars.numbers.items cars.head cars.tail (length cars.cells.items + 8) words.rows.items words.entered words.beside.items words.batches.items
            (ends_of g cars start) are.layout.fits few_cells rising are.layout.regions_are c wide few are.words_are.entered.rising words.worded are.words_are.of_cars are.free from each done.by_regions done.all.moved;
        speed_is = speed_is p s t g.regions.now cars.cells.items cars.speeds.items cars'.speeds.items cars'.cells.items cars.numbers.items cars.head cars.tail (length cars.cells.items + 8) words.rows.items words.entered words.beside.items words.batches.items
            (ends_of g cars start) are.layout.fits few_cells rising are.layout.regions_are c wide few are.words_are.entered.rising words.worded are.words_are.of_cars are.free from each done.by_regions done.all.moved;
      }

-- columns before the motion, after it, and once the first car has left and the places of the sites are updated
module _ (g : Layout) (t : ℕ) (cars moved cars' : CarColumns) (words : IntervalWords) (are : AreReady g (64 * (t / 64)) (t % 64) (length g.plan.now.inlets) cars words)
    (moves : MoveCars g.plan.now g.settings.now t cars moved) where
  -- only the first car can leave, so all others stay before the exit
  pub one_goes : (i : ℕ) → moved.head + 1 ≤ i → i < moved.tail → slice_index moved.cells.items i < exit_start g.plan.now
  one_goes i above below =
      let head = moves.head in
      let tail = moves.tail in
      one_leaves cars.cells.items moved.cells.items cars.head cars.tail (exit_start g.plan.now) are.standing.cars_are.before_exit moves.apart i (omega arith) (omega arith)

  module _ (leaves : LetsLeave (exit_start g.plan.now) moved.cells.items cars'.cells.items moved.head cars'.head moved.tail) (tail : cars'.tail ≡ moved.tail) (speeds : cars'.speeds.items ≡ moved.speeds.items) (numbers : cars'.numbers.items ≡ moved.numbers.items)
      (places_each : length cars'.places.items ≡ length moved.places.items)
      (places : (d : ℕ) → d < length g.sites.now → slice_index cars'.places.items d ≡ place_on moved.cells.items (slice_index g.sites.now d) (slice_index moved.places.items d)) where
    left : LetsLeave (exit_start g.plan.now) moved.cells.items cars'.cells.items cars.head cars'.head cars.tail
    left = transport (λ j. LetsLeave (exit_start g.plan.now) moved.cells.items cars'.cells.items (moves.head j) cars'.head (moves.tail j)) leaves

    tail_is : cars'.tail ≡ cars.tail
    tail_is = tail ∙ moves.tail

    pub left_ready : AreReady g (64 * (t / 64)) (t % 64 + 1) (length g.plan.now.inlets) cars' words
    left_ready =
        let p = g.plan.now in
        let c = are.standing.cars_are in
        let few_places = cars.short in
        let inside = are.standing.cars_are.inside in
        let few_cells = short g (64 * (t / 64)) (t % 64) (length g.plan.now.inlets) cars words are in
        let long : length cars'.cells.items ≡ length cars.cells.items = left.long ∙ moves.cells_each in
        let early : t % 64 < 64 = omega arith in
        let end = tail_is in
        let from = cars.from in
        let gone = left.from in
        record {
          layout = are.layout;
          standing = record {
            source_is = are.standing.source_is;
            inlets_each = are.standing.inlets_each;
            cars_are = subst (λ x. AreCarsInColumn p cars'.head x cars'.cells.items) (sym tail_is)
                (cars_stepped p cars.cells.items moved.speeds.items moved.cells.items cars'.cells.items cars.head cars'.head cars.tail few_cells c moves.cells_each long left.from left.to left.order
                moves.moved moves.apart moves.others left.kept left.rest left.front left.left left.stay);
            places_are = subst (λ x. ArePlacesFrom cars'.cells.items cars'.head x g.sites.now cars'.places.items) (sym tail_is)
                (places_stepped p cars.cells.items moved.speeds.items moved.cells.items cars'.cells.items cars.head cars'.head cars.tail few_cells c moves.cells_each long left.from left.to left.order
                moves.moved moves.apart moves.others left.kept left.rest left.front left.left left.stay g.sites.now cars.places.items cars'.places.items are.standing.places_are
                (places_each ∙ ap length moves.places ∙ are.standing.places_are.as_many)
                (sites_before_exit p g.regions.now g.sites.now are.layout.sites_are g.settings.now are.layout.within are.layout.regions_are)
                (λ d below. places d below ∙ ap (λ xs. place_on moved.cells.items (slice_index g.sites.now d) (slice_index xs d)) moves.places));
          };
          words_are = record {
            rows_each = are.words_are.rows_each ∙ ap (λ n. 64 * (n + 8)) (sym long);
            entered = subst (AreEntered words) (sym tail_is) are.words_are.entered;
            of_cars = λ is.
                transport (λ j. HaveLooseWords p.words (64 * (t / 64)) (sym long j + 8) (t % 64 + 1) words.rows.items (entered_of_words words) cars'.head (sym tail_is j) cars'.cells.items (slice_index (sym (numbers ∙ moves.numbers) j)))
                (words_stepped p cars.cells.items moved.speeds.items moved.cells.items cars'.cells.items cars.head cars'.head cars.tail few_cells c moves.cells_each long left.from left.to left.order
                moves.moved moves.apart moves.others left.kept left.rest left.front left.left left.stay p.words (64 * (t / 64)) (length cars.cells.items + 8) (t % 64) words.rows.items (entered_of_words words)
                (slice_index cars.numbers.items) early (are.words_are.of_cars is));
            inlet_words = are.words_are.inlet_words;
          };
          room = omega arith;
          room_beside = are.room_beside;
          free = are.free;
        }

    pub left_road : (b : Array) → length b ≤ g.plan.now.cells → AreCarsOf b cars
        → AreCarsOf (input_next (record { plan = g.plan.now; settings = g.settings.now; step = t; road = b })) cars'
    left_road b on_road columns =
        let p = g.plan.now in
        let few_cells = short g (64 * (t / 64)) (t % 64) (length g.plan.now.inlets) cars words are in
        let input : StepInput = record { plan = g.plan.now; settings = g.settings.now; step = t; road = b } in
        transport (λ j. AreColumnsOf (input_next input) (slice_range cars'.cells.items cars'.head (sym tail_is j)) (slice_range (sym speeds j) cars'.head (sym tail_is j)) (slice_range (sym (numbers ∙ moves.numbers) j) cars'.head (sym tail_is j)))
        (road_stepped p cars.cells.items moved.speeds.items moved.cells.items cars'.cells.items cars.head cars'.head cars.tail few_cells are.standing.cars_are moves.cells_each (left.long ∙ moves.cells_each) left.from left.to left.order
        moves.moved moves.apart moves.others left.kept left.rest left.front left.left left.stay g.settings.now t b cars.speeds.items cars.numbers.items on_road columns (moves.speed_is b on_road columns))

  -- the count at a detector follows from the place of its site
  module _ (d place count start : ℕ) (below : d < length g.plan.now.detectors) (starts : start ≡ length g.plan.now.inlets) (at : place ≡ slice_index cars.places.items (start + d)) (of_steps : IsOfSteps (t % 64) count) where
    behind : slice_index moved.cells.items cars.tail ≡ 0
    behind = moves.others cars.tail (inr (omega arith)) ∙ are.standing.cars_are.behind

    slow : (q : ℕ) → cars.head ≤ q → q < cars.tail → slice_index moved.speeds.items q ≤ 9
    slow q low high = let v = moves.slow q low high in omega arith

    some : 0 < slice_index g.plan.now.detectors d
    some = are.layout.within.sites_after_start d 0 below

    place_from : cars.head ≤ place
    place_from = let from = watch_from g (64 * (t / 64)) (t % 64) (length g.plan.now.inlets) cars words are start starts d below in omega arith

    place_to : place ≤ cars.tail
    place_to = let to = watch_to g (64 * (t / 64)) (t % 64) (length g.plan.now.inlets) cars words are start starts d below in omega arith

    pub counted_more : IsOfSteps (t % 64 + 1) (count + passes_of moved.cells.items moved.speeds.items (slice_index_or g.settings.now.watched d false) (slice_index g.plan.now.detectors d) place)
    counted_more = count_more cars.cells.items moved.speeds.items moved.cells.items cars.head cars.tail are.standing.cars_are.order behind slow
        (slice_index g.plan.now.detectors d) place (t % 64) count (slice_index_or g.settings.now.watched d false) some place_from place_to (omega arith) of_steps

    pub counted_is : (b : Array) → length b ≤ g.plan.now.cells → AreCarsOf b cars
        → totals_of_count (count + passes_of moved.cells.items moved.speeds.items (slice_index_or g.settings.now.watched d false) (slice_index g.plan.now.detectors d) place)
        ≡ plus (totals_of_count count) (passes_at (record { plan = g.plan.now; settings = g.settings.now; step = t; road = b }) (input_speeds (record { plan = g.plan.now; settings = g.settings.now; step = t; road = b })) d)
    counted_is b on_road columns =
        let inside = are.standing.cars_are.inside in
        let long = moves.cells_each in
        count_is cars.cells.items moved.speeds.items moved.cells.items cars.head cars.tail are.standing.cars_are.order behind slow g.plan.now g.settings.now t b cars.speeds.items cars.numbers.items on_road (omega arith) (omega arith) columns
        moves.moved moves.apart (moves.speed_is b on_road columns) d place (t % 64) count some place_from
        (subst (λ x. IsPlaceAt (cars.tail - cars.head) (from_place cars.cells.items cars.head) (slice_index g.plan.now.detectors d) (x - cars.head)) (sym at)
        (watch_each g (64 * (t / 64)) (t % 64) (length g.plan.now.inlets) cars words are start starts d below)) (omega arith) of_steps
