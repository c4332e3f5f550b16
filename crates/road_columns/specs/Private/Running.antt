-- A run under way, by its parts.
use Rattle.std.specs.Prelude.{◌≡◌, ℕ, ◌+◌, ◌*◌, ◌/◌, ◌%◌, ◌≤◌, List, true, false, length}
use Rattle.std.specs.Arc.{arc_value}
use Rattle.road_plan.specs.Plan.{IsWithinLimits, Plan}
use Rattle.road_plan.specs.Settings.{Fits}
use Rattle.road_plan.specs.declared.limits.TheConstants.{GREATEST_HORIZON}
use Rattle.road_words.specs.Words.{word}
use Rattle.road_columns.specs.UnderWay.{UnderWay}
use Rattle.road_columns.specs.Private.Cars.{road_of}
use Rattle.road_columns.specs.Private.Counts.{AreCounts, totals_in}
use Rattle.road_columns.specs.Private.Drawn.{drawn_word}
use Rattle.road_columns.specs.Private.Entering.{ArePlacesFrom}
use Rattle.road_columns.specs.Private.Held.{StandOn}
use Rattle.road_columns.specs.Private.Interval.{HaveIntervalWords}
use Rattle.road_columns.specs.Private.Regions.{AreFree}
use Rattle.road_columns.specs.Private.Step.{AreCarsInColumn, AreRegionsOf, AreSitesOf}
use Rattle.road_columns.specs.declared.cars.CarColumns.{CarColumns}
use Rattle.road_columns.specs.declared.counts.Counts.{Counts}
use Rattle.road_columns.specs.declared.interval.IntervalWords.{IntervalWords}
use Rattle.road_columns.specs.declared.layout.Layout.{Layout}
use Rattle.road_columns.specs.declared.under_way.UnderWay.TheInside.{Inside}

-- a run as callers see it
abbrev pub run_of : Inside → UnderWay
run_of x = record {
  plan = arc_value x.plan;
  settings = arc_value x.settings;
  step = x.step;
  lo = x.stretch.first;
  hi = x.stretch.end;
  road = road_of x.cars;
  totals = totals_in x.counts.passes.items x.counts.totals.items;
}

-- a layout has the regions and sites of its plan under its settings
pub record IsLayout (g : Layout) : Type 0 where
  pub within : IsWithinLimits g.plan.now
  pub fits : Fits g.plan.now g.settings.now
  pub regions_are : AreRegionsOf g.plan.now g.settings.now g.regions.now
  pub slowing_is : g.slowing ≡ false → AreFree g.regions.now
  pub sites_are : AreSitesOf g.plan.now g.regions.now g.sites.now

-- the columns hold the cars, and the stored places of the sites are right
pub record AreStanding (p : Plan) (sites : List ℕ) (cars : CarColumns) (words : IntervalWords) : Type 0 where
  pub source_is : (stream place : ℕ) → drawn_word words.source stream place ≡ word p.words stream place
  pub inlets_each : length words.inlets.items ≡ length p.inlets
  pub cars_are : AreCarsInColumn p cars.head cars.tail cars.cells.items
  pub places_are : ArePlacesFrom cars.cells.items cars.head cars.tail sites cars.places.items

-- cars and words are ready at step k of the interval that starts at step `first`, once n inlets have had their turn:
-- the words are there, also those of the cars if any is slowed, and there is room for the cars of the other inlets
pub record AreReady (g : Layout) (first k n : ℕ) (cars : CarColumns) (words : IntervalWords) : Type 0 where
  pub layout : IsLayout g
  pub standing : AreStanding g.plan.now g.sites.now cars words
  pub words_are : HaveIntervalWords g.plan.now first k cars words
  pub room : cars.tail + length g.plan.now.inlets + 1 ≤ length cars.cells.items + n
  pub room_beside : words.entered + length g.plan.now.inlets ≤ length words.beside.items + n
  pub free : words.worded ≡ false → AreFree g.regions.now

-- the parts of a run fit together before step t, on the cells from lo to before hi
pub record AreRunning (p : Plan) (sites : List ℕ) (t lo hi : ℕ) (cars : CarColumns) (words : IntervalWords)
    (counts : Counts) : Type 0 where
  pub up_to : t ≤ GREATEST_HORIZON
  pub on_road : hi ≤ p.cells
  pub standing : AreStanding p sites cars words
  pub stand : StandOn lo hi (road_of cars)
  pub counts_are : AreCounts (length p.detectors) t counts.passes.items counts.totals.items
  pub words_are : words.drawn ≡ true → HaveIntervalWords p (64 * (t / 64)) (t % 64) cars words

-- the parts of this run fit together
pub record IsRunning (x : Inside) : Type 0 where
  pub within : IsWithinLimits (arc_value x.plan)
  pub fits : Fits (arc_value x.plan) (arc_value x.settings)
  pub regions_are : AreRegionsOf (arc_value x.plan) (arc_value x.settings) x.kept.regions.items
  pub slowing_is : x.kept.slowing ≡ false → AreFree x.kept.regions.items
  pub sites_are : AreSitesOf (arc_value x.plan) x.kept.regions.items x.kept.sites.items
  pub running : AreRunning (arc_value x.plan) x.kept.sites.items x.step x.stretch.first x.stretch.end x.cars x.words
      x.counts
