-- The three columns, the 0 behind all, and the places.
use Rattle.std.proofs.Common.{◌∙◌, ◌+◌, ◌≤◌, ℕ, List, length, slice_index, slice_set, ap, arith, refl, get_or-set_other, get_or-set_same}
use Rattle.std.proofs.lemmas.List.{length-set}
use Rattle.road_columns.specs.Private.Entering.{IsPutIn, place_beside}
use Rattle.road_columns.proofs.Refilled.{refilled}
use Rattle.road_columns.proofs.cars.CarColumns.put.Goals as goal

-- an inserted value stays if a 0 is written behind it
put_closed : (xs ys : List ℕ) (place tail v : ℕ) → place ≤ tail → IsPutIn xs ys place tail v 0 → IsPutIn xs (slice_set ys (tail + 1) 0) place tail v 0
put_closed xs ys place tail v order put = record {
  low = λ k below. get_or-set_other ys (tail + 1) k 0 0 (omega arith) ∙ put.low k below;
  here = get_or-set_other ys (tail + 1) place 0 0 (omega arith) ∙ put.here;
  high = λ k above to. get_or-set_other ys (tail + 1) k 0 0 (omega arith) ∙ put.high k above to;
}

pub returns : goal.returns
returns c =
    let is = refilled c.args.self.now.places c.deref_mut.result.now c.move_places.new.places c.deref_mut.ensures.value c.move_places.ensures.long in
    let tail = c.args.self.now.tail in
    let long = c.insert.ensures.long in
    let room = c.requires.room in
    record {
      head = refl;
      tail = refl;
      cells_each = length-set c.insert.new.column.items (tail + 1) 0 ∙ c.insert.ensures.long;
      places_each = ap length is ∙ c.move_places.ensures.long ∙ ap length c.deref_mut.ensures.value;
      cells = put_closed c.args.self.now.cells.items c.insert.new.column.items c.args.place tail c.args.cell c.requires.order (c.insert.ensures.put_in 0);
      speeds = c.insert-2.ensures.put_in 0;
      numbers = c.insert-3.ensures.put_in 0;
      behind = get_or-set_same c.insert.new.column.items (tail + 1) 0 0 (omega arith);
      places = λ d below. ap (λ xs. slice_index xs d) is ∙ c.move_places.ensures.places d below ∙ ap (λ xs. place_beside (slice_index c.args.sites.now d) c.args.cell (slice_index xs d)) c.deref_mut.ensures.value;
    }
