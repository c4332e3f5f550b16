-- A region is a piece behind the next car or a blocked cell.
use Rattle.std.proofs.Common.{◌∙◌, ◌<◌, ◌≤◌, ◌-◌, slice_index, subst, arith, inl, inr}
use Rattle.std.proofs.lemmas.Bool.{cases_lt}
use Rattle.road_rules.specs.Speeds.{comes_about, slowed_speed}
use Rattle.road_columns.specs.Private.Motion.{chance_at}
use Rattle.road_columns.proofs.PieceWishes.{ahead_region, wish_region}
use Rattle.road_columns.proofs.regions.advance_region.Goals as goal

pub advance_between-requires-clause-falling : goal.advance_between-requires-clause-falling
advance_between-requires-clause-falling c q low below =
    let ahead = ahead_region c.args.piece.from c.min-front.result c.args.region.block q c.args.cells.now low c.min-front.ensures (λ more. c.requires.block (q - 1) (omega arith) (omega arith)) in
    let fall = c.requires.falling q low below in
    let block = c.requires.block q low below in
    omega arith

pub returns-clause-speeds : goal.returns-clause-speeds
returns-clause-speeds c q low below word right =
    let wish = wish_region c.args.piece.from c.min-front.result c.args.region.chances.limit c.args.region.block q c.args.cells.now c.args.speeds.now low c.min-front.ensures (λ more. c.requires.block (q - 1) (omega arith) (omega arith)) in
    c.advance_between.ensures.speeds q low below word (λ moves. right (subst (λ n. 0 < n) wish moves))
    ∙ (λ i. slowed_speed (wish i) (comes_about word (chance_at (slice_index c.args.speeds.now q) c.args.region.chances.standing c.args.region.chances.moving)))

pub advance_between-requires-clause-earlier : goal.advance_between-requires-clause-earlier
advance_between-requires-clause-earlier c = elim (cases_lt 0 c.args.piece.first) as (λ _. c.args.piece.first ≤ c.args.piece.from) [
  | inl some ↦
      let cars = c.args.piece.cars in
      let before = c.requires.begins.before (c.args.piece.first - 1) (omega arith) in
      let at = c.requires.words.places (c.args.piece.first - 1) (omega arith) in omega arith
  | inr none ↦ omega arith
]
