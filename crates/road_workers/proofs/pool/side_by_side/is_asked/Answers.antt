-- What was run from the cars near a stretch was run from the road.
use Rattle.std.specs.Prelude.{Result}
use Rattle.std.specs.declared.result.Result.TheVariants.{Ok, Err}
use Rattle.std.proofs.Common.{rules, ◌≡◌, ◌+◌, ◌-◌, ◌*◌, IfOk, subst}
use Rattle.road_cells.specs.declared.car.TheConstants.{GREATEST_SPEED}
use Rattle.road_ends.specs.Laws.{AgreeBetween}
use Rattle.road_workers.specs.Private.Stretches.{IsRunOf}
use Rattle.road_workers.proofs.StretchCars.{run-nearby}
use Rattle.road_workers.proofs.pool.side_by_side.is_asked.Goals as goal

-- what follows for each result follows if there is one
if_ok : {A E : Type 0} (P Q : A → Type 0) (answer : Result A E) → ((a : A) → P a → Q a) → IfOk answer P → IfOk answer Q
if_ok P Q (Ok a) follows holds = follows a holds
if_ok P Q (Err fault) follows holds = tt

pub returns : goal.returns
returns c is =
    let done = c.args.done.now in
    let stretch = done.stretch in
    let span = c.args.span.now in
    let road = c.args.road.now in
    let same_span : done.span ≡ span = let same = c.same.ensures in let test = c.if-not-same.ensures in grind rules in
    let agree : AgreeBetween (stretch.first - GREATEST_SPEED * span.steps) (stretch.end + GREATEST_SPEED * span.steps) done.near road = c.is_near.ensures is in
    if_ok (IsRunOf stretch.first stretch.end done.span done.near) (IsRunOf stretch.first stretch.end span road) done.answer
    (λ run was. run-nearby stretch.first stretch.end span done.near road run c.requires.order agree
    (subst (λ s. IsRunOf stretch.first stretch.end s done.near run) same_span was))
    done.right
