-- The derived order of objects is the order by kind and index, and it distinguishes objects.
use Rattle.std.specs.Prelude.{◌≡◌, ℕ, zero, suc, refl}
use Rattle.std.specs.Ordering.{nat_cmp}
use Rattle.std.proofs.Common.{sym, ap, ◌∙◌, rules}
use Rattle.std.specs.Cmp.Rules.{comparing}
use Rattle.lattice_core.specs.Exact.{IsExact, pair_cmp}
use Rattle.lattice_core.specs.Instances.ExactOrders.{exact_by, exact_nat, exact_pair}
use Rattle.road_plan.specs.Objects.{object_order, order_key}
use Rattle.road_plan.specs.declared.object.Object.{Object}
use Rattle.road_plan.specs.declared.object.Object.TheVariants.{Limit, Slow, Block, Inflow, Watch, Start}
use Rattle.road_plan.specs.contracts.object.ObjectOrd.TheImpl as derived

-- the derived order of objects is the order of their keys
pub ordered : (x y : Object) → derived.ghosts.cmp x y ≡ object_order x y
ordered x y = search (comparing, rules)

-- the object of a key
abbrev pub object_of : ℕ × ℕ → Object
object_of (zero, i) = Limit i
object_of (suc zero, i) = Slow i
object_of (suc (suc zero), i) = Block i
object_of (suc (suc (suc zero)), i) = Inflow i
object_of (suc (suc (suc (suc zero))), i) = Watch i
object_of (suc (suc (suc (suc (suc k)))), i) = Start i

-- an object is the object of its key
pub object_back : (x : Object) → object_of (order_key x) ≡ x
object_back (Limit i) = refl
object_back (Slow i) = refl
object_back (Block i) = refl
object_back (Inflow i) = refl
object_back (Watch i) = refl
object_back (Start i) = refl

-- objects with the same key are the same
pub same_object : (x y : Object) → order_key x ≡ order_key y → x ≡ y
same_object x y e = sym (object_back x) ∙ ap object_of e ∙ object_back y

-- the order of objects distinguishes them
pub object_exact : IsExact derived.ghosts.cmp
object_exact =
    exact_by order_key derived.ghosts.cmp (pair_cmp nat_cmp nat_cmp) ordered same_object
    (exact_pair nat_cmp nat_cmp exact_nat exact_nat)
