-- The notation of objects: a list of a kind's name and an index.
use Rattle.std.specs.Prelude.{ℕ, List, codes, if◌then◌else◌, Option, Some, None}
use Rattle.std.specs.Str.{bytes_eq}
use Rattle.serde_json.specs.Data.{Data}
use Rattle.serde_json.specs.Find.{at, as_str}
use Rattle.road_plan.specs.declared.object.Object.{Object}
use Rattle.road_plan.specs.declared.object.Object.TheVariants.{Limit, Slow, Block, Inflow, Watch, Start}
use Rattle.road_format.specs.Fields.{◌>>=◌, number_in, items_at, two_items}

-- the name of an object's kind
abbrev pub kind_of : Object → List ℕ
kind_of (Limit zone) = codes "limit"
kind_of (Slow zone) = codes "slow"
kind_of (Block cell) = codes "block"
kind_of (Inflow inlet) = codes "inflow"
kind_of (Watch detector) = codes "watch"
kind_of (Start zone) = codes "start"

-- its index among the objects of its kind
abbrev pub index_of : Object → ℕ
index_of (Limit zone) = zone
index_of (Slow zone) = zone
index_of (Block cell) = cell
index_of (Inflow inlet) = inlet
index_of (Watch detector) = detector
index_of (Start zone) = zone

-- the object of a kind and an index
abbrev pub object_of : List ℕ → ℕ → Option Object
object_of kind index =
    if bytes_eq kind (codes "limit") then Some (Limit index)
    else if bytes_eq kind (codes "slow") then Some (Slow index)
    else if bytes_eq kind (codes "block") then Some (Block index)
    else if bytes_eq kind (codes "inflow") then Some (Inflow index)
    else if bytes_eq kind (codes "watch") then Some (Watch index)
    else if bytes_eq kind (codes "start") then Some (Start index)
    else None

-- the object of these two values, a kind's name and an index
abbrev pub object_from : Data × Data → Option Object
object_from both = as_str both.0 >>= λ kind. number_in both.1 >>= λ index. object_of kind index

-- the object at a field: a list of exactly two items
abbrev pub object_at : List ℕ → Data → Option Object
object_at field d = items_at field d >>= two_items >>= object_from

-- the object whose kind's name and index are the first two items of a list
abbrev pub object_in_front : Data → Option Object
object_in_front d = at 0 d >>= as_str >>= λ kind. at 1 d >>= number_in >>= λ index. object_of kind index
