-- Edits read from what was written for edits.
use Rattle.std.proofs.Common.{◌≡◌, ◌<◌, ◌^◌, ℕ, [], ◌∷◌, refl, Some}
use Rattle.std.proofs.lemmas.Bool.{lt-ltb}
use Rattle.std.proofs.lemmas.List.Elements.{All-head, All-tail}
use Rattle.road_plan.specs.declared.object.Object.{Object}
use Rattle.road_plan.specs.declared.object.Object.TheVariants.{Limit, Slow, Block, Inflow, Watch, Start}
use Rattle.road_scenario.specs.declared.edit.Value.{Value}
use Rattle.road_scenario.specs.declared.edit.Value.TheVariants.{Withdrawn, Put}
use Rattle.road_scenario.specs.declared.edit.Edit.{Edit}
use Rattle.road_format.specs.EditGrammar.{value_in, stamp_in, edit_in}
use Rattle.road_format.specs.EditLaws.{IsPutOf32Bits, HasItsBits, EditsReadBack}
use Rattle.road_format.specs.Fields.{number_in, short_number_in}
use Rattle.road_format.specs.ObjectGrammar.{kind_of, index_of, object_of}
use Rattle.road_format.specs.Replies.{number_data, value_data, edit_data}

number_reads_back : (n : ℕ) → n < 2 ^ 32 → number_in (number_data n) ≡ Some n
number_reads_back n fits = rw (lt-ltb n (2 ^ 32) fits) refl

short_number_reads_back : (n : ℕ) → n < 2 ^ 16 → short_number_in (number_data n) ≡ Some n
short_number_reads_back n fits = rw (lt-ltb n (2 ^ 16) fits) refl

object_reads_back : (o : Object) → object_of (kind_of o) (index_of o) ≡ Some o
object_reads_back (Limit zone) = refl
object_reads_back (Slow zone) = refl
object_reads_back (Block cell) = refl
object_reads_back (Inflow inlet) = refl
object_reads_back (Watch detector) = refl
object_reads_back (Start zone) = refl

value_reads_back : (v : Value) → IsPutOf32Bits v → value_in (value_data v) ≡ Some v
value_reads_back Withdrawn fits = refl
value_reads_back (Put n) fits = rw (number_reads_back n fits) refl

edit_reads_back : (e : Edit) → HasItsBits e → edit_in (edit_data e) ≡ Some e
unfolding edit_in stamp_in
edit_reads_back e has =
    rw (number_reads_back (index_of e.object) has.index) (rw (object_reads_back e.object) (rw (number_reads_back e.step has.step)
    (rw (short_number_reads_back e.stamp.number has.number) (rw (value_reads_back e.value has.value) refl))))

pub edits_read_back : EditsReadBack
edits_read_back [] all = refl
edits_read_back (e ∷ es) all =
    rw (edit_reads_back e (All-head HasItsBits e es all)) (rw (edits_read_back es (All-tail HasItsBits e es all)) refl)
