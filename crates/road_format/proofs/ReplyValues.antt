-- The value written for an answer has no number with a fraction, so its text is known.
use Rattle.std.proofs.Common.{◌≡◌, ℕ, List, [], ◌∷◌, ◌++◌, map, false, refl, ap, ◌∙◌, Some, None}
use Rattle.serde_json.specs.Data.{Data, string}
use Rattle.serde_json.specs.Written.{has_float, compact_text}
use Rattle.road_scenario.specs.declared.edit.Edit.{Edit}
use Rattle.road_scenario.specs.declared.edit.Value as edits
use Rattle.road_scenario.specs.declared.edit.Value.TheVariants.{Withdrawn, Put}
use Rattle.road_format.specs.Replies.{Answer, Open, Refused, Horizon, Cells, Cars, Counted, Rows, Stamped, Edits, Touched, Sent, Heads, Delta, Crowd, car_data, value_data, edit_data, head_data, list_data, data_of, reply}

-- a list of values without fractions has none
list_has_no_float : {A : Type 0} (data_of_one : A → Data) → ((x : A) → has_float (data_of_one x) ≡ false) → (xs : List A) → has_float (list_data (map data_of_one xs)) ≡ false
list_has_no_float data_of_one none [] = refl
list_has_no_float data_of_one none (x ∷ xs) = rw (none x) (list_has_no_float data_of_one none xs)

value_has_no_float : (v : edits.Value) → has_float (value_data v) ≡ false
value_has_no_float Withdrawn = refl
value_has_no_float (Put n) = refl

edit_has_no_float : (e : Edit) → has_float (edit_data e) ≡ false
edit_has_no_float e = rw (value_has_no_float e.value) refl

no_float : (a : Answer) → has_float (data_of a) ≡ false
no_float (Open n) = refl
no_float (Refused refusal) = refl
no_float (Horizon n) = refl
no_float (Cells row) = refl
no_float (Cars cars) = rw (list_has_no_float car_data (λ car. refl) cars) refl
no_float (Counted cars speeds) = refl
no_float (Rows rows) = rw (list_has_no_float string (λ row. refl) rows) refl
no_float (Stamped stamp) = refl
no_float (Edits edits) = rw (list_has_no_float edit_data edit_has_no_float edits) refl
no_float (Touched None) = refl
no_float (Touched (Some step)) = refl
no_float (Sent message size) = refl
no_float (Heads message heads) = rw (list_has_no_float head_data (λ head. refl) heads) refl
no_float (Delta message edits) = rw (list_has_no_float edit_data edit_has_no_float edits) refl
no_float (Crowd edits journal row) = rw (list_has_no_float edit_data edit_has_no_float edits) refl

pub reply_is : (v : Data) (a : Answer) (text line : List ℕ) → (has_float v ≡ false → text ≡ compact_text v) → v ≡ data_of a → line ≡ text ++ 10 ∷ [] → line ≡ reply a
unfolding reply
reply_is v a text line written is ended =
    let plain : has_float v ≡ false = ap has_float is ∙ no_float a in
    ended ∙ ap (λ (s : List ℕ). s ++ 10 ∷ []) (written plain ∙ ap compact_text is)
