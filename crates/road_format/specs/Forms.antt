-- The forms of edits from outside.
use Rattle.std.specs.Prelude.{ℕ, List, Bool, ◌==◌, ◌&&◌, ◌||◌, not, nat_le}
use Rattle.std.specs.List.{list_all}
use Rattle.road_plan.specs.Objects.{is_start}
use Rattle.road_scenario.specs.declared.edit.Edit.{Edit}
use Rattle.road_format.specs.declared.form.TheConstants.{FIRST_FORM, LAST_FORM}

-- whether a form is known
abbrev pub is_known : ℕ → Bool
is_known form = nat_le FIRST_FORM form && nat_le form LAST_FORM

-- whether a command of this form may contain these edits: in the first form none may be of kind `start`
abbrev pub are_of_form : ℕ → List Edit → Bool
are_of_form form edits = not (form == FIRST_FORM) || list_all (λ e. not (is_start e.object)) edits
