-- The input of the draft's next step is that of its sheet, and the road after it is the sheet's next road.
use Rattle.std.proofs.Common.{◌∙◌, ap, sym}
use Rattle.std.proofs.Math.Numerals.{add-one}
use Rattle.road_ends.specs.Input.{input_next}
use Rattle.road_sheet.specs.Sheets.{next_input, state_of}
use Rattle.road_sheet.proofs.draft.Draft.push.Goals as goal

pub extend-requires-clause-input : goal.extend-requires-clause-input
extend-requires-clause-input c = c.requires.input ∙ ap next_input (sym c.self.view_is)

pub extend-requires-clause-road : goal.extend-requires-clause-road
extend-requires-clause-road c =
    let s = c.self.inside.sheet in
    c.in_ok-road.ensures.step ∙ ap input_next (c.requires.input ∙ ap next_input (sym c.self.view_is)) ∙ sym (ap (state_of s) (add-one s.horizon))
