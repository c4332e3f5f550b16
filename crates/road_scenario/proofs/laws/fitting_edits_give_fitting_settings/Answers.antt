-- The winners are within the ranges, and so are the numbers that they set.
use Rattle.road_scenario.proofs.FittingSettings.{Fits-settings_of}
use Rattle.road_scenario.proofs.laws.fitting_edits_give_fitting_settings.Goals as goal

pub returns : goal.returns
returns c = λ plan edits step limits each. Fits-settings_of plan limits edits each step
