-- Settings are made of the settings of the plan's objects.
use Rattle.road_scenario.proofs.SettingsOfObjects.{settings-objects}
use Rattle.road_scenario.proofs.laws.settings_are_those_of_objects.Goals as goal

pub returns : goal.returns
returns c = settings-objects
