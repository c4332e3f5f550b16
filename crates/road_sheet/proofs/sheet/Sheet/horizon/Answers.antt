-- The step up to which the sheet is simulated.
use Rattle.std.proofs.Common.{rules}
use Rattle.road_sheet.proofs.sheet.Sheet.horizon.Goals as goal

pub returns-in-Of-clause-horizon : goal.returns-in-Of-clause-horizon
returns-in-Of-clause-horizon c = search rules
