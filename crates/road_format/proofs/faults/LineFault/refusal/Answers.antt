-- A line that is not JSON is refused as not JSON.
use Rattle.std.proofs.Common.{rules}
use Rattle.road_format.proofs.faults.LineFault.refusal.Goals as goal

pub returns-in-NotJson : goal.returns-in-NotJson
returns-in-NotJson c = search rules
