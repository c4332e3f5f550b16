-- A run that is over early ends with the fault of its cause.
use Rattle.std.proofs.Common.{ap, sym}
use Rattle.road_serve.specs.Faults.{early_fault}
use Rattle.road_serve.proofs.faults.EarlyEnd.fault.Goals as goal

pub returns-in-TooMany : goal.returns-in-TooMany
returns-in-TooMany c = sym (ap early_fault c.in-TooMany.is)
