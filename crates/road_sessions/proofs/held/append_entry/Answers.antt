-- The published history is the history before with the entry appended.
use Rattle.std.proofs.Common.{rules}
use Rattle.road_sessions.proofs.held.append_entry.Goals as goal

pub returns-clause-history : goal.returns-clause-history
returns-clause-history g c = search rules
