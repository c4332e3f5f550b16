-- Each entry belongs to one of the sessions, and the entries of each session are its own writes.
use Rattle.road_sessions.proofs.WrittenEntries.{any_written}
use Rattle.road_sessions.proofs.merging.journals_hold_what_was_written.Goals as goal

pub returns : goal.returns
returns c = any_written
