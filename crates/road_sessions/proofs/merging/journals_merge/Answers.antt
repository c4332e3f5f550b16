-- Plan, edits and horizon are proved separately, each by recursion on the journal.
use Rattle.road_sessions.proofs.MergedJournals.{sheet_of_replay}
use Rattle.road_sessions.proofs.merging.journals_merge.Goals as goal

pub returns : goal.returns
returns c = sheet_of_replay
