-- The loop in which a session takes the edits of its share: exactly the edits so far are written.
use Rattle.std.proofs.Common.{◌≡◌, take}
use Rattle.road_sessions.specs.Merges.{entries_written}
use Rattle.road_crowd.specs.Private.Works.{takes_of}
use Rattle.road_crowd.proofs.work.work.Given as goal

abbrev pub invariant-loop-edit : goal.invariant-loop-edit
invariant-loop-edit g l = record {
  number : l.session.number ≡ l.fn.session.number;
  written : entries_written l.session ≡ takes_of l.fn.session.number (take l.edit-index l.share);
}
