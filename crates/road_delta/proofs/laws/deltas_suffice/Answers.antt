-- Joining a delta gives the same as joining the whole set, and a delta leaves out only edits that are exceeded already.
use Rattle.road_delta.proofs.DeltaEdits as deltas
use Rattle.road_delta.proofs.laws.deltas_suffice.Goals as goal

pub returns : goal.returns
returns c = record { joined = deltas.join-beyond; left_out = deltas.left_out; own = deltas.beyond-own; winners = deltas.winners-beyond }
