use Rattle.road_bench.proofs.sessions.crowd.merges.Given as goal

-- the store that was just prepared
abbrev pub ghosts-is_merged-J-Naming : goal.ghosts-is_merged-J-Naming
ghosts-is_merged-J-Naming g a = record { book = a.prepared.book; replica = a.prepared.replica; limit = a.prepared.limit }

abbrev pub ghosts-is_merged-J-Ledger : goal.ghosts-is_merged-J-Ledger
ghosts-is_merged-J-Ledger g a = record { name = a.prepared.ledger.name; parts = a.prepared.ledger.parts }
