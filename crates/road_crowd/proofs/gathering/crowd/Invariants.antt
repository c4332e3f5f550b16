use Rattle.road_crowd.proofs.gathering.crowd.Given as goal

-- the name of the store that was just prepared
abbrev pub ghosts-run_prepared-J-Naming : goal.ghosts-run_prepared-J-Naming
ghosts-run_prepared-J-Naming g a = record { book = a.prepared.book; replica = a.prepared.replica; limit = a.prepared.limit }

abbrev pub ghosts-run_prepared-J-Ledger : goal.ghosts-run_prepared-J-Ledger
ghosts-run_prepared-J-Ledger g a = record { name = a.prepared.ledger.name; parts = a.prepared.ledger.parts }
