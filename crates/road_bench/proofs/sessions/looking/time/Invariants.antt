use Rattle.road_bench.proofs.sessions.looking.time.Given as goal

-- the store that was just prepared
abbrev pub ghosts-open_and_do_all-J-Naming : goal.ghosts-open_and_do_all-J-Naming
ghosts-open_and_do_all-J-Naming g a = record { book = a.prepared.book; replica = a.prepared.replica; limit = a.prepared.limit }

abbrev pub ghosts-open_and_do_all-J-Ledger : goal.ghosts-open_and_do_all-J-Ledger
ghosts-open_and_do_all-J-Ledger g a = record { name = a.prepared.ledger.name; parts = a.prepared.ledger.parts }
