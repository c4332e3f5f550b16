use Rattle.tests_sessions.proofs.counted.runs.Given as goal

-- the store that was just prepared
abbrev pub ghosts-counts-J-Naming : goal.ghosts-counts-J-Naming
ghosts-counts-J-Naming g a = record { book = a.prepared.book; replica = a.prepared.replica; limit = a.prepared.limit }

abbrev pub ghosts-counts-J-Ledger : goal.ghosts-counts-J-Ledger
ghosts-counts-J-Ledger g a = record { name = a.prepared.ledger.name; parts = a.prepared.ledger.parts }
