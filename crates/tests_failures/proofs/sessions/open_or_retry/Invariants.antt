use Rattle.tests_failures.proofs.sessions.open_or_retry.Given as goal

-- the store that was just prepared
abbrev pub ghosts-opens-J-Naming : goal.ghosts-opens-J-Naming
ghosts-opens-J-Naming g a = record { book = a.prepared.book; replica = a.prepared.replica; limit = a.prepared.limit }

abbrev pub ghosts-opens-J-Ledger : goal.ghosts-opens-J-Ledger
ghosts-opens-J-Ledger g a = record { name = a.prepared.ledger.name; parts = a.prepared.ledger.parts }
