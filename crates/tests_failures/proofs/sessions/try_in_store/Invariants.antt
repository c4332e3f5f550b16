use Rattle.tests_failures.proofs.sessions.try_in_store.Given as goal

-- the store that was just prepared
abbrev pub ghosts-open_and_try-J-Naming : goal.ghosts-open_and_try-J-Naming
ghosts-open_and_try-J-Naming g a = record { book = a.prepared.book; replica = a.prepared.replica; limit = a.prepared.limit }

abbrev pub ghosts-open_and_try-J-Ledger : goal.ghosts-open_and_try-J-Ledger
ghosts-open_and_try-J-Ledger g a = record { name = a.prepared.ledger.name; parts = a.prepared.ledger.parts }
