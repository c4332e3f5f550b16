use Rattle.tests_sessions.proofs.looking.a_look_takes_no_lock.Given as goal

-- the store that was just prepared
abbrev pub ghosts-look_during_a_write-J-Naming : goal.ghosts-look_during_a_write-J-Naming
ghosts-look_during_a_write-J-Naming g a = record { book = a.prepared.book; replica = a.prepared.replica; limit = a.prepared.limit }

abbrev pub ghosts-look_during_a_write-J-Ledger : goal.ghosts-look_during_a_write-J-Ledger
ghosts-look_during_a_write-J-Ledger g a = record { name = a.prepared.ledger.name; parts = a.prepared.ledger.parts }
