use Rattle.tests_sessions.proofs.dashboard.dashboards_look_while_an_engineer_writes.Given as goal

-- the store that was just prepared
abbrev pub ghosts-day-J-Naming : goal.ghosts-day-J-Naming
ghosts-day-J-Naming g a = record { book = a.prepared.book; replica = a.prepared.replica; limit = a.prepared.limit }

abbrev pub ghosts-day-J-Ledger : goal.ghosts-day-J-Ledger
ghosts-day-J-Ledger g a = record { name = a.prepared.ledger.name; parts = a.prepared.ledger.parts }
