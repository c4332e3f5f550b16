use Rattle.tests_sessions.proofs.worked.open_and_run_script.Given as goal

-- the store that was just prepared
abbrev pub ghosts-run_script-J-Naming : goal.ghosts-run_script-J-Naming
ghosts-run_script-J-Naming g a = record { book = a.prepared.book; replica = a.prepared.replica; limit = a.prepared.limit }

abbrev pub ghosts-run_script-J-Ledger : goal.ghosts-run_script-J-Ledger
ghosts-run_script-J-Ledger g a = record { name = a.prepared.ledger.name; parts = a.prepared.ledger.parts }
