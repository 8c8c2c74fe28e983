use Rattle.bg_runs.proofs.running.run.Given as goal

-- the name is that of the host that was just made
abbrev pub ghosts-run_shared : goal.ghosts-run_shared
ghosts-run_shared g a = record { table = a.parts.table; system = a.parts.system; limit = a.parts.limit; passes = a.parts.passes }
