use Rattle.tests_threads.proofs.hosts.doubling.Given as goal

-- the name is that of the host that was just made
abbrev pub ghosts-doubled : goal.ghosts-doubled
ghosts-doubled g a = record { table = a.parts.table; system = a.parts.system; limit = a.parts.limit; passes = a.parts.passes }
