use Rattle.tests_threads.proofs.hosts.meeting_at.Given as goal

-- the name is that of the host that was just made
abbrev pub ghosts-two_meet : goal.ghosts-two_meet
ghosts-two_meet g a = record { table = a.parts.table; system = a.parts.system; limit = a.parts.limit; passes = a.parts.passes }
