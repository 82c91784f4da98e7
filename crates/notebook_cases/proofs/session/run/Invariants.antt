use Rattle.notebook_cases.proofs.session.run.Given as goal

abbrev pub ghosts-start : goal.ghosts-start
ghosts-start a = record { name = a.blank.name; parts = a.blank.parts }
