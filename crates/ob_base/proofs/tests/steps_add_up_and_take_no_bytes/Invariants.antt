use Rattle.ob_base.proofs.tests.steps_add_up_and_take_no_bytes.Given as goal

abbrev pub ghosts-count : goal.ghosts-count
ghosts-count g a = record { name = a.blank.name; parts = a.blank.parts }
