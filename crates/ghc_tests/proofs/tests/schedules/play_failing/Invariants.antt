use Rattle.ghc_tests.proofs.tests.schedules.play_failing.Given as goal

abbrev pub ghosts-play_to_script : goal.ghosts-play_to_script
ghosts-play_to_script g a = record { name = a.blank.name; parts = a.blank.parts }
