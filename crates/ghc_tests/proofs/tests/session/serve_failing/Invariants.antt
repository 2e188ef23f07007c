use Rattle.ghc_tests.proofs.tests.session.serve_failing.Given as goal

abbrev pub ghosts-serve_script : goal.ghosts-serve_script
ghosts-serve_script g a = record { name = a.blank.name; parts = a.blank.parts }
