use Rattle.ghcdb.proofs.run_or_play.run_or_play.Given as goal

abbrev pub ghosts-run_or_play_counted : goal.ghosts-run_or_play_counted
ghosts-run_or_play_counted g a = record { name = a.blank.name; parts = a.blank.parts }

abbrev pub ghosts-run_or_play_counted-2 : goal.ghosts-run_or_play_counted-2
ghosts-run_or_play_counted-2 g a = record { name = a.blank.name; parts = a.blank.parts }
