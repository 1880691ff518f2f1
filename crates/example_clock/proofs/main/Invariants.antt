-- The pages are named after the blank that was just opened.
use Rattle.example_clock.proofs.main.Given as goal

abbrev pub ghosts-share : goal.ghosts-share
ghosts-share g a = record { table = a.blank.table; machine = a.blank.machine }
