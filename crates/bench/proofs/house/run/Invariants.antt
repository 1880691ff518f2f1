-- The pages are named after the blank that was just opened.
use Rattle.bench.proofs.house.run.Given as goal

abbrev pub ghosts-run_named : goal.ghosts-run_named
ghosts-run_named g a = record { table = a.blank.table; machine = a.blank.machine }
