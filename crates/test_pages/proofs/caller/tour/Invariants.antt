-- The pages are named after the blank that is handed in.
use Rattle.test_pages.proofs.caller.tour.Given as goal

abbrev pub ghosts-named : goal.ghosts-named
ghosts-named a = record { table = a.blank.table; machine = a.blank.machine }
