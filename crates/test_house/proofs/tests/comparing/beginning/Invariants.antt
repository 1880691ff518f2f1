-- The pages are named after the blank that is opened.
use Rattle.test_house.proofs.tests.comparing.beginning.Given as goal

abbrev pub ghosts-named : goal.ghosts-named
ghosts-named a = record { table = a.blank.table; machine = a.blank.machine }
