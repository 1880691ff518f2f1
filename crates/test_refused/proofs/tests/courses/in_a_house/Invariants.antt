-- The pages are named after the blank that was just opened.
use Rattle.test_refused.proofs.tests.courses.in_a_house.Given as goal

abbrev pub ghosts-in_named : goal.ghosts-in_named
ghosts-in_named g a = record { table = a.blank.table; machine = a.blank.machine }
