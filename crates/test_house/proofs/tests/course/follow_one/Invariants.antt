-- The pages are named after the blank that was just opened.
use Rattle.test_house.proofs.tests.course.follow_one.Given as goal

abbrev pub ghosts-in_house : goal.ghosts-in_house
ghosts-in_house g a = record { table = a.blank.table; machine = a.blank.machine }
