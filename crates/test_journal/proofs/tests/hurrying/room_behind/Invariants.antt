-- The pages are named after the blank that is opened.
use Rattle.test_journal.proofs.tests.hurrying.room_behind.Given as goal

abbrev pub ghosts-serves_in_a_hurry : goal.ghosts-serves_in_a_hurry
ghosts-serves_in_a_hurry g a = record { table = a.blank.table; machine = a.blank.machine }
