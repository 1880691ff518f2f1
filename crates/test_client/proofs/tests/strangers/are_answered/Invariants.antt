-- The pages are named after the blank that is opened.
use Rattle.test_client.proofs.tests.strangers.are_answered.Given as goal

abbrev pub ghosts-is_answered : goal.ghosts-is_answered
ghosts-is_answered g a = record { table = a.blank.table; machine = a.blank.machine }
