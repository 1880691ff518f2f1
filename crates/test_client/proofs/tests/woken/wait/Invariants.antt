-- The pages are named after the blank that is opened.
use Rattle.test_client.proofs.tests.woken.wait.Given as goal

abbrev pub ghosts-waits_on : goal.ghosts-waits_on
ghosts-waits_on g a = record { table = a.blank.table; machine = a.blank.machine }
