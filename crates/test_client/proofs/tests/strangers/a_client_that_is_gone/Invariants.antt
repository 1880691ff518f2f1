-- The pages are named after the blank that is opened.
use Rattle.test_client.proofs.tests.strangers.a_client_that_is_gone.Given as goal

abbrev pub ghosts-is_served : goal.ghosts-is_served
ghosts-is_served g a = record { table = a.blank.table; machine = a.blank.machine }
