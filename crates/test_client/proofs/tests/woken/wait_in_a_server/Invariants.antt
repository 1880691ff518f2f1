-- The pages are named after the blank that is opened.
use Rattle.test_client.proofs.tests.woken.wait_in_a_server.Given as goal

abbrev pub ghosts-serves_seldom : goal.ghosts-serves_seldom
ghosts-serves_seldom g a = record { table = a.blank.table; machine = a.blank.machine }
