-- The pages are named after the blank that is opened.
use Rattle.test_client.proofs.tests.room.goes_on_soon.Given as goal

abbrev pub ghosts-goes_on : goal.ghosts-goes_on
ghosts-goes_on g a = record { table = a.blank.table; machine = a.blank.machine }
