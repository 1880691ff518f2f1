-- The pages are named after the blank that is opened.
use Rattle.test_client.proofs.tests.room.waits_once.Given as goal

abbrev pub ghosts-waits_for_room : goal.ghosts-waits_for_room
ghosts-waits_for_room g a = record { table = a.blank.table; machine = a.blank.machine }
