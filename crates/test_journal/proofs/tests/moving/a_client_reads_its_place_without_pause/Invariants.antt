-- The pages are named after the blank that is handed in.
use Rattle.test_journal.proofs.tests.moving.a_client_reads_its_place_without_pause.Given as goal

abbrev pub ghosts-reads_beside : goal.ghosts-reads_beside
ghosts-reads_beside g a = record { table = a.blank.table; machine = a.blank.machine }
