-- The pages are named after the blank that was just opened.
use Rattle.test_pages.proofs.reading.readers_read_what_they_were_told.Given as goal

abbrev pub ghosts-reads : goal.ghosts-reads
ghosts-reads g a = record { table = a.blank.table; machine = a.blank.machine }
