-- The pages are named after the blank that was just opened.
use Rattle.test_journal.proofs.tests.reconciling.follow_one.Given as goal

abbrev pub ghosts-follow_named : goal.ghosts-follow_named
ghosts-follow_named g a = record { table = a.blank.table; machine = a.blank.machine }
