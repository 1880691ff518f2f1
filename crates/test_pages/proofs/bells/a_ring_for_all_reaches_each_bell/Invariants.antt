-- The pages are named after the blank that was just opened.
use Rattle.test_pages.proofs.bells.a_ring_for_all_reaches_each_bell.Given as goal

abbrev pub ghosts-rings_all : goal.ghosts-rings_all
ghosts-rings_all g a = record { table = a.blank.table; machine = a.blank.machine }
