-- The pages are named after the blank that was just opened.
use Rattle.test_pages.proofs.bells.a_post_wakes_its_thread.Given as goal

abbrev pub ghosts-on_two_threads : goal.ghosts-on_two_threads
ghosts-on_two_threads g a = record { table = a.blank.table; machine = a.blank.machine }
