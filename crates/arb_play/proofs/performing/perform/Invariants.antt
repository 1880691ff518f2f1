-- The pages are named after the blank that was just opened.
use Rattle.arb_play.proofs.performing.perform.Given as goal

abbrev pub ghosts-perform_named : goal.ghosts-perform_named
ghosts-perform_named g a = record { table = a.blank.table; machine = a.blank.machine }
