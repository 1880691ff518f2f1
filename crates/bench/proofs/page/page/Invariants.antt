-- The pages are named after the blank that was just opened.
use Rattle.bench.proofs.page.page.Given as goal

abbrev pub ghosts-time_setting : goal.ghosts-time_setting
ghosts-time_setting g a = record { table = a.blank.table; machine = a.blank.machine }
