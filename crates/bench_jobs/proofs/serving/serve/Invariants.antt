-- The pages are named after the blank that was just opened.
use Rattle.bench_jobs.proofs.serving.serve.Given as goal

abbrev pub ghosts-serve_named : goal.ghosts-serve_named
ghosts-serve_named g a = record { table = a.blank.table; machine = a.blank.machine }
