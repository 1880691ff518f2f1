-- The pages are named after the blank that is opened.
use Rattle.test_client.proofs.tests.strange_calls.calls_and_waits_meet_strangers_at_the_end.Given as goal

abbrev pub ghosts-fault_at_the_end : goal.ghosts-fault_at_the_end
ghosts-fault_at_the_end g a = record { table = a.blank.table; machine = a.blank.machine }
