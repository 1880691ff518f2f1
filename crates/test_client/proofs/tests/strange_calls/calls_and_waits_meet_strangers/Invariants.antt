-- The pages are named after the blank that is opened.
use Rattle.test_client.proofs.tests.strange_calls.calls_and_waits_meet_strangers.Given as goal

abbrev pub ghosts-fault_at_once : goal.ghosts-fault_at_once
ghosts-fault_at_once g a = record { table = a.blank.table; machine = a.blank.machine }
