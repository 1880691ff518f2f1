use Rattle.arb_script.proofs.LineLaws.{client_at, thread_first}
use Rattle.arb_script.proofs.usual.usual_thread.Goals as goal

pub returns-clause-client : goal.returns-clause-client
returns-clause-client c =
    let found = c.in_ok-app-2.ensures {u = tt} in
    rw found.1
    (client_at _ _ _ (thread_first c.args.text.now c.in_ok-app.behind.now c.in_ok-thread.after.now c.in_ok-app.app c.in_ok-thread.thread (c.in_ok-app.ensures {u = tt}) (c.in_ok-thread.ensures {u = tt}) found.0.0 found.0.1))
