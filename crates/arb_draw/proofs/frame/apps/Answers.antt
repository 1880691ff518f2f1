use Rattle.std.proofs.Common.{◌≡◌, ◌∙◌, arith, ap, ◌++◌, ◌∷◌, [], sym, ℕ}
use Rattle.std.specs.Prelude.{filter}
use Rattle.std.proofs.lemmas.List.FromFn.{filter_of_map_range_with_len_more}
use Rattle.arb_share.specs.Limits.{applications}
use Rattle.arb_draw.specs.declared.cell.AppThreads.{AppThreads}
use Rattle.arb_draw.specs.Frames.{apps_below, apps_of, has_threads, thread_count}
use Rattle.arb_draw.proofs.frame.apps.Goals as goal

pub loop-app-preserved : goal.loop-app-preserved
loop-app-preserved c =
    let s = c.args.core.now.standing in
    let i = c.loop-app.invariant in
    let entry : ℕ → AppThreads = λ app. record { app = app; threads = thread_count s app } in
    record {
      apps = c.keep.ensures.apps ∙ (ap (λ xs. xs ++ filter has_threads (record { app = c.loop-app.app; threads = c.thread_count-threads.result } ∷ [])) i.apps
          ∙ (ap (λ n. apps_below s c.loop-app.app ++ filter has_threads (record { app = c.loop-app.app; threads = n } ∷ [])) c.thread_count-threads.ensures
          ∙ sym (filter_of_map_range_with_len_more has_threads entry 0 c.loop-app.app c.loop-app.app (omega arith))));
      count = omega (arith, c.keep.ensures.count, i.count);
    }

pub returns : goal.returns
unfolding apps_of
returns c =
    let at_end : c.loop-app.app ≡ applications = omega arith in
    c.loop-app.invariant.apps ∙ ap (apps_below c.args.core.now.standing) at_end
