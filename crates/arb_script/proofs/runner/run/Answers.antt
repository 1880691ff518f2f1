use Rattle.std.proofs.Common.{rules, refl, inr}
use Rattle.std.specs.Io.KnownBytes.{Appends}
use Rattle.arb_share.specs.Streams.{AppendsPrefix}
use Rattle.arb_script.specs.Report.{report}
use Rattle.arb_script.proofs.RunLaws.{of_accepted}
use Rattle.arb_script.proofs.runner.run.Goals as goal

-- (what an edit makes wrong has an answer, so that it is refused at once)

pub returns-in-Ok-clause-written : goal.returns-in-Ok-clause-written
returns-in-Ok-clause-written g c =
    of_accepted (g.R.Source.remaining c.args.reader.now) c.in_ok-script.script
    (λ x. Appends (g.W.Sink.contents c.args.writer.now) (g.W.Sink.contents c.write_report.new.writer) (report c.args.topology.now x))
    (c.in_ok-script.ensures {u = tt}).accepted
    (c.in-Ok.ensures {u = tt}).written

pub returns-in-Ok-clause-write_else : goal.returns-in-Ok-clause-write_else
returns-in-Ok-clause-write_else g c = inr (c.in-Ok.ensures {u = tt}).ok

pub returns-clause-write : goal.returns-clause-write
returns-clause-write g c = λ _. (c.in-Err.ensures {u = tt}).err

pub returns-clause-prefix : goal.returns-clause-prefix
returns-clause-prefix g c = λ _.
    of_accepted (g.R.Source.remaining c.args.reader.now) c.in_ok-script.script
    (λ x. AppendsPrefix (g.W.Sink.contents c.args.writer.now) (g.W.Sink.contents c.write_report.new.writer) (report c.args.topology.now x))
    (c.in_ok-script.ensures {u = tt}).accepted
    (c.in-Err.ensures {u = tt}).prefix

pub returns-in_err-script-clause-write_else : goal.returns-in_err-script-clause-write_else
returns-in_err-script-clause-write_else g c = inr refl

pub returns-in_err-script-clause-untouched : goal.returns-in_err-script-clause-untouched
returns-in_err-script-clause-untouched g c = search rules
