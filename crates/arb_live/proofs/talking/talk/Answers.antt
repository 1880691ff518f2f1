use Rattle.std.proofs.Common.{◌<◌, ◌≤◌, inr, length, length-take, refl, rules, sym, take, ◌∙◌}
use Rattle.arb_live.specs.Pieces.{reported}
use Rattle.arb_live.proofs.AnsweredLaws.{replied_prefix, replied_talk, replied_written}
use Rattle.arb_live.proofs.TalkedLaws.{asked_none, ended, ended_end, ended_last_write, ended_read, ended_write, ended_written, talked_next, talked_opening}
use Rattle.arb_live.proofs.talking.talk.Goals as goal

pub loop-turn-init : goal.loop-turn-init
loop-turn-init g c =
    let made = c.new-session.ensures in
    record {
      talked = talked_opening (reported c.args.orders c.args.topology.now) (g.S.TwoWay.told c.args.stream.now) c.new-session.result made.opening made.empty;
      ready = made.ready;
      orders = made.orders;
      reads = refl;
      writes = refl;
    }

pub returns-in_default-clause-talked : goal.returns-in_default-clause-talked
returns-in_default-clause-talked g c =
    ended_read c.loop-turn.invariant.talked (g.S.TwoWay.told c.read.new.self) (c.in_default.ensures {u = tt}).none

pub returns-in_default-clause-read : goal.returns-in_default-clause-read
returns-in_default-clause-read g c = λ _ same. (c.in_default.ensures {u = tt}).counts.err (same ∙ sym c.loop-turn.invariant.reads)

pub returns-in_default-clause-write_else : goal.returns-in_default-clause-write_else
returns-in_default-clause-write_else g c = inr ((c.in_default.ensures {u = tt}).counts.kept ∙ c.loop-turn.invariant.writes)

pub returns-in-Ok-reply_last-clause-talked : goal.returns-in-Ok-reply_last-clause-talked
returns-in-Ok-reply_last-clause-talked g c =
    ended c.loop-turn.invariant.talked (g.S.TwoWay.told c.read.new.self) (g.S.TwoWay.told c.reply_last.new.stream)
    (asked_none _ _ c.in-Ok.length c.read.new.buffer c.if-length-eq0.true c.in-Ok.ensures.came) (replied_written (c.in-Ok-reply_last.ensures {u = tt}) c.loop-turn.invariant.orders c.loop-turn.invariant.talked.at.talk)

pub returns-in-Ok-reply_last-clause-written : goal.returns-in-Ok-reply_last-clause-written
returns-in-Ok-reply_last-clause-written g c =
    let room : 0 < length c.read.new.buffer = search rules in
    ended_written c.loop-turn.invariant.talked (g.S.TwoWay.told c.read.new.self) (g.S.TwoWay.told c.reply_last.new.stream)
    (asked_none _ _ c.in-Ok.length c.read.new.buffer c.if-length-eq0.true c.in-Ok.ensures.came) (c.in-Ok.ensures.end c.if-length-eq0.true room) (replied_written (c.in-Ok-reply_last.ensures {u = tt}) c.loop-turn.invariant.orders c.loop-turn.invariant.talked.at.talk)

pub returns-in-Ok-reply_last-clause-end : goal.returns-in-Ok-reply_last-clause-end
returns-in-Ok-reply_last-clause-end g c =
    let room : 0 < length c.read.new.buffer = search rules in
    ended_end c.loop-turn.invariant.talked (g.S.TwoWay.told c.read.new.self) (g.S.TwoWay.told c.reply_last.new.stream) _
    (asked_none _ _ c.in-Ok.length c.read.new.buffer c.if-length-eq0.true c.in-Ok.ensures.came) (c.in-Ok.ensures.end c.if-length-eq0.true room) (replied_written (c.in-Ok-reply_last.ensures {u = tt}) c.loop-turn.invariant.orders c.loop-turn.invariant.talked.at.talk)

pub returns-in-Err-clause-talked : goal.returns-in-Err-clause-talked
returns-in-Err-clause-talked g c =
    ended_last_write c.loop-turn.invariant.talked (g.S.TwoWay.told c.read.new.self) (g.S.TwoWay.told c.reply_last.new.stream)
    (asked_none _ _ c.in-Ok.length c.read.new.buffer c.if-length-eq0.true c.in-Ok.ensures.came) (replied_prefix (c.in-Err.ensures {u = tt}) c.loop-turn.invariant.orders c.loop-turn.invariant.talked.at.talk)

pub returns-in_default-reply-clause-talked : goal.returns-in_default-reply-clause-talked
returns-in_default-reply-clause-talked g c =
    ended_write c.loop-turn.invariant.talked (g.S.TwoWay.told c.read.new.self) (g.S.TwoWay.told c.reply.new.stream) (take c.in-Ok.length c.read.new.buffer) c.in-Ok.ensures.came (replied_prefix (c.in_default-reply.ensures {u = tt}).replied c.loop-turn.invariant.orders c.loop-turn.invariant.talked.at.talk)

pub loop-turn-preserved : goal.loop-turn-preserved
loop-turn-preserved g c =
    let i = c.loop-turn.invariant in
    let told = g.S.TwoWay.told in
    let bytes = take c.in-Ok.length c.read.new.buffer in
    let read = c.in-Ok.ensures in
    let done = c.in-Ok-reply.ensures {u = tt} in
    let short : length bytes ≤ 4096 = search (rules, length-take) in
    record {
      talked = talked_next i.talked (told c.read.new.self) (told c.reply.new.stream) c.reply.new.self bytes read.came
          (replied_written done.replied i.orders i.talked.at.talk) (replied_talk done.replied i.orders i.talked.at.talk) done.begun done.counted short;
      ready = done.replied.ready;
      orders = done.replied.orders ∙ i.orders;
      reads = done.replied.counts.kept ∙ read.counts.ok ∙ i.reads;
      writes = done.replied.counts.ok ∙ read.counts.kept ∙ i.writes;
    }
