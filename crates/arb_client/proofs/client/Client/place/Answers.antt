use Rattle.std.proofs.Common.{sym, ◌∙◌}
use Rattle.arb_client.proofs.ReadingLaws.{read_place}
use Rattle.arb_client.proofs.client.Client.place.Goals as goal

pub returns-clause-thread : goal.returns-clause-thread
returns-clause-thread g c = λ low.
    let e = c.place_word.ensures in
    (read_place c.words_are_read_as_written.ensures.places g.K.Set.machine c.deref.result.now.topology c.place_word.new.self.seen c.args.self.now.id c.in-Some.word c.place_in_word.result c.unwrap_or.result c.deref.result.now.machine e.machine e.legal low
    (sym c.in-Some.is ∙ e.thread low) c.place_in_word.ensures c.unwrap_or.ensures).0

pub returns-clause-was : goal.returns-clause-was
returns-clause-was g c = λ low.
    let e = c.place_word.ensures in
    (read_place c.words_are_read_as_written.ensures.places g.K.Set.machine c.deref.result.now.topology c.place_word.new.self.seen c.args.self.now.id c.in-Some.word c.place_in_word.result c.unwrap_or.result c.deref.result.now.machine e.machine e.legal low
    (sym c.in-Some.is ∙ e.thread low) c.place_in_word.ensures c.unwrap_or.ensures).1
