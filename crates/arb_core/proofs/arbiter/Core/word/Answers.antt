use Rattle.std.proofs.Common.{ap, ◌∙◌}
use Rattle.arb_model.specs.Arbiter.{Arbiter}
use Rattle.arb_model.specs.Words.{word_of}
use Rattle.arb_core.proofs.CoreLaws.{shown_words_of}
use Rattle.arb_core.proofs.arbiter.Core.word.Goals as goal

pub returns : goal.returns
returns c =
    c.word.ensures ∙ shown_words_of c.self.inside.state c.seats.result.now c.words.result.now c.self.invariant c.seats.ensures c.words.ensures.posted c.words.ensures.shows c.args.w c.requires
    ∙ ap (λ (a : Arbiter). word_of a.standing c.args.w) c.self.view_is
