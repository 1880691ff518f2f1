use Rattle.std.proofs.Common.{◌+◌, ℕ, None, false, arith, rules, refl, subst, sym, ◌∙◌}
use Rattle.std.specs.Prelude.{unwrap_or}
use Rattle.arb_play.specs.GivingUp.{IsAsked}
use Rattle.arb_play.specs.OwnOrders.{IsNextOwn}
use Rattle.arb_play.specs.Walking.{OwnLetThrough, Sound}
use Rattle.arb_play.proofs.OwnOrdersLaws.{asked_next, sound_next, through_next}
use Rattle.arb_play.proofs.walking.take_orders.Goals as goal

pub loop-index-init : goal.loop-index-init
loop-index-init g c =
    let script = c.args.script.now in
    let n = c.first-index.result in
    let id = c.args.client.now.id in
    let asks : ℕ → Type 0 = IsAsked (g.G.Gate.may_give_up c.args.gate.now) (g.G.Gate.may_let_through c.args.gate.now) in
    let next : IsNextOwn script id 0 n = subst (λ m. IsNextOwn script m 0 n) c.id.ensures (c.first-index.ensures script c.requires.index) in (
      c.requires.fresh.0,
      refl,
      refl,
      through_next (g.G.Gate.may_let_through c.args.gate.now) script None 0 n id next (λ k given below there own. absurd (omega (arith, below))),
      search rules,
      sound_next script 0 n id c.args.client.now.mine (record { full_from = None; gave_up = None; lost = false }) next (search rules),
      through_next asks script None 0 n id next (λ k given below there own. absurd (omega (arith, below))),
      next.within,
      next.own,
    )

pub loop-index-preserved : goal.loop-index-preserved
loop-index-preserved g c =
    let script = c.args.script.now in
    let n = c.after-index.result in
    let i = c.loop-index.index in
    let id = c.step.new.client.id in
    let lets : ℕ → Type 0 = g.G.Gate.may_let_through c.args.gate.now in
    let asks : ℕ → Type 0 = IsAsked (g.G.Gate.may_give_up c.args.gate.now) lets in
    let account = c.step.new.account in
    let mine = c.step.new.client.mine in
    let at = c.given_at-given.ensures in
    let was = c.loop-index.invariant in
    let same = sym c.step.ensures.id in
    let next : IsNextOwn script id (i + 1) n = subst (λ m. IsNextOwn script m (i + 1) n) (was.8 c.given_at-given.result at ∙ same) (c.after-index.ensures script c.given_at-given.result c.requires.index at) in
    let through = subst (λ m. OwnLetThrough lets script m (unwrap_or account.gave_up (i + 1))) same (c.step.ensures.let_through script at was.3) in
    let sound = subst (λ m. Sound script (i + 1) m mine account) same (c.step.ensures.sound script at was.5) in (
      c.step.ensures.out,
      c.step.ensures.id ∙ was.1,
      c.step.ensures.queue ∙ was.2,
      through_next lets script account.gave_up (i + 1) n id next through,
      c.step.ensures.given_up script at was.4,
      sound_next script (i + 1) n id mine account next sound,
      asked_next asks script i n id next c.step.ensures.asked (subst (λ m. OwnLetThrough asks script m i) same was.6),
      next.within,
      next.own,
    )

pub returns-clause-asked : goal.returns-clause-asked
returns-clause-asked g c = search rules

pub returns-clause-sound : goal.returns-clause-sound
returns-clause-sound g c = search rules
