use Rattle.std.proofs.Common.{◌≡◌, of_calls, ap, ◌∙◌, refl}
use Rattle.arb_model.specs.Arbiter.{Arbiter}
use Rattle.arb_core.proofs.PostAllLaws.{handed_more, handed_none}
use Rattle.arb_core.proofs.arbiter.Core.post_all.Goals as goal

pub loop-w-preserved : goal.loop-w-preserved
loop-w-preserved g c =
    let l = c.loop-w in
    let told = c.in-Some.ensures {u = tt} in
    let standing : c.post_next.new.self.standing ≡ l.self.standing = ap (λ (a : Arbiter). a.standing) c.post_next.ensures.rest in
    record {
      callable = search of_calls;
      machine = ap (λ (a : Arbiter). a.machine) c.post_next.ensures.rest ∙ l.invariant.machine;
      standing = standing ∙ l.invariant.standing;
      handed = λ last calls. l.invariant.handed last (handed_more (λ before w value after. goal.F-step g before w value tt after) l.each c.each.new.self last l.self.standing c.post_next.new.self.standing l.self.posted c.post_next.new.self.posted c.in-Some.w c.in-Some.value
          told.arbiter.consistent.long told.next standing c.each.ensures calls);
    }

pub returns-clause-up_to_date : goal.returns-clause-up_to_date
returns-clause-up_to_date g c = c.in_default.ensures.up_to_date refl

pub returns-clause-handed : goal.returns-clause-handed
returns-clause-handed g c =
    let l = c.loop-w in
    l.invariant.handed l.each (handed_none (λ before w value after. goal.F-step g before w value tt after) l.each l.self.standing l.self.posted (c.in_default.ensures {u = tt}).next.0)
