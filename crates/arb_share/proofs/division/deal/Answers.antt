use Rattle.std.proofs.Common.{◌≡◌, ◌+◌, ◌-◌, ◌<◌, ◌≤◌, get_or, arith, ◌∙◌}
use Rattle.std.specs.Prelude.{min}
use Rattle.std.proofs.lemmas.List.{length-set, length-map}
use Rattle.std.proofs.lemmas.Bool.Decides.{nat_tests}
use Rattle.arb_share.proofs.EvenLoop.{InRound-next, InRound-pass, InRound-capped, InRound-last}
use Rattle.arb_share.proofs.division.deal.Goals as goal
use Rattle.arb_share.proofs.division.deal.Goals.{then-wants+then-wanting-left, else-wants, else-wants-via-then-wants+else-wanting-left, else-wants-via-else-wants}

pub turns-init : goal.turns-init
turns-init c =
    let covered : c.wanted.result ≤ c.args.supply = rw (c.wanted.ensures, c.after_rounds-shares.ensures) c.rounds_covered-rounds.ensures.covered in
    let given : c.args.supply - (c.args.supply - c.wanted.result) + min 0 (c.args.supply - c.wanted.result) ≡ c.wanted.result = omega (arith, covered) in
    record {
      long = rw c.after_rounds-shares.ensures (length-map c.args.demands.now _);
      few = omega arith;
      counted = omega arith;
      round = rw (given, c.wanted.ensures, c.after_rounds-shares.ensures) (InRound-capped c.args.demands.now c.args.supply c.rounds_covered-rounds.result c.rounds_covered-rounds.ensures.covered);
    }

pub turns-preserved : goal.turns-preserved
turns-preserved c =
    let i = c.turns.invariant in
    let left = c.args.supply - c.wanted.result in
    let wanting = c.turns.wanting in
    elim c.if-wants.branch [
      | then-wants+then-wanting-left w ↦
          let one : c.from-wanting.result ≡ 1 = grind (arith, nat_tests, c.from-wanting.ensures, w.if-wants.true) in
          let less : wanting < left = omega (arith, w.if-wanting-left.true) in
          let given : c.args.supply - left + min (wanting + c.from-wanting.result) left ≡ c.args.supply - left + min wanting left + 1 = omega (arith, one, less) in
          rw (w.shares-is, given) (record {
            long = length-set c.turns.shares c.turns.app (get_or c.turns.shares c.turns.app 0 + 1) ∙ i.long;
            few = i.few;
            counted = omega (arith, one, i.counted);
            round = InRound-next _ _ _ _ _ _ i.round (omega (arith, less, i.few)) w.if-wants.true;
          })
      | else-wants w ↦ elim w.else-wants.branch [
        | else-wants-via-then-wants+else-wanting-left u ↦
            let one : c.from-wanting.result ≡ 1 = grind (arith, nat_tests, c.from-wanting.ensures, u.if-wants.true) in
            let none : left ≤ wanting = omega (arith, u.if-wanting-left.false) in
            let given : c.args.supply - left + min (wanting + c.from-wanting.result) left ≡ c.args.supply - left + min wanting left = omega (arith, none) in
            rw (w.shares-is, given) (record {
              long = i.long;
              few = i.few;
              counted = omega (arith, one, i.counted);
              round = InRound-pass _ _ _ _ _ _ i.round (λ some. absurd (omega (arith, none, some, i.few)));
            })
        | else-wants-via-else-wants u ↦
            let zero : c.from-wanting.result ≡ 0 = grind (arith, nat_tests, c.from-wanting.ensures, u.if-wants.false) in
            let given : c.args.supply - left + min (wanting + c.from-wanting.result) left ≡ c.args.supply - left + min wanting left = omega (arith, zero) in
            rw (w.shares-is, given) (record {
              long = i.long;
              few = i.few;
              counted = omega (arith, zero, i.counted);
              round = InRound-pass _ _ _ _ _ _ i.round (λ some. u.if-wants.false);
            })
      ]
    ]

pub returns : goal.returns
returns c = InRound-last _ _ _ _ _ _ c.turns.invariant.round (omega (arith, c.told-demands)) c.rounds_covered-rounds.ensures.most
