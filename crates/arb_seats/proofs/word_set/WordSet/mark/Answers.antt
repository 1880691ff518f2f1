use Rattle.arb_seats.proofs.Words.{ℕ, arith, word_size, written}
use Rattle.std.specs.Prelude.{◌%◌}
use Rattle.arb_seats.proofs.BitsLaws.{has_bit-zero}
use Rattle.arb_seats.proofs.word_set.WordSet.mark.Goals as goal

-- a row with a place isn't empty
pub invariant_of-self : goal.invariant_of-self
invariant_of-self c =
    let i = c.self.invariant in
    let place : ℕ = c.args.w % word_size in
    record {
      some = λ k less. grind (arith, written, c.put-self-inside.ensures k, c.put.ensures place, has_bit-zero place, i.some k);
      past = λ k above low. grind (arith, c.put-self-inside.ensures k, i.past k);
    }
