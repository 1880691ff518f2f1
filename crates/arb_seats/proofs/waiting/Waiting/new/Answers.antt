use Rattle.arb_seats.proofs.Words.{arith, get_or-replicate, all_threads, slot_count, applications}
use Rattle.arb_seats.proofs.waiting.Waiting.new.Goals as goal

pub invariant_of-result : goal.invariant_of-result
invariant_of-result c = (
  omega arith,
  record {
    known = λ p h. omega arith;
    absent = λ t h none. get_or-replicate all_threads t slot_count 0 h;
    counted = λ app h. get_or-replicate applications app 0 0 h;
  },
)
