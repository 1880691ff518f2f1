use Rattle.arb_seats.proofs.Words.{◌≡◌, ℕ, ◌<◌, ◌-◌, length, slice_index, asked_count, owned, applications}
use Rattle.arb_seats.proofs.core_table.Cores.uneven.Given as goal

-- the numbers of the applications before this one are there
abbrev pub invariant-loop-app : goal.invariant-loop-app
invariant-loop-app l = record {
  long : (length l.asked ≡ applications) × (length l.over ≡ applications);
  asked : (k : ℕ) → k < l.app → slice_index l.asked k ≡ asked_count k l.self.cores;
  over : (k : ℕ) → k < l.app → slice_index l.over k ≡ owned k l.self.cores - slice_index l.due k;
}
