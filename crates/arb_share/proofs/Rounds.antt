-- Looking for the number of rounds that a supply covers.
use Rattle.std.proofs.Common.{◌≡◌, ℕ, ◌+◌, ◌<◌, ◌≤◌, ◌⊎◌, List, [], ◌∷◌, min, sum, get_or, refl, inr, arith}
use Rattle.std.proofs.lemmas.List.Sums.{sum_by-cons}
use Rattle.std.proofs.Common.{sym, ◌∙◌}
use Rattle.std.proofs.lemmas.List.{length-map}
use Rattle.arb_share.proofs.DivisionLaws.{sum-le}
use Rattle.arb_share.proofs.EvenLoop.{capped, capped-all, capped-none, capped_at}

-- so many rounds hand out so many cores at least, or meet all demands
capped-many : (d : List ℕ) (n : ℕ) → (n ≤ sum (capped d n)) ⊎ (sum (capped d n) ≡ sum d)
capped-many [] n = inr refl
capped-many (x ∷ d) n = grind (arith, capped-many d n, sum_by-cons (λ k. k) (min x n) (capped d n), sum_by-cons (λ k. k) x d)

-- a search between rounds that the supply covers and rounds that it doesn't cover
pub record Between (demands : List ℕ) (supply covered beyond : ℕ) : Type 0 where
  pub apart : covered < beyond
  pub covers : sum (capped demands covered) ≤ supply
  pub short : supply < sum (capped demands beyond)

-- more rounds hand out no fewer cores
capped-more : (d : List ℕ) (m n : ℕ) → m ≤ n → sum (capped d m) ≤ sum (capped d n)
capped-more d m n le =
    sum-le (capped d m) (capped d n) (length-map d (λ demand. min demand m) ∙ sym (length-map d (λ demand. min demand n))) (λ k _. omega (arith, capped_at d m k, capped_at d n k))

-- the numbers of rounds up to one were tried, and so many of them are covered
pub record Tried (demands : List ℕ) (supply rounds covered : ℕ) : Type 0 where
  pub low : covered ≤ rounds
  pub covers : sum (capped demands covered) ≤ supply
  pub short : covered < rounds → supply < sum (capped demands (covered + 1))

pub Tried-none : (d : List ℕ) (supply : ℕ) → Tried d supply 0 0
Tried-none d supply = record { low = omega arith; covers = omega (arith, capped-none d); short = λ less. absurd (omega arith) }

pub Tried-more : (d : List ℕ) (supply rounds covered : ℕ) → Tried d supply rounds covered → sum (capped d (rounds + 1)) ≤ supply → Tried d supply (rounds + 1) (covered + 1)
Tried-more d supply rounds covered t covers =
    let all : covered ≡ rounds = grind (arith, t.low, t.short, capped-more d (covered + 1) (rounds + 1)) in
    rw all (record { low = omega arith; covers = covers; short = λ less. absurd (omega arith) })

pub Tried-same : (d : List ℕ) (supply rounds covered : ℕ) → Tried d supply rounds covered → supply < sum (capped d (rounds + 1)) → Tried d supply (rounds + 1) covered
Tried-same d supply rounds covered t short =
    record { low = omega (arith, t.low); covers = t.covers; short = λ less. grind (arith, t.low, t.short, capped-more d (rounds + 1) (covered + 1)) }

-- where not all that were tried are covered, the search is at its end
pub Between-tried : (d : List ℕ) (supply covered : ℕ) → sum (capped d covered) ≤ supply → supply < sum (capped d (covered + 1)) → Between d supply covered (covered + 1)
Between-tried d supply covered covers short = record { apart = omega arith; covers = covers; short = short }

-- it begins with no round, and with one round more than there are cores, or as many as any demand
pub Between-first : (d : List ℕ) (supply beyond most : ℕ) → supply < sum d → ((k : ℕ) → get_or d k 0 ≤ most) → 0 < beyond → ((supply + 1 ≤ beyond) ⊎ (most ≤ beyond)) → Between d supply 0 beyond
Between-first d supply beyond most short few some far =
    record {
      apart = some;
      covers = omega (arith, capped-none d);
      short = grind (arith, capped-many d beyond, capped-all d beyond, few);
    }

-- it goes on from rounds that are covered
pub Between-on : (d : List ℕ) (supply covered beyond : ℕ) → Between d supply 0 beyond → sum (capped d covered) ≤ supply → Between d supply covered beyond
Between-on d supply covered beyond b covers = record { apart = grind (arith, b.short, covers, capped-more d beyond covered); covers = covers; short = b.short }
