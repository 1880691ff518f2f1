use Rattle.arb_seats.proofs.Words.{◌≡◌, ℕ, arith, nat_tests, false, not, Bool, length, applications, ◌==◌, List, inl, inr, cases_lt, get_or_past, sym, ◌∙◌}
use Rattle.std.specs.Prelude.{◌%◌, ◌^◌}
use Rattle.std.specs.Int.{w8}
use Rattle.std.proofs.lemmas.Simd.{mask_l-mod, bit_mask_l, get_or-zip2, length-zip2, tops_compared}
use lib.Lanes.{zip2, mask_l}
use Rattle.arb_seats.proofs.bits.differing.Goals as goal

pub returns : goal.returns
returns c = λ app.
    let a = c.args.a.now in
    let b = c.args.b.now in
    let differ : ℕ → ℕ → Bool = λ x y. not (x == y) in
    let ms : List Bool = zip2 differ a b in
    let long : length ms ≡ applications = length-zip2 differ a b (c.told-a ∙ sym c.told-b) ∙ c.told-a in
    let whole : mask_l ms % 2 ^ 64 ≡ mask_l ms = mask_l-mod ms 64 (omega (arith, long)) in
    let bit = bit_mask_l ms app in
    rw (tops_compared w8 differ a b, whole) (elim (cases_lt app applications) [
      | inl low ↦ grind (arith, nat_tests, bit, get_or-zip2 differ a b app 0 0 false (omega (arith, low, c.told-a)) (omega (arith, low, c.told-b)))
      | inr past ↦ grind (arith, nat_tests, bit, long, get_or_past)
    ])
