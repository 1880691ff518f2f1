-- Laws of how many cores an application owns on a socket, once one core is another.
use Rattle.arb_seats.proofs.Words.{Cores, ◌≡◌, ℕ, ◌+◌, ◌<◌, List, length, zero, suc, arith, ap, inl, inr, set, Option, Bool, true, slice_index, ◌&&◌, ◌==◌}
use Rattle.arb_seats.proofs.Words.{Holder, app_of, cases_eq, count_below, count_below-same, holder_at, is_held_by, is_of, one_if, owned_on, written}

-- the counts of two tests that differ at one place at most
count_below-apart : (f g : ℕ → Bool) (place n : ℕ) → place < n → ((p : ℕ) → p < n → (p ≡ place → ⊥) → g p ≡ f p)
    → count_below g n + one_if (f place) ≡ count_below f n + one_if (g place)
count_below-apart f g place zero less same = absurd (omega arith)
count_below-apart f g place (suc n) less same =
    elim (cases_eq n place) [
      | inl e ↦ omega (arith, count_below-same g f n (λ p lt. same p (omega arith) (λ q. absurd (omega arith))), ap one_if (ap f e), ap one_if (ap g e))
      | inr ne ↦ omega (arith, count_below-apart f g place n (omega (arith, ne)) (λ p lt. same p (omega arith)), ap one_if (same n (omega arith) ne))
    ]

-- whether an application owns a core, where its position is on a socket
abbrev pub is_there : (sockets : List ℕ) (position app socket : ℕ) → Option Holder → Bool
is_there sockets position app socket core = is_of app core && (slice_index sockets position == socket)

pub owned_on-set : (sockets : List ℕ) (cores : Cores) (core : Option Holder) (app socket : ℕ) {position : ℕ} → position < length cores
    → owned_on sockets (set cores position core) app socket + one_if (is_there sockets position app socket (holder_at cores position))
    ≡ owned_on sockets cores app socket + one_if (is_there sockets position app socket core)
owned_on-set sockets cores core app socket {position} within =
    let on : Cores → ℕ → Bool = λ list p. is_there sockets p app socket (holder_at list p) in
    grind (arith, written, count_below-apart (on cores) (on (set cores position core)) position (length cores) within (λ p less ne. grind (arith, written)))

pub held_of : (app thread : ℕ) (core : Option Holder) → is_held_by thread core ≡ true → is_of app core ≡ (app_of thread == app)
held_of app thread core held = grind arith
