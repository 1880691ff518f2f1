-- Laws of the release words, by who owns the cores and which are asked back.
use Rattle.arb_seats.proofs.Words.{Cores, ◌≡◌, ℕ, ◌<◌, set, map, arith, Option, sum, range_with_len, get_or_past, get_or-set_same, get_or-set_other, length-set, Holder, holder_at}
use Rattle.arb_model.specs.declared.layout.Half.{Half}
use Rattle.arb_model.specs.Layout.{half_number, half_of, half_size, halves, position_in}
use Rattle.arb_model.specs.Words.{asked_bit, is_asked_of}

-- the release word of an application for a half, by the cores alone
abbrev pub release_of : Cores → (app half : ℕ) → ℕ
release_of cores app half = sum (map (asked_bit app half cores) (range_with_len 0 half_size))

-- release words are the same where the same of the half's cores are asked of the application
release_same : (cores after : Cores) (app half : ℕ)
    → ((place : ℕ) → place < half_size → is_asked_of app (holder_at after (position_in half place)) ≡ is_asked_of app (holder_at cores (position_in half place)))
    → release_of after app half ≡ release_of cores app half
release_same cores after app half same = grind arith

-- a core's change leaves at each position of which application a core is asked, where it does so at its own
asked_set : (cores : Cores) (p : ℕ) (core : Option Holder) (app q : ℕ) → (q ≡ p → is_asked_of app core ≡ is_asked_of app (holder_at cores p))
    → is_asked_of app (holder_at (set cores p core) q) ≡ is_asked_of app (holder_at cores q)
asked_set cores p core app q same = grind (arith, get_or-set_other, get_or-set_same, length-set, get_or_past)

-- a core's change leaves the release words of an application of which it is asked as before
pub release_set : (cores : Cores) (p : ℕ) (core : Option Holder) (app half : ℕ) → is_asked_of app core ≡ is_asked_of app (holder_at cores p)
    → release_of (set cores p core) app half ≡ release_of cores app half
release_set cores p core app half same = release_same cores (set cores p core) app half (λ place less. asked_set cores p core app (position_in half place) (λ e. same))

-- there are two halves
pub half_within : (half : Half) → half_number half < halves
half_within half = grind arith

-- a position is in no half but its own
apart_from : (p half place : ℕ) → half < halves → (half ≡ half_number (half_of p) → ⊥) → place < half_size → position_in half place ≡ p → ⊥
apart_from p half place few ne less e = grind arith

-- a core's change leaves all release words but that of one application for the core's half, where no other application is concerned
pub release_others : (cores : Cores) (p : ℕ) (core : Option Holder) (app : ℕ) → ((a : ℕ) → (a ≡ app → ⊥) → is_asked_of a core ≡ is_asked_of a (holder_at cores p)) → (a half : ℕ)
    → half < halves → ((a ≡ app) × (half ≡ half_number (half_of p)) → ⊥) → release_of (set cores p core) a half ≡ release_of cores a half
release_others cores p core app others a half few ne =
    release_same cores (set cores p core) a half
    (λ place less. asked_set cores p core a (position_in half place) (λ e. others a (λ is. apart_from p half place few (λ same. ne (is, same)) less e)))
