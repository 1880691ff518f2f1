-- The owner table, line by line, and who has a core.
use Rattle.std.proofs.Common.{◌≡◌, ℕ, ◌+◌, ◌-◌, ◌<◌, ◌≤◌, ◌↔◌, List, [], ◌∷◌, ◌++◌, Option, Some, None, Bool, true, length, get_or, min, take, zero, suc, refl, sym, ap, ◌∙◌, arith, subst, append_assoc, append-nil, take_all}
use Rattle.std.specs.Prelude.{codes, count_by, is_some, slice_index, MatchOption}
use Rattle.std.specs.List.{flat_map, position_or_len, range_with_len}
use Rattle.std.specs.Io.KnownBytes.{Appends}
use Rattle.std.proofs.lemmas.Bool.{cases_order, eqb-true, eq-eqb, false≢true, lt-ltb}
use Rattle.std.proofs.lemmas.Bool.Decides.{nat_tests}
use Rattle.std.proofs.lemmas.Grind.{flat_map-append}
use Rattle.std.proofs.lemmas.List.{take-append-le}
use Rattle.std.proofs.lemmas.List.Sums.{get_or-le-sum_by, sum_by-cons}
use Rattle.std.proofs.Math.Seq.{take-append-add}
use Rattle.arb_share.specs.Streams.{AppendsPrefix}
use Rattle.arb_share.proofs.StreamLaws.{Appends-trans}
use Rattle.arb_config.specs.Machine.{Machine, cores_of}
use Rattle.arb_config.proofs.RoleLaws.{same_place}
use Rattle.arb_model.specs.declared.holders.Holder.{Holder}
use Rattle.arb_model.specs.declared.orders.Place.{Place}
use Rattle.arb_model.specs.declared.orders.Place.TheVariants.{On}
use Rattle.arb_model.specs.Arbiter.{Arbiter, IsArbiter}
use Rattle.arb_model.specs.Limits.{all_threads}
use Rattle.arb_model.specs.Lists.{one_if}
use Rattle.arb_model.specs.Owners.{IsOwner}
use Rattle.arb_model.specs.Standing.{Seats, holder_at, is_asked, is_held_by}
use Rattle.arb_model.specs.Step.{place_of}
use Rattle.arb_model.proofs.WellFormedLaws.{are_threads}
use Rattle.arb_model.specs.Texts.{client_word}
use Rattle.arb_model.specs.Texts.{asked_text}
use Rattle.arb_script.specs.Table.{line_at, owner_text, table_text}

-- a range in two parts, one number between them
range_parts : (a p k : ℕ) → range_with_len a (p + suc k) ≡ range_with_len a p ++ ((a + p) ∷ range_with_len (a + p + 1) k)
range_parts a zero k =
    let none : 0 + suc k ≡ suc k = omega arith in
    let start : a + 0 ≡ a = omega arith in
    rw (none, start) refl
range_parts a (suc p) k =
    let more : suc p + suc k ≡ suc (p + suc k) = omega arith in
    let place : a + 1 + p ≡ a + suc p = omega arith in
    ap (range_with_len a) more ∙ ap (λ xs. a ∷ xs) (range_parts (a + 1) p k ∙ ap (λ n. range_with_len (a + 1) p ++ (n ∷ range_with_len (n + 1) k)) place)

-- the lines before a position
abbrev pub lines_before : Machine → Seats → ℕ → List ℕ
lines_before m s position = flat_map (line_at m s) (range_with_len 0 position)

-- the lines in two parts, the line of a position between them
lines_parts : (m : Machine) (s : Seats) (position k : ℕ) → lines_before m s (position + suc k) ≡ lines_before m s position ++ (line_at m s position ++ flat_map (line_at m s) (range_with_len (position + 1) k))
lines_parts m s position k =
    let start : 0 + position ≡ position = omega arith in
    rw (range_parts 0 position k, flat_map-append (line_at m s) (range_with_len 0 position) ((0 + position) ∷ range_with_len (0 + position + 1) k), start) refl

-- the table has the lines before a position, its line, and others
pub table_parts : (m : Machine) (s : Seats) (position : ℕ) → position < length (cores_of m) → (rest : List ℕ) × (table_text m s ≡ lines_before m s position ++ (line_at m s position ++ rest))
table_parts m s position within =
    let k : ℕ = length (cores_of m) - (position + 1) in
    let whole : length (cores_of m) ≡ position + suc k = omega arith in
    (flat_map (line_at m s) (range_with_len (position + 1) k), ap (lines_before m s) whole ∙ lines_parts m s position k)

-- one line more
pub lines_more : (m : Machine) (s : Seats) (position : ℕ) → lines_before m s (position + 1) ≡ lines_before m s position ++ line_at m s position
lines_more m s position = lines_parts m s position 0 ∙ ap (λ text. lines_before m s position ++ text) (append-nil (line_at m s position))

-- a prefix of one piece, behind all before it, is a prefix of all
pub AppendsPrefix-behind : (a b c : Option (List ℕ)) (before piece rest all : List ℕ) → all ≡ before ++ (piece ++ rest) → Appends a b before → AppendsPrefix b c piece → AppendsPrefix a c all
AppendsPrefix-behind a b c before piece rest all whole p front =
    let n : ℕ = min front.0 (length piece) in
    let part : take front.0 piece ≡ take n piece = grind (arith, take_all) in
    let same : before ++ take n piece ≡ take (length before + n) all = rw (whole, take-append-add before (piece ++ rest) n, take-append-le n piece rest (omega arith)) refl in
    (length before + n, rw (← same, ← part) (Appends-trans a b c before (take front.0 piece) p front.1))

-- where one place at most passes, the first that passes is that place
one_passes : {X : Type 0} (test : X → Bool) (xs : List X) (p : ℕ) (d : X) → count_by test xs ≤ 1 → p < length xs → test (get_or xs p d) ≡ true → position_or_len test xs ≡ p
one_passes test [] p d few within h = absurd (omega arith)
one_passes test (x ∷ xs) zero d few within h = rw h refl
one_passes test (x ∷ xs) (suc p) d few within h =
    grind (arith, nat_tests, sum_by-cons (λ y. one_if (test y)) x xs, get_or-le-sum_by (λ y. one_if (test y)) xs p d, one_passes test xs p d)

-- what an arbiter tells of the owner of the core of a number
abbrev pub TellsOwner : Arbiter → (number : ℕ) → Option ℕ → Type 0
TellsOwner a number found = (thread : ℕ) → (found ≡ Some thread) ↔ IsOwner a.machine a.standing.seats number thread

-- the position of an owner's core
owner_position : (a : Arbiter) (position number thread : ℕ) → IsArbiter a → position < length (cores_of a.machine) → number ≡ slice_index (cores_of a.machine) position → IsOwner a.machine a.standing.seats number thread → is_held_by thread (holder_at a.standing.seats.cores position) ≡ true
owner_position a position number thread i within is owns =
    let places : List ℕ = cores_of a.machine in
    let here : owns.position ≡ position =
    grind (arith, cases_order owns.position position, is, owns.number, same_place places a.machine.unmanaged owns.position position 0 i.machine.different, same_place places a.machine.unmanaged position owns.position 0 i.machine.different) in
    ap (λ p. is_held_by thread (holder_at a.standing.seats.cores p)) (sym here) ∙ owns.holder

holder_owns : (a : Arbiter) (position number : ℕ) (holder : Holder) → position < length (cores_of a.machine) → number ≡ slice_index (cores_of a.machine) position → holder_at a.standing.seats.cores position ≡ Some holder → IsOwner a.machine a.standing.seats number holder.thread
holder_owns a position number holder within is at =
    record {
      position = position;
      within = within;
      number = sym is;
      holder = ap (is_held_by holder.thread) at ∙ eq-eqb holder.thread holder.thread refl;
    }

-- a core of the machine that an arbiter was made of
pub made_of : (m made : Machine) (position number : ℕ) → m ≡ made → position < length (cores_of made) → number ≡ slice_index (cores_of made) position → (position < length (cores_of m)) × (number ≡ slice_index (cores_of m) position)
made_of m made position number e within is = rw e (within, is)

-- no owner: the core is free
pub free_at : (a : Arbiter) (position number : ℕ) → position < length (cores_of a.machine) → number ≡ slice_index (cores_of a.machine) position → TellsOwner a number None → holder_at a.standing.seats.cores position ≡ None
free_at a position number within is tells =
    let told : (holder : Holder) → holder_at a.standing.seats.cores position ≡ Some holder → None ≡ Some holder.thread =
    λ holder e. (tells holder.thread).1 (holder_owns a position number holder within is e) in
    grind (arith, told)

-- the holder of the core at a position, whose thread is the owner
pub record HasHolder (a : Arbiter) (position owner : ℕ) : Type 0 where
  pub holder : Holder
  pub at : holder_at a.standing.seats.cores position ≡ Some holder
  pub is : holder.thread ≡ owner

-- an owner is the holder
held_at : (a : Arbiter) (position number owner : ℕ) → IsArbiter a → position < length (cores_of a.machine) → number ≡ slice_index (cores_of a.machine) position → TellsOwner a number (Some owner) → HasHolder a position owner
held_at a position number owner i within is tells = by_holder (holder_at a.standing.seats.cores position) refl
  where
    held : is_held_by owner (holder_at a.standing.seats.cores position) ≡ true
    held = owner_position a position number owner i within is ((tells owner).0 refl)

    by_holder : (o : Option Holder) → holder_at a.standing.seats.cores position ≡ o → HasHolder a position owner
    by_holder None e = absurd (false≢true (sym (ap (is_held_by owner) e) ∙ held))
    by_holder (Some holder) e =
        record { holder = holder; at = e; is = eqb-true holder.thread owner (sym (ap (is_held_by owner) e) ∙ held) }

-- a holder is a thread
pub holder_low : (a : Arbiter) (position : ℕ) (holder : Holder) → IsArbiter a → holder_at a.standing.seats.cores position ≡ Some holder → holder.thread < all_threads
holder_low a position holder i at =
    subst (λ (o : Option Holder). MatchOption o (Unit {0}) (λ h. h.thread < 512)) at (are_threads a.machine a.standing i.consistent.standing position)

-- a thread on a core is there by its place
pub placed_at : (a : Arbiter) (position : ℕ) (holder : Holder) → IsArbiter a → position < length (cores_of a.machine) → holder_at a.standing.seats.cores position ≡ Some holder → place_of a.machine a.standing.seats holder.thread ≡ On (slice_index (cores_of a.machine) position) (is_some holder.asked)
placed_at a position holder i within at =
    let cores : List (Option Holder) = a.standing.seats.cores in
    let inside : position < length cores = omega (arith, i.consistent.standing.cores) in
    let held : is_held_by holder.thread (holder_at cores position) ≡ true = ap (is_held_by holder.thread) at ∙ eq-eqb holder.thread holder.thread refl in
    let once : count_by (is_held_by holder.thread) cores ≤ 1 = omega (arith, i.consistent.standing.once holder.thread) in
    let here : position_or_len (is_held_by holder.thread) cores ≡ position = one_passes (is_held_by holder.thread) cores position None once inside held in
    let found = lt-ltb position (length cores) inside in
    rw (here, found) (ap (λ o. On (slice_index (cores_of a.machine) position) (is_asked o)) at)

-- where an owner is: on its core, asked back or not
owner_placed : (a : Arbiter) (position owner : ℕ) → IsArbiter a → position < length (cores_of a.machine) → (h : HasHolder a position owner) → (owner < all_threads) × (place_of a.machine a.standing.seats owner ≡ On (slice_index (cores_of a.machine) position) (is_some h.holder.asked))
owner_placed a position owner i within h = (
  subst (λ (n : ℕ). n < all_threads) h.is (holder_low a position h.holder i h.at),
  ap (place_of a.machine a.standing.seats) (sym h.is) ∙ placed_at a position h.holder i within h.at,
)

-- an owner of a core, of whom its place tells whether the core is asked back
pub owner_shown : (a : Arbiter) (m : Machine) (position number owner : ℕ) (place : Place) (asked : Bool) → a.machine ≡ m → position < length (cores_of m) → number ≡ slice_index (cores_of m) position → IsArbiter a → TellsOwner a number (Some owner)
    → (owner < all_threads → place ≡ place_of a.machine a.standing.seats owner) → ((core : ℕ) (is : Bool) → place ≡ On core is → asked ≡ is) → (h : HasHolder a position owner) × (asked ≡ is_some h.holder.asked)
owner_shown a m position number owner place asked same low at i tells there shows =
    let (within, is) = made_of a.machine m position number same low at in
    let held = held_at a position number owner i within is tells in
    let placed = owner_placed a position owner i within held in
    (held, shows (slice_index (cores_of a.machine) position) (is_some held.holder.asked) (there placed.0 ∙ placed.1))

-- the text of an owner
pub owner_text-is : (a : Arbiter) (position owner : ℕ) (asked : Bool) → (h : HasHolder a position owner) → asked ≡ is_some h.holder.asked → codes "owner " ++ client_word owner ++ asked_text asked ≡ owner_text (holder_at a.standing.seats.cores position)
owner_text-is a position owner asked h is = rw (h.at, h.is, is) refl

-- three texts, appended one by one
pub appended_in_turn : (before a b c whole : List ℕ) → whole ≡ a ++ b ++ c → ((before ++ a) ++ b) ++ c ≡ before ++ whole
appended_in_turn before a b c whole e = rw e (simp append_assoc)

-- one line more behind a text
pub lines_behind : (before line : List ℕ) (m : Machine) (s : Seats) (position : ℕ) → line ≡ line_at m s position → before ++ lines_before m s (position + 1) ≡ (before ++ lines_before m s position) ++ line
lines_behind before line m s position is = grind (arith, append_assoc, lines_more m s position, is)

-- one line more was appended
pub lines_appended : (a b c : Option (List ℕ)) (m : Machine) (s : Seats) (position : ℕ) (line : List ℕ) → Appends a b (lines_before m s position) → line ≡ line_at m s position → Appends b c line → Appends a c (lines_before m s (position + 1))
lines_appended a b c m s position line before is more =
    rw (lines_more m s position, ← is) (Appends-trans a b c (lines_before m s position) line before more)

-- a prefix of a line, behind the lines before it, is a prefix of the table
pub table_prefix : (a b c : Option (List ℕ)) (m : Machine) (s : Seats) (position : ℕ) (line : List ℕ) → position < length (cores_of m) → Appends a b (lines_before m s position) → line ≡ line_at m s position → AppendsPrefix b c line → AppendsPrefix a c (table_text m s)
table_prefix a b c m s position line within before is front =
    let parts = table_parts m s position within in
    AppendsPrefix-behind a b c (lines_before m s position) (line_at m s position) parts.0 (table_text m s) parts.1 before (subst (λ (text : List ℕ). AppendsPrefix b c text) is front)
