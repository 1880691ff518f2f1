-- Lines are read from the front, and come to exactly one outcome: an answer where none is faulty, or the first fault.
use Rattle.std.proofs.Common.{◌≡◌, ℕ, ◌+◌, ◌-◌, ◌<◌, ◌≤◌, ◌⊎◌, List, [], ◌∷◌, ◌++◌, Option, Some, None, Result, Ok, Err, length, take, drop, get_or, zero, suc, refl, inl, inr, sym, ap, ◌∙◌, arith, drop-drop, length-drop, take_all}
use Rattle.std.specs.Prelude.{MatchResult}
use Rattle.std.proofs.lemmas.Bool.{cases_order}
use Rattle.std.proofs.lemmas.Grind.{common_steps}
use Rattle.std.proofs.lemmas.List.{take_more}
use Rattle.arb_share.specs.Division.{ExactlyOne}
use Rattle.arb_share.specs.FirstFault.{IsFirst}

-- what is left begins with the element at its index
pub left_of : {X : Type 0} (xs ys : List X) (x : X) (n : ℕ) (d : X) → x ∷ ys ≡ drop n xs → (get_or xs n d ≡ x) × (n < length xs) × (ys ≡ drop (n + 1) xs)
left_of xs ys x n d e = (grind (arith, common_steps), grind (arith, common_steps), ap (drop 1) e ∙ drop-drop 1 n xs)

-- no line at an index below n is faulty
abbrev pub Faultless : {Kind : Type 0} (at : ℕ → Option Kind) (n : ℕ) → Type 0
Faultless at n = (index : ℕ) → index < n → at index ≡ None

-- one faultless line more
pub Faultless-more : {Kind : Type 0} (at : ℕ → Option Kind) (n : ℕ) → Faultless at n → at n ≡ None → Faultless at (n + 1)
Faultless-more at n none e = λ index h. grind (arith, none index)

-- the line after the first `done`, which is faulty where they are not
pub IsFirst-next : {Kind : Type 0} (at : ℕ → Option Kind) (count done : ℕ) (kind : Kind) → Faultless at done → done < count → at done ≡ Some kind → IsFirst at count (done + 1) kind
IsFirst-next at count done kind none inside is =
    let index : done + 1 - 1 ≡ done = omega arith in
    record { counted = omega arith; inside = omega arith; is = rw index is; first = λ before h. none before (omega arith) }

-- the first `done` lines are read, none was faulty, and these are left
pub record IsReadTo {Said Kind : Type 0} (at : ℕ → Option Kind) (lines left : List Said) (done : ℕ) : Type 0 where
  pub behind : left ≡ drop done lines
  pub so_far : done ≤ length lines
  pub faultless : Faultless at done

-- the first of the lines that are left
pub IsReadTo-front : {Said Kind : Type 0} {at : ℕ → Option Kind} {lines left : List Said} {done : ℕ} (said d : Said) (after : List Said) → IsReadTo at lines left done → left ≡ said ∷ after → (get_or lines done d ≡ said) × (take (done + 1) lines ≡ take done lines ++ (said ∷ []))
IsReadTo-front {lines = lines} {done = done} said d after r e =
    let (front, inside, behind) = left_of lines after said done d (sym e ∙ r.behind) in
    (front, take_more lines done d inside ∙ ap (λ x. take done lines ++ (x ∷ [])) front)

-- it is faultless
pub IsReadTo-next : {Said Kind : Type 0} {at : ℕ → Option Kind} {lines left : List Said} {done : ℕ} (said : Said) (after : List Said) → IsReadTo at lines left done → left ≡ said ∷ after → at done ≡ None → IsReadTo at lines after (done + 1)
IsReadTo-next {at = at} {lines = lines} {done = done} said after r e none =
    let (front, inside, behind) = left_of lines after said done said (sym e ∙ r.behind) in
    record { behind = behind; so_far = omega arith; faultless = Faultless-more at done r.faultless none }

-- it is faulty
pub IsReadTo-fault : {Said Kind : Type 0} {at : ℕ → Option Kind} {lines left : List Said} {done : ℕ} (said : Said) (after : List Said) (kind : Kind) → IsReadTo at lines left done → left ≡ said ∷ after → at done ≡ Some kind → IsFirst at (length lines) (done + 1) kind
IsReadTo-fault {at = at} {lines = lines} {done = done} said after kind r e is =
    IsFirst-next at (length lines) done kind r.faultless (left_of lines after said done said (sym e ∙ r.behind)).1 is

-- no line is left
pub IsReadTo-end : {Said Kind : Type 0} {at : ℕ → Option Kind} {lines : List Said} {done : ℕ} → IsReadTo at lines [] done → Faultless at (length lines) × (take done lines ≡ lines)
IsReadTo-end {lines = lines} {done = done} r =
    let none : 0 ≡ length (drop done lines) = ap length r.behind in
    let whole : length lines ≤ done = omega (arith, length-drop done lines) in
    (λ index h. r.faultless index (omega arith), take_all done lines whole)

-- some line is the first faulty one, or none is
first_or_none : {Kind : Type 0} (at : ℕ → Option Kind) (n count : ℕ) → n ≤ count → ((line : ℕ) × (kind : Kind) × IsFirst at count line kind) ⊎ Faultless at n
first_or_none at zero count h = inr (λ index less. absurd (omega arith))
first_or_none {Kind = Kind} at (suc n) count h =
    elim (first_or_none at n count (omega arith)) [ inl found ↦ inl found | inr none ↦ here (at n) refl none ]
  where
    here : (o : Option Kind) → at n ≡ o → Faultless at n → ((line : ℕ) × (kind : Kind) × IsFirst at count line kind) ⊎ Faultless at (suc n)
    here (Some kind) e none = inl (n + 1, kind, IsFirst-next at count n kind none (omega arith) e)
    here None e none = inr (λ index less. Faultless-more at n none e index (omega arith))

-- there is one first fault
first_same : {Kind : Type 0} (at : ℕ → Option Kind) (count l m : ℕ) (k j : Kind) → IsFirst at count l k → IsFirst at count m j → (l ≡ m) × (k ≡ j)
first_same at count l m k j p q = grind (arith, p.is, q.is, p.first (m - 1), q.first (l - 1), cases_order l m)

-- the answers are those of faultless lines, and the faults are the first ones
pub record IsReading {Kind Fault X : Type 0} (at : ℕ → Option Kind) (count : ℕ) (fault : ℕ → Kind → Fault) (P : X → Type 0) (Q : Fault → Type 0) : Type 0 where
  pub faultless : (x : X) → P x → Faultless at count
  pub answers : Faultless at count → ExactlyOne P
  pub faults : (line : ℕ) (kind : Kind) → IsFirst at count line kind → Q (fault line kind)
  pub first : (f : Fault) → Q f → (line : ℕ) × (kind : Kind) × (IsFirst at count line kind) × (f ≡ fault line kind)

never_both : {Kind : Type 0} (at : ℕ → Option Kind) (count line : ℕ) (kind : Kind) → Faultless at count → IsFirst at count line kind → ⊥
never_both at count line kind none f = grind (arith, none (line - 1), f.is)

pub IsReading-ExactlyOne : {Kind Fault X : Type 0} (at : ℕ → Option Kind) (count : ℕ) (fault : ℕ → Kind → Fault) (P : X → Type 0) (Q : Fault → Type 0) → IsReading at count fault P Q → ExactlyOne (λ (outcome : Result X Fault). MatchResult outcome P Q)
IsReading-ExactlyOne {Kind = Kind} {Fault = Fault} {X = X} at count fault P Q r =
    elim (first_or_none at count count (omega arith)) [
      | inl found ↦ record { answer = Err (fault found.0 found.1); is_answer = r.faults _ _ found.2; only_answer = only_fault found.0 found.1 found.2 }
      | inr none ↦ record { answer = Ok (r.answers none).answer; is_answer = (r.answers none).is_answer; only_answer = only_answer none }
    ]
  where
    only_fault : (line : ℕ) (kind : Kind) → IsFirst at count line kind → (other : Result X Fault) → MatchResult other P Q → other ≡ Err (fault line kind)
    only_fault line kind f (Ok x) p = absurd (never_both at count line kind (r.faultless x p) f)
    only_fault line kind f (Err other) q =
        let found = r.first other q in
        let same = first_same at count _ _ _ _ found.2 f in
        ap Err (found.3 ∙ ap (λ l. fault l found.1) same.0 ∙ ap (fault line) same.1)

    only_answer : (none : Faultless at count) → (other : Result X Fault) → MatchResult other P Q → other ≡ Ok (r.answers none).answer
    only_answer none (Ok x) p = ap Ok ((r.answers none).only_answer x p)
    only_answer none (Err other) q = let found = r.first other q in absurd (never_both at count found.0 found.1 none found.2)
