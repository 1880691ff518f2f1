-- That nothing is owed, as more takes place.
use Rattle.std.proofs.Common.{◌≡◌, ℕ, ◌+◌, List, [], ◌∷◌, ◌++◌, refl, sym, ap, ◌∙◌, subst, arith, append-nil}
use Rattle.arb_config.specs.Machine.{Machine}
use Rattle.arb_live.specs.declared.event.Event.{Event}
use Rattle.arb_live.specs.declared.event.Event.TheVariants.{Asked, Got, Put, Flushed}
use Rattle.arb_live.specs.Events.{gets, puts, reads_in}
use Rattle.arb_live.specs.Live.{IsSettled, NothingOwed}

pub reads_in-append : (xs ys : List Event) → reads_in (xs ++ ys) ≡ reads_in xs + reads_in ys
reads_in-append [] ys = omega arith
reads_in-append (Asked ∷ xs) ys = omega (arith, reads_in-append xs ys)
reads_in-append (Got byte ∷ xs) ys = reads_in-append xs ys
reads_in-append (Put byte ∷ xs) ys = reads_in-append xs ys
reads_in-append (Flushed ∷ xs) ys = reads_in-append xs ys

pub reads_in-gets : (bytes : List ℕ) → reads_in (gets bytes) ≡ 0
reads_in-gets [] = refl
reads_in-gets (byte ∷ bytes) = reads_in-gets bytes

pub reads_in-puts : (bytes : List ℕ) → reads_in (puts bytes) ≡ 0
reads_in-puts [] = refl
reads_in-puts (byte ∷ bytes) = reads_in-puts bytes

-- the tail of a list, the empty one where there is none
abbrev tail : {A : Type 0} → List A → List A
tail [] = []
tail (x ∷ xs) = xs

-- an element of two lists is in the first or in the second
pub data IsIn {A : Type 0} (x : A) (xs ys before after : List A) : Type 0 where
  first : (rest : List A) → xs ≡ before ++ x ∷ rest → IsIn x xs ys before after
  second : (rest : List A) → before ≡ xs ++ rest → ys ≡ rest ++ x ∷ after → IsIn x xs ys before after

in_one_more : {A : Type 0} (x a : A) (xs ys before after : List A) → IsIn x xs ys before after → IsIn x (a ∷ xs) ys (a ∷ before) after
in_one_more x a xs ys before after (first rest is) = first rest (ap (λ l. a ∷ l) is)
in_one_more x a xs ys before after (second rest is behind) = second rest (ap (λ l. a ∷ l) is) behind

-- the first element of a list, another where there is none
abbrev head_or : {A : Type 0} → A → List A → A
head_or d [] = d
head_or d (x ∷ xs) = x

pub where_in : {A : Type 0} (x : A) (xs ys before after : List A) → xs ++ ys ≡ before ++ x ∷ after → IsIn x xs ys before after
where_in x [] ys before after is = second before refl is
where_in x (a ∷ xs) ys [] after is = first xs (ap (λ l. l ∷ xs) (ap (head_or a) is))
where_in x (a ∷ xs) ys (b ∷ before) after is =
    subst (λ c. IsIn x (a ∷ xs) ys (c ∷ before) after) (ap (head_or a) is) (in_one_more x a xs ys before after (where_in x xs ys before after (ap tail is)))

-- where nobody asked, no one asked at any place
none_asked : (ys rest after : List Event) → reads_in ys ≡ 0 → ys ≡ rest ++ Asked ∷ after → ⊥
none_asked ys rest after none is =
    omega (arith, none, ap reads_in is, reads_in-append rest (Asked ∷ after))

-- more input is asked for where all is settled, and more takes place
pub owed_asked : (m : Machine) (xs ys : List Event) → NothingOwed m xs → IsSettled m xs → reads_in ys ≡ 0 → NothingOwed m (xs ++ Asked ∷ ys)
owed_asked m xs ys owed settled none before after is = by_place (where_in Asked xs (Asked ∷ ys) before after is)
  where
    by_rest : (rest : List Event) → before ≡ xs ++ rest → Asked ∷ ys ≡ rest ++ Asked ∷ after → IsSettled m before
    by_rest [] here behind = subst (λ l. IsSettled m l) (sym (here ∙ append-nil xs)) settled
    by_rest (e ∷ rest) here behind = absurd (none_asked ys rest after none (ap tail behind))

    by_place : IsIn Asked xs (Asked ∷ ys) before after → IsSettled m before
    by_place (first rest here) = owed before rest here
    by_place (second rest here behind) = by_rest rest here behind
