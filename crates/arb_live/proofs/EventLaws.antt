-- What several events come to.
use Rattle.std.proofs.Common.{◌≡◌, ℕ, List, [], ◌∷◌, ◌++◌, Option, Some, None, refl, sym, ap, ◌∙◌, subst, append_assoc, append-nil}
use Rattle.std.specs.Io.KnownBytes.{Appends, Consumes}
use Rattle.arb_live.specs.declared.event.Event.{Event}
use Rattle.arb_live.specs.declared.event.Event.TheVariants.{Asked, Got, Put, Flushed}
use Rattle.arb_live.specs.Events.{got_in, put_in, waiting_after, gets, puts, Told, Adds, Did}

pub got_in-append : (xs ys : List Event) → got_in (xs ++ ys) ≡ got_in xs ++ got_in ys
got_in-append [] ys = refl
got_in-append (Asked ∷ xs) ys = got_in-append xs ys
got_in-append (Got byte ∷ xs) ys = ap (λ l. byte ∷ l) (got_in-append xs ys)
got_in-append (Put byte ∷ xs) ys = got_in-append xs ys
got_in-append (Flushed ∷ xs) ys = got_in-append xs ys

pub put_in-append : (xs ys : List Event) → put_in (xs ++ ys) ≡ put_in xs ++ put_in ys
put_in-append [] ys = refl
put_in-append (Asked ∷ xs) ys = put_in-append xs ys
put_in-append (Got byte ∷ xs) ys = put_in-append xs ys
put_in-append (Put byte ∷ xs) ys = ap (λ l. byte ∷ l) (put_in-append xs ys)
put_in-append (Flushed ∷ xs) ys = put_in-append xs ys

pub waiting_after-append : (waiting : List ℕ) (xs ys : List Event) → waiting_after waiting (xs ++ ys) ≡ waiting_after (waiting_after waiting xs) ys
waiting_after-append waiting [] ys = refl
waiting_after-append waiting (Asked ∷ xs) ys = waiting_after-append waiting xs ys
waiting_after-append waiting (Got byte ∷ xs) ys = waiting_after-append waiting xs ys
waiting_after-append waiting (Put byte ∷ xs) ys = waiting_after-append (waiting ++ byte ∷ []) xs ys
waiting_after-append waiting (Flushed ∷ xs) ys = waiting_after-append [] xs ys

pub got_in-gets : (bytes : List ℕ) → got_in (gets bytes) ≡ bytes
got_in-gets [] = refl
got_in-gets (byte ∷ bytes) = ap (λ l. byte ∷ l) (got_in-gets bytes)

pub put_in-gets : (bytes : List ℕ) → put_in (gets bytes) ≡ []
put_in-gets [] = refl
put_in-gets (byte ∷ bytes) = put_in-gets bytes

pub waiting_after-gets : (waiting bytes : List ℕ) → waiting_after waiting (gets bytes) ≡ waiting
waiting_after-gets waiting [] = refl
waiting_after-gets waiting (byte ∷ bytes) = waiting_after-gets waiting bytes

pub got_in-puts : (bytes : List ℕ) → got_in (puts bytes) ≡ []
got_in-puts [] = refl
got_in-puts (byte ∷ bytes) = got_in-puts bytes

pub put_in-puts : (bytes : List ℕ) → put_in (puts bytes) ≡ bytes
put_in-puts [] = refl
put_in-puts (byte ∷ bytes) = ap (λ l. byte ∷ l) (put_in-puts bytes)

pub puts-append : (xs ys : List ℕ) → puts (xs ++ ys) ≡ puts xs ++ puts ys
puts-append [] ys = refl
puts-append (x ∷ xs) ys = ap (λ l. Put x ∷ l) (puts-append xs ys)

pub gets-append : (xs ys : List ℕ) → gets (xs ++ ys) ≡ gets xs ++ gets ys
gets-append [] ys = refl
gets-append (x ∷ xs) ys = ap (λ l. Got x ∷ l) (gets-append xs ys)

pub Appends-none : (a : Option (List ℕ)) → Appends a a []
Appends-none None = tt
Appends-none (Some x) = sym (append-nil x)

pub Consumes-none : (a : Option (List ℕ)) → Consumes a a []
Consumes-none None = tt
Consumes-none (Some x) = refl

Adds-none : (a : Option (List Event)) → Adds a a []
Adds-none None = tt
Adds-none (Some x) = sym (append-nil x)

Appends-trans : (a b c : Option (List ℕ)) (bs cs : List ℕ) → Appends a b bs → Appends b c cs → Appends a c (bs ++ cs)
Appends-trans None b c bs cs p q = tt
Appends-trans (Some x) None c bs cs p q = absurd p
Appends-trans (Some x) (Some y) None bs cs p q = absurd q
Appends-trans (Some x) (Some y) (Some z) bs cs p q = q ∙ ap (λ l. l ++ cs) p ∙ append_assoc x bs cs

Consumes-trans : (a b c : Option (List ℕ)) (bs cs : List ℕ) → Consumes a b bs → Consumes b c cs → Consumes a c (bs ++ cs)
Consumes-trans None b c bs cs p q = tt
Consumes-trans (Some x) None c bs cs p q = absurd p
Consumes-trans (Some x) (Some y) None bs cs p q = absurd q
Consumes-trans (Some x) (Some y) (Some z) bs cs p q = p ∙ ap (λ l. bs ++ l) q ∙ sym (append_assoc bs cs z)

Adds-trans : (a b c : Option (List Event)) (bs cs : List Event) → Adds a b bs → Adds b c cs → Adds a c (bs ++ cs)
Adds-trans None b c bs cs p q = tt
Adds-trans (Some x) None c bs cs p q = absurd p
Adds-trans (Some x) (Some y) None bs cs p q = absurd q
Adds-trans (Some x) (Some y) (Some z) bs cs p q = q ∙ ap (λ l. l ++ cs) p ∙ append_assoc x bs cs

-- nothing took place
pub Did-none : (a : Told) → Did a a []
Did-none a = record { came = Consumes-none a.remaining; written = Appends-none a.contents; told = Adds-none a.events }

-- one thing after another took place
pub Did-trans : (a b c : Told) (xs ys : List Event) → Did a b xs → Did b c ys → Did a c (xs ++ ys)
Did-trans a b c xs ys p q = record {
  came = subst (λ (l : List ℕ). Consumes a.remaining c.remaining l) (sym (got_in-append xs ys)) (Consumes-trans a.remaining b.remaining c.remaining (got_in xs) (got_in ys) p.came q.came);
  written = subst (λ (l : List ℕ). Appends a.contents c.contents l) (sym (put_in-append xs ys)) (Appends-trans a.contents b.contents c.contents (put_in xs) (put_in ys) p.written q.written);
  told = Adds-trans a.events b.events c.events xs ys p.told q.told;
}

-- one thing after another took place, which is this
pub Did-then : (a b c : Told) (xs ys zs : List Event) → zs ≡ xs ++ ys → Did a b xs → Did b c ys → Did a c zs
Did-then a b c xs ys zs is p q = subst (λ (l : List Event). Did a c l) (sym is) (Did-trans a b c xs ys p q)

-- one text after another was written
pub Did-puts : (a b c : Told) (x y z : List ℕ) → z ≡ x ++ y → Did a b (puts x) → Did b c (puts y) → Did a c (puts z)
Did-puts a b c x y z is p q = Did-then a b c (puts x) (puts y) (puts z) (ap puts is ∙ puts-append x y) p q
