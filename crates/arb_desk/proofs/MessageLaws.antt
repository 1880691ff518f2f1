-- A client's messages among others, and where a close mark may stand.
use Rattle.std.proofs.Common.{◌≡◌, ◌≢◌, ℕ, eqb, List, [], ◌∷◌, ◌++◌, Bool, true, false, not, ◌&&◌, ◌||◌, cond, refl, sym, ap, ◌∙◌, true≢false, append_assoc, arith, eq-eqb, length, length-append}
use Rattle.std.proofs.lemmas.List.{append-nil}
use Rattle.std.proofs.lemmas.List.Elements.{filter-append}
use Rattle.std.proofs.lemmas.Bool.{ne_eqb}
use Rattle.arb_desk.specs.declared.message.Message.{Message}
use Rattle.arb_desk.specs.Messages.{ends_at_mark, is_closed, is_mark, messages_by, put_by}
use Rattle.arb_desk.specs.Passes.{has}

pub messages_by-append : (c : ℕ) (xs ys : List Message) → messages_by c (xs ++ ys) ≡ messages_by c xs ++ messages_by c ys
messages_by-append c xs ys = filter-append (λ (m : Message). eqb m.client c) xs ys

-- a client's own message is one of its messages, and another's isn't
pub messages_by-own : (c : ℕ) (x : Message) → x.client ≡ c → messages_by c (x ∷ []) ≡ x ∷ []
messages_by-own c x same = ap (λ b. cond b (x ∷ []) []) (eq-eqb x.client c same)

pub messages_by-other : (c : ℕ) (x : Message) → x.client ≢ c → messages_by c (x ∷ []) ≡ []
messages_by-other c x other = ap (λ b. cond b (x ∷ []) []) (ne_eqb x.client c other)

-- a push puts a client's own message behind its others, and leaves what other clients put
pub put_by-own : (c : ℕ) (taken held : List Message) (x : Message) → x.client ≡ c → put_by c taken (held ++ x ∷ []) ≡ put_by c taken held ++ x ∷ []
put_by-own c taken held x same =
    ap (λ l. messages_by c taken ++ l) (messages_by-append c held (x ∷ []) ∙ ap (λ l. messages_by c held ++ l) (messages_by-own c x same)) ∙ sym (append_assoc (messages_by c taken) (messages_by c held) (x ∷ []))

pub put_by-other : (c : ℕ) (taken held : List Message) (x : Message) → x.client ≢ c → put_by c taken (held ++ x ∷ []) ≡ put_by c taken held
put_by-other c taken held x other = ap (λ l. messages_by c taken ++ l) (messages_by-append c held (x ∷ []) ∙ (ap (λ l. messages_by c held ++ l) (messages_by-other c x other) ∙ append-nil (messages_by c held)))

-- a pop moves the oldest message from what is held to what was taken, and leaves what each client put
pub put_by-pop : (c : ℕ) (taken held : List Message) (x : Message) → put_by c (taken ++ x ∷ []) held ≡ put_by c taken (x ∷ held)
put_by-pop c taken held x =
    ap (λ l. l ++ messages_by c held) (messages_by-append c taken (x ∷ []))
    ∙ (append_assoc (messages_by c taken) (messages_by c (x ∷ [])) (messages_by c held) ∙ ap (λ l. messages_by c taken ++ l) (sym (messages_by-append c (x ∷ []) held)))

-- of a client whose message is held something was put
pub put_by-first : (taken held : List Message) (x : Message) → put_by x.client taken (x ∷ held) ≡ [] → ⊥
put_by-first taken held x none =
    let own : messages_by x.client (x ∷ held) ≡ x ∷ messages_by x.client held = ap (λ b. cond b (x ∷ messages_by x.client held) (messages_by x.client held)) (eq-eqb x.client x.client refl) in
    let long = length-append (messages_by x.client taken) (messages_by x.client (x ∷ held)) in
    omega (arith, long, ap (λ (l : List Message). length l) own, ap (λ (l : List Message). length l) none)

-- behind messages without a close mark any message may stand
pub ends-snoc : (ms : List Message) (x : Message) → is_closed ms ≡ false → ends_at_mark (ms ++ x ∷ []) ≡ true
ends-snoc [] x o = refl
ends-snoc (m ∷ []) x o = first (is_mark m) o
  where
    first : (a : Bool) → (a || false) ≡ false → (not a && true) ≡ true
    first true o = absurd (true≢false o)
    first false o = refl
ends-snoc (m ∷ n ∷ ms) x o = both (is_mark m) (is_closed (n ∷ ms)) (ends_at_mark ((n ∷ ms) ++ x ∷ [])) o (λ h. ends-snoc (n ∷ ms) x h)
  where
    both : (a b c : Bool) → (a || b) ≡ false → (b ≡ false → c ≡ true) → (not a && c) ≡ true
    both true b c h k = absurd (true≢false h)
    both false b c h k = k h

-- where nothing follows a close mark, nothing follows messages with one
pub ends-whole : (xs ys : List Message) → ends_at_mark (xs ++ ys) ≡ true → is_closed xs ≡ true → ys ≡ []
ends-whole [] ys e o = absurd (true≢false (sym o))
ends-whole (x ∷ []) [] e o = refl
ends-whole (x ∷ []) (y ∷ ys) e o = absurd (clash (is_mark x) (ends_at_mark (y ∷ ys)) e o)
  where
    clash : (m b : Bool) → (not m && b) ≡ true → (m || false) ≡ true → ⊥
    clash true b e o = true≢false (sym e)
    clash false b e o = true≢false (sym o)
ends-whole (x ∷ z ∷ xs) ys e o = split (is_mark x) (ends_at_mark ((z ∷ xs) ++ ys)) (is_closed (z ∷ xs)) e o (λ p q. ends-whole (z ∷ xs) ys p q)
  where
    split : (m b k : Bool) → (not m && b) ≡ true → (m || k) ≡ true → (b ≡ true → k ≡ true → ys ≡ []) → ys ≡ []
    split true b k e o h = absurd (true≢false (sym e))
    split false b k e o h = h e o

pub has-cons : (c d : ℕ) (ds : List ℕ) → has c (d ∷ ds) ≡ false → (d ≢ c) × (has c ds ≡ false)
has-cons c d ds h = ((λ e. true≢false (sym (ap (λ b. b || has c ds) (eq-eqb d c e)) ∙ h)), tail (eqb d c) (has c ds) h)
  where
    tail : (a b : Bool) → (a || b) ≡ false → b ≡ false
    tail true b h = absurd (true≢false h)
    tail false b h = h
