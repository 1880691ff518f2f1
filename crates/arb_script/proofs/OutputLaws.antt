-- What several writes of gathered bytes come to.
use Rattle.std.proofs.Common.{◌≡◌, ◌≢◌, ℕ, List, [], ◌++◌, Option, Some, None, Result, Ok, Err, refl, sym, ◌∙◌, subst, append_assoc, append-nil, arith}
use Rattle.std.specs.Prelude.{IsErr}
use Rattle.std.specs.Io.KnownBytes.{Appends}
use Rattle.arb_share.specs.Streams.{AppendsPrefix, Writes}
use Rattle.arb_share.proofs.StreamLaws.{Appends-trans}
use Rattle.arb_script.proofs.TableLaws.{AppendsPrefix-behind}
use Rattle.arb_script.specs.Output.{Moves, Sends}

-- nothing was written yet
pub Moves-none : (a : Option (List ℕ)) (gathered : List ℕ) → Moves a a gathered gathered
Moves-none None gathered = ([], tt, refl)
Moves-none (Some x) gathered = ([], sym (append-nil x), refl)

-- all was written
pub Moves-all : (a b : Option (List ℕ)) (gathered left : List ℕ) → left ≡ [] → Appends a b gathered → Moves a b gathered left
Moves-all a b gathered left none p = (gathered, p, grind (arith, append-nil))

-- more is on its way
pub Moves-more : (a b : Option (List ℕ)) (all gathered more : List ℕ) → Moves a b all gathered → Moves a b (all ++ more) (gathered ++ more)
Moves-more a b all gathered more p = (p.0, p.1, grind (arith, append_assoc))

-- more is on its way, and some of it is written
pub Moves-next : (a b c : Option (List ℕ)) (all gathered more left whole : List ℕ) → whole ≡ all ++ more → Moves a b all gathered → Moves b c (gathered ++ more) left → Moves a c whole left
Moves-next a b c all gathered more left whole is p q =
    let r = Moves-more a b all gathered more p in
    (r.0 ++ q.0, Appends-trans a b c r.0 q.0 r.1 q.1, grind (arith, append_assoc))

-- a prefix of what was gathered and of more is written, before others
pub Moves-prefix : (a b c : Option (List ℕ)) (all gathered more rest whole : List ℕ) → whole ≡ (all ++ more) ++ rest → Moves a b all gathered → AppendsPrefix b c (gathered ++ more) → AppendsPrefix a c whole
Moves-prefix a b c all gathered more rest whole is p q =
    let r = Moves-more a b all gathered more p in
    AppendsPrefix-behind a b c r.0 (gathered ++ more) rest whole (grind (arith, append_assoc)) r.1 q

module _ {W A E : Type 0} {contents : W → Option (List ℕ)} {failures : W → ℕ} {a b c : W} where
  -- all is written, and more
  pub Writes-next : (result : Result A E) (all gathered more : List ℕ) {whole : List ℕ} → whole ≡ all ++ more → Moves (contents a) (contents b) all gathered → failures b ≡ failures a
      → Writes contents failures b c result (gathered ++ more) → Writes contents failures a c result whole
  Writes-next (Ok x) all gathered more is p kept q =
      let sent = Moves-next _ _ _ all gathered more [] _ is p (Moves-all _ _ _ [] refl q.written) in
      record { written = subst (λ l. Appends (contents a) (contents c) l) (sym (sent.2 ∙ append-nil sent.0)) sent.1; prefix = tt; ok = q.ok ∙ kept; err = tt }
  Writes-next (Err e) all gathered more is p kept q =
      record { written = tt; prefix = Moves-prefix _ _ _ all gathered more [] _ (is ∙ sym (append-nil (all ++ more))) p q.prefix; ok = tt; err = λ same. q.err (same ∙ sym kept) }

module _ {W A E : Type 0} {contents : W → Option (List ℕ)} {failures : W → ℕ} {a b : W} where
  -- a call failed after a prefix of all
  pub Sends-failed : (result : Result A E) {text left : List ℕ} → IsErr result → AppendsPrefix (contents a) (contents b) text → failures b ≢ failures a → Sends contents failures a b result text left
  Sends-failed (Ok x) failed prefix differs = absurd (cc failed)
  Sends-failed (Err e) failed prefix differs = record { moved = tt; prefix = prefix; ok = tt; err = differs }
