-- Lines that go to a writer one after another.
use Rattle.std.proofs.Common.{◌≡◌, ◌≢◌, ℕ, List, [], ◌++◌, Option, Result, Ok, sym, refl, ap, ◌∙◌, subst, append_assoc, append-nil, arith}
use Rattle.std.specs.Prelude.{IsErr}
use Rattle.arb_share.specs.Streams.{AppendsPrefix}
use Rattle.arb_script.specs.Output.{Moves, Sends}
use Rattle.arb_script.proofs.OutputLaws.{Moves-next, Moves-none, Moves-prefix, Sends-failed}

-- the first lines of a text are written, or gathered behind what was gathered before, and the rest isn't; no call failed
pub record LinesSent {W : Type 0} (contents : W → Option (List ℕ)) (failures : W → ℕ) (old new : W) (before gathered whole rest : List ℕ) : Type 0 where
  pub done : List ℕ
  pub is : whole ≡ done ++ rest
  pub moved : Moves (contents old) (contents new) (before ++ done) gathered
  pub kept : failures new ≡ failures old

-- no line yet
pub no_line : (a : Option (List ℕ)) (out : List ℕ) → Moves a a (out ++ []) out
no_line a out = subst (λ l. Moves a a l out) (sym (append-nil out)) (Moves-none a out)

module _ {W : Type 0} {contents : W → Option (List ℕ)} {failures : W → ℕ} where
  -- no line yet
  pub LinesSent-none : (old : W) (before whole : List ℕ) → LinesSent contents failures old old before before whole whole
  LinesSent-none old before whole =
      record { done = []; is = refl; moved = no_line _ before; kept = refl }

  module _ {old new : W} {before gathered whole rest : List ℕ} (sent : LinesSent contents failures old new before gathered whole rest) where
    -- all lines
    pub LinesSent-all : {A E : Type 0} (x : A) → rest ≡ [] → Sends {E = E} contents failures old new (Ok x) (before ++ whole) gathered
    LinesSent-all x none =
        let is = sent.is ∙ ap (λ l. sent.done ++ l) none ∙ append-nil sent.done in
        record { moved = subst (λ l. Moves (contents old) (contents new) (before ++ l) gathered) (sym is) sent.moved; prefix = tt; ok = sent.kept; err = tt }

    module _ (line later : List ℕ) {after : W} (next : rest ≡ line ++ later) where
      -- one line more
      pub LinesSent-more : {left : List ℕ} → Moves (contents new) (contents after) (gathered ++ line) left → failures after ≡ failures new
          → LinesSent contents failures old after before left whole later
      LinesSent-more more ok = record {
        done = sent.done ++ line;
        is = grind (arith, append_assoc, sent.is, next);
        moved = Moves-next _ _ _ _ _ _ _ _ (sym (append_assoc before sent.done line)) sent.moved more;
        kept = ok ∙ sent.kept;
      }

      -- a call failed at the next line
      pub LinesSent-failed : {A E : Type 0} (result : Result A E) {left : List ℕ} → IsErr result → AppendsPrefix (contents new) (contents after) (gathered ++ line) → failures after ≢ failures new
          → Sends contents failures old after result (before ++ whole) left
      LinesSent-failed result failed prefix differs =
          let is : before ++ whole ≡ ((before ++ sent.done) ++ line) ++ later = grind (arith, append_assoc, sent.is, next) in
          Sends-failed result failed (Moves-prefix _ _ _ _ _ _ _ _ is sent.moved prefix) (λ same. differs (same ∙ sym sent.kept))
