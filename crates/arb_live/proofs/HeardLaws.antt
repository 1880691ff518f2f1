-- What a line is, by what is known of it.
use Rattle.std.proofs.Common.{◌≡◌, ◌⊎◌, ℕ, ◌≤◌, List, true, false, length, refl, inl, inr, sym, ap, ◌∙◌, subst, Option, Some, None, Result, Ok, Err}
use Rattle.std.specs.Result.{is_err}
use Rattle.std.specs.Prelude.{MatchOption, MatchResult}
use Rattle.std.specs.Str.{IsUtf8, is_utf8}
use Rattle.std.proofs.lemmas.Bool.{cases_Bool, false≢true, le-ltb}
use Rattle.std.proofs.lemmas.Str.{IsUtf8-from_is_utf8, is_utf8-from_IsUtf8}
use Rattle.arb_share.specs.Text.{words_of}
use Rattle.arb_script.specs.Script.{Said, nothing, gives, said_of}
use Rattle.arb_script.specs.declared.given.ClientOrder.{ClientOrder}
use Rattle.arb_live.specs.declared.heard.Heard.TheVariants.{NotText, Owners}
use Rattle.arb_live.specs.Heard.{asks_owners, heard, heard_of}

no_text : (line : List ℕ) → ¬ IsUtf8 line → is_utf8 line ≡ false
no_text line is = by_test (cases_Bool (is_utf8 line))
  where
    by_test : (is_utf8 line ≡ true) ⊎ (is_utf8 line ≡ false) → is_utf8 line ≡ false
    by_test (inl text) = absurd (is (IsUtf8-from_is_utf8 line text))
    by_test (inr none) = none

-- a line that isn't text
pub heard_no_text : (line : List ℕ) → length line ≤ 200 → ¬ IsUtf8 line → NotText ≡ heard line
heard_no_text line short is = rw (le-ltb 200 (length line) short, no_text line is) refl

-- a line that asks for the owner table
pub heard_owners : (line : List ℕ) → length line ≤ 200 → IsUtf8 line → asks_owners (words_of line) ≡ true → Owners ≡ heard line
heard_owners line short text asks = rw (le-ltb 200 (length line) short, is_utf8-from_IsUtf8 line text, asks) refl

-- any other line
pub heard_said : (line : List ℕ) (said : Said) → length line ≤ 200 → IsUtf8 line → asks_owners (words_of line) ≡ false → said_of line ≡ said → heard_of said ≡ heard line
heard_said line said short text others is =
    let same : heard line ≡ heard_of (said_of line) = rw (le-ltb 200 (length line) short, is_utf8-from_IsUtf8 line text, others) refl in
    ap heard_of (sym is) ∙ sym same

-- what a test for text answered
pub is_text : {X E : Type 0} (P : X → Type 0) (Q : E → Type 0) (r : Result X E) → MatchResult r P Q → is_err r ≡ false → (x : X) × P x
is_text P Q (Ok x) p none = (x, p)
is_text P Q (Err e) p none = absurd (false≢true (sym none))

pub is_no_text : {X E : Type 0} (P : X → Type 0) (Q : E → Type 0) (r : Result X E) → MatchResult r P Q → is_err r ≡ true → (e : E) × Q e
is_no_text P Q (Ok x) p failed = absurd (false≢true failed)
is_no_text P Q (Err e) p failed = (e, p)

-- what a line says, by what was found in it
pub said_none : (line : List ℕ) (found : Option ClientOrder) → found ≡ None → MatchOption found (said_of line ≡ nothing) (λ given. said_of line ≡ gives given) → said_of line ≡ nothing
said_none line found is p = subst (λ (o : Option ClientOrder). MatchOption o (said_of line ≡ nothing) (λ given. said_of line ≡ gives given)) is p

pub said_some : (line : List ℕ) (found : Option ClientOrder) (given : ClientOrder) → found ≡ Some given → MatchOption found (said_of line ≡ nothing) (λ given. said_of line ≡ gives given) → said_of line ≡ gives given
said_some line found given is p = subst (λ (o : Option ClientOrder). MatchOption o (said_of line ≡ nothing) (λ given. said_of line ≡ gives given)) is p
