-- What took place, byte by byte.
use Rattle.std.proofs.Common.{◌≡◌, ℕ, ◌+◌, ◌<◌, List, [], ◌∷◌, ◌++◌, length, take, get_or, sym, ap, ◌∙◌}
use Rattle.std.proofs.lemmas.List.{take_more}
use Rattle.arb_live.specs.declared.event.Event.{Event}
use Rattle.arb_live.specs.declared.event.Event.TheVariants.{Asked, Got, Put}
use Rattle.arb_live.specs.Events.{asked, gets, puts}
use Rattle.arb_live.proofs.EventLaws.{gets-append, puts-append}

-- one byte more came
pub asked_next : (bytes : List ℕ) (i byte : ℕ) (before after : List Event) → i < length bytes → byte ≡ get_or bytes i 0 → before ≡ asked (take i bytes) → after ≡ before ++ Got byte ∷ [] → after ≡ asked (take (i + 1) bytes)
asked_next bytes i byte before after within at so is =
    is ∙ ap (λ l. l ++ Got byte ∷ []) so
    ∙ ap (λ l. Asked ∷ l) (sym (gets-append (take i bytes) (byte ∷ [])))
    ∙ ap asked (ap (λ (n : ℕ). take i bytes ++ n ∷ []) at ∙ sym (take_more bytes i 0 within))

-- one byte more was written
pub puts_next : (bytes : List ℕ) (i byte : ℕ) (before after : List Event) → i < length bytes → byte ≡ get_or bytes i 0 → before ≡ puts (take i bytes) → after ≡ before ++ Put byte ∷ [] → after ≡ puts (take (i + 1) bytes)
puts_next bytes i byte before after within at so is =
    is ∙ ap (λ l. l ++ Put byte ∷ []) so
    ∙ sym (puts-append (take i bytes) (byte ∷ []))
    ∙ ap puts (ap (λ (n : ℕ). take i bytes ++ n ∷ []) at ∙ sym (take_more bytes i 0 within))
