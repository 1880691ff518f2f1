-- What is read is text.
use Rattle.std.proofs.Common.{◌≡◌, ℕ, ◌+◌, ◌-◌, ◌≤◌, List, ◌++◌, Option, length, take, arith, length-append, length-take}
use Rattle.std.specs.Prelude.{IfSome}
use Rattle.std.specs.Str.{IsUtf8}
use Rattle.std.specs.Io.KnownBytes.{Consumes}
use Rattle.arb_share.specs.Streams.{ConsumesUpTo}
use Rattle.arb_share.proofs.StreamLaws.{Consumes-trans}

-- where an input is a text, nothing else has to be shown of an input that isn't
pub text_is_text : (C : Type 0) (left : Option (List ℕ)) (text : List ℕ) (limit : ℕ) → IsUtf8 text → IfSome left (λ input. (text ≡ input) × (length input ≤ limit)) → IfSome left (λ input. length input ≤ limit → ¬ IsUtf8 input → C)
text_is_text C left text limit good is = grind arith

-- a read of what is left of a limit, and one byte more, behind what was read before, takes so many bytes in all
pub taken_more : (a b c : Option (List ℕ)) (read chunk : List ℕ) (room limit : ℕ) → length read ≤ limit → room ≤ limit - length read → Consumes a b read → ConsumesUpTo (length (take (room + 1) chunk)) b c → ConsumesUpTo (limit + 1) a c
taken_more a b c read chunk room limit short fits before more =
    (read ++ more.0, omega (arith, length-append read more.0, more.1, length-take (room + 1) chunk, short, fits), Consumes-trans a b c read more.0 before more.2)
