-- What takes place on a reader and a writer.
use Rattle.std.proofs.Common.{ℕ, List, Option, None, Result, Ok, Err, take, sym, subst}
use Rattle.std.specs.Prelude.{IfOk}
use Rattle.std.specs.Io.KnownBytes.{Appends, Consumes, ReadConsumes}
use Rattle.arb_live.specs.Events.{Told, Did, asked, puts}
use Rattle.arb_live.proofs.EventLaws.{Appends-none, Consumes-none, got_in-gets, got_in-puts, put_in-gets, put_in-puts}

-- what the two tell
abbrev pub told_by : (remaining contents : Option (List ℕ)) → Told
told_by remaining contents = record { remaining = remaining; contents = contents; events = None }

pub both_read : {E : Type 0} (a b w : Option (List ℕ)) (r : Result ℕ E) (buffer : List ℕ) → ReadConsumes a b r buffer → IfOk r (λ count. Did (told_by a w) (told_by b w) (asked (take count buffer)))
both_read a b w (Ok n) buffer p =
    record {
      came = subst (λ (l : List ℕ). Consumes a b l) (sym (got_in-gets (take n buffer))) p.0;
      written = subst (λ (l : List ℕ). Appends w w l) (sym (put_in-gets (take n buffer))) (Appends-none w);
      told = tt;
    }
both_read a b w (Err e) buffer p = tt

pub both_wrote : (r a b : Option (List ℕ)) (text : List ℕ) → Appends a b text → Did (told_by r a) (told_by r b) (puts text)
both_wrote r a b text p =
    record {
      came = subst (λ (l : List ℕ). Consumes r r l) (sym (got_in-puts text)) (Consumes-none r);
      written = subst (λ (l : List ℕ). Appends a b l) (sym (put_in-puts text)) p;
      told = tt;
    }
