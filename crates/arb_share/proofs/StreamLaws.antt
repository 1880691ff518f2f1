-- What several reads took, and what several writes appended.
use Rattle.std.proofs.Common.{◌≡◌, ◌≢◌, ℕ, ◌+◌, ◌-◌, ◌≤◌, List, ◌++◌, Option, length, take, drop, sym, ap, ◌∙◌, arith, append_assoc, append-nil, length-take-le, take-append-drop}
use Rattle.std.specs.Prelude.{Err, IsErr, Ok, Result}
use Rattle.std.specs.Io.KnownBytes.{Keeps, Appends, Consumes}
use Rattle.arb_share.specs.Streams.{AppendsPrefix, ConsumesUpTo, Writes}
use borrow.Rule.Slice.PartMut.{put_mid, post_of}
use lib.Seq.{take-append-le, take-append-add, take-append_seam}
use Rattle.std.proofs.lemmas.List.{take_rest}

pub Appends-trans : (a b c : Option (List ℕ)) (bs cs : List ℕ) → Appends a b bs → Appends b c cs → Appends a c (bs ++ cs)
Appends-trans a b c bs cs p q = grind (arith, append_assoc)

pub Appends-kept : (a b c : Option (List ℕ)) (bs : List ℕ) → Appends a b bs → Keeps b c → Appends a c bs
Appends-kept a b c bs p q = grind (arith)

pub Consumes-trans : (a b c : Option (List ℕ)) (bs cs : List ℕ) → Consumes a b bs → Consumes b c cs → Consumes a c (bs ++ cs)
Consumes-trans a b c bs cs p q = grind (arith, append_assoc)

pub Consumes-kept : (a b c : Option (List ℕ)) (bs : List ℕ) → Consumes a b bs → Keeps b c → Consumes a c bs
Consumes-kept a b c bs p q = grind (arith)

-- a read into the part of a buffer behind what is filled
pub take-put_mid_filled : (a k n : ℕ) (xs ys : List ℕ) → a ≤ length xs → n ≤ length ys → take a xs ++ take n ys ≡ take (a + n) (put_mid a k xs ys)
take-put_mid_filled a k n xs ys within fits =
    let after = post_of a k xs in
    ap (λ l. take a xs ++ l) (sym (take-append-le n ys after fits))
    ∙ sym (take-append-add (take a xs) (ys ++ after) n)
    ∙ ap (λ m. take (m + n) (put_mid a k xs ys)) (length-take-le a xs within)

-- a read that gave nothing
pub Consumes-none : (a b c : Option (List ℕ)) (bs cs : List ℕ) (n : ℕ) → Consumes a b bs → Consumes b c (take n cs) → n ≡ 0 → Consumes a c bs
Consumes-none a b c bs cs n p q e = grind (arith, append-nil, Consumes-trans a b c bs (take n cs) p q)

-- what was filled is within the buffer
pub ConsumesUpTo-filled : (n most : ℕ) (xs : List ℕ) (a c : Option (List ℕ)) → n ≤ length xs → length xs ≡ most → Consumes a c (take n xs) → ConsumesUpTo most a c
ConsumesUpTo-filled n most xs a c within long p = (take n xs, omega (arith, length-take-le n xs within), p)

-- a write takes the front of what is left
pub moves_front : (all done rest : List ℕ) (n : ℕ) → all ≡ done ++ rest → all ≡ (done ++ take n rest) ++ take (length rest - n) (drop n rest)
moves_front all done rest n e = grind (arith, take_rest, append_assoc, take-append-drop)

-- what is done is the front of all
pub front_of : (all done rest : List ℕ) → all ≡ done ++ rest → take (length done) all ≡ done
front_of all done rest e = ap (take (length done)) e ∙ take-append_seam done rest

-- a call failed after a prefix of the text
pub Writes-failed : {W A E : Type 0} {contents : W → Option (List ℕ)} {failures : W → ℕ} {a b : W} {text : List ℕ} (result : Result A E) → IsErr result → AppendsPrefix (contents a) (contents b) text → failures b ≢ failures a → Writes contents failures a b result text
Writes-failed (Ok x) failed prefix differs = absurd (cc failed)
Writes-failed (Err e) failed prefix differs = record { written = tt; prefix = prefix; ok = tt; err = differs }
