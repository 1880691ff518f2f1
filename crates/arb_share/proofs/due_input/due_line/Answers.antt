use Rattle.std.proofs.Common.{◌≡◌, ℕ, ◌+◌, ◌<◌, ◌≤◌, List, [], ◌∷◌, ◌++◌, length, get_or, map, take, refl, arith, append_assoc, length-take-le, ap, ◌∙◌, length-append}
use Rattle.std.specs.Prelude.{decimal}
use Rattle.std.specs.List.{join_with_byte}
use Rattle.arb_share.specs.Text.{space}
use Rattle.std.proofs.lemmas.List.{map-append, length-map, take_more}
use Rattle.arb_share.proofs.due_input.due_line.Goals as goal

-- one piece more
join-push : (c : ℕ) (pieces : List (List ℕ)) (piece : List ℕ) → 0 < length pieces → join_with_byte c (pieces ++ (piece ∷ [])) ≡ join_with_byte c pieces ++ (c ∷ piece)
join-push c [] piece h = grind arith
join-push c (x ∷ []) piece h = refl
join-push c (x ∷ y ∷ pieces) piece h = grind (arith, append_assoc, join-push c (y ∷ pieces) piece)

-- one number more on the line
line-more : (due : List ℕ) (app : ℕ) → 1 ≤ app → app < length due → join_with_byte space (map decimal (take (app + 1) due)) ≡ join_with_byte space (map decimal (take app due)) ++ (space ∷ decimal (get_or due app 0))
line-more due app some inside =
    let long : length (take app due) ≡ app = length-take-le app due (omega arith) in
    let pieces : 0 < length (map decimal (take app due)) = omega (arith, length-map (take app due) decimal) in
    rw (take_more due app 0 inside, map-append decimal (take app due) (get_or due app 0 ∷ [])) (join-push space (map decimal (take app due)) (decimal (get_or due app 0)) pieces)

pub loop-app-preserved : goal.loop-app-preserved
loop-app-preserved c =
    let i = c.loop-app.invariant in
    let line = c.loop-app.line.bytes in
    let digits = c.format-in-loop-app.result.now in
    let spaced : c.push.new.self.bytes ≡ line ++ (space ∷ []) = c.push.ensures.ascii (omega arith) in
    let whole : c.push_str-in-loop-app.new.self.bytes ≡ line ++ (space ∷ digits) = c.push_str-in-loop-app.ensures.bytes ∙ ap (λ l. l ++ digits) spaced ∙ append_assoc line (space ∷ []) digits in
    let inside : c.loop-app.app < length c.args.due.now = omega (arith, c.told-due) in
    record {
      text = rw (whole, line-more c.args.due.now c.loop-app.app (omega arith) inside, ← i.text, c.format-in-loop-app.ensures.text) refl;
      short = rw whole (omega (arith, length-append line (space ∷ digits), c.format-in-loop-app.ensures.fits, i.short));
    }
