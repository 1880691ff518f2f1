-- What is kept of a run, and what is drawn of an input.
use Rattle.std.proofs.Common.{◌≡◌, ℕ, ◌+◌, ◌-◌, ◌<◌, ◌≤◌, ◌⊎◌, inl, inr, List, [], ◌∷◌, ◌++◌, Option, Some, None, length, take, refl, sym, ap, ◌∙◌, arith, subst}
use Rattle.std.specs.Prelude.{IfOk, IfSome, MatchResult, Ok, Err, Result}
use Rattle.std.specs.Result.{is_ok}
use Rattle.std.proofs.lemmas.Bool.{false≢true}
use Rattle.std.proofs.lemmas.List.FromFn.{map-range_with_len_more}
use Rattle.arb_config.specs.Machine.{Machine}
use Rattle.arb_script.specs.declared.given.ClientOrder.{ClientOrder}
use Rattle.arb_script.specs.declared.runner.RunFault.{RunFault}
use Rattle.arb_script.specs.Report.{standing_after}
use Rattle.arb_script.specs.Run.{IsAccepted}
use Rattle.arb_draw.specs.declared.choice.Choice.{Choice as TheChoice}
use Rattle.arb_draw.specs.declared.choice.ChoiceFault.{ChoiceFault}
use Rattle.arb_draw.specs.declared.choice.Orders.{Orders}
use Rattle.arb_draw.specs.declared.fault.DrawFault.{DrawFault}
use Rattle.arb_draw.specs.declared.fault.DrawFault.TheVariants.{Memory, TooManyBars}
use Rattle.arb_draw.specs.Choice.{chosen}
use Rattle.arb_draw.specs.Frames.{Shown, frame_of, frames_of}
use Rattle.arb_draw.specs.Limits.{max_bars}
use Rattle.arb_draw.specs.declared.bar.Bar.{Bar}
use Rattle.arb_draw.specs.declared.cell.AppThreads.{AppThreads}
use Rattle.arb_draw.specs.declared.scale.Scale.{Scale}
use Rattle.arb_draw.specs.declared.shape.Shape.{Shape}
use Rattle.arb_draw.specs.Bars.{bars_of}
use Rattle.arb_draw.specs.Picture.{CanBeDrawn, IsUndrawn, apps_after, frames_at, picture, run_bars}
use Rattle.arb_draw.specs.ShapeText.{text_of}
use Rattle.arb_draw.specs.Shapes.{shapes_of}

-- one frame more
pub frames_next : (m : Machine) (script : List ClientOrder) (start index : ℕ) (now next : List Shown) (shown : Shown) → start ≤ index → now ≡ frames_of m script (start + 1) (index - start) → next ≡ now ++ shown ∷ [] → shown ≡ frame_of m (standing_after m (take (index + 1) script)) → next ≡ frames_of m script (start + 1) (index + 1 - start)
frames_next m script start index now next shown low is more frame =
    let after : ℕ → Shown = λ order. frame_of m (standing_after m (take order script)) in
    let count : index + 1 - start ≡ index - start + 1 = omega arith in
    let place : start + 1 + (index - start) ≡ index + 1 = omega arith in
    more ∙ (ap (λ xs. xs ++ shown ∷ []) is
    ∙ (ap (λ x. frames_of m script (start + 1) (index - start) ++ x ∷ []) frame
    ∙ sym (ap (frames_of m script (start + 1)) count ∙ map-range_with_len_more after (start + 1) (index - start) (index + 1) place)))

-- a value stays where only the error is changed
pub mapped_is : {X E F : Type 0} (r : Result X E) (s : Result X F) (x : X) (Q : E → Type 0) → MatchResult r (λ y. s ≡ Ok y) Q → is_ok s ≡ is_ok r → s ≡ Ok x → r ≡ Ok x
mapped_is (Ok y) s x Q mapped same is = cc
mapped_is (Err e) s x Q mapped same is = absurd (false≢true (sym same ∙ ap is_ok is))

-- a script that the input holds, and the orders that are chosen of it
pub record Chose (choice : TheChoice) (left : Option (List ℕ)) (script : List ClientOrder) (orders : Orders) : Type 0 where
  pub accepted : IfSome left (IsAccepted script)
  pub taken : chosen choice.from choice.to (length script) ≡ Ok orders

-- what reading and choosing gave, where then only their errors were changed
pub chose_of : (choice : TheChoice) (left : Option (List ℕ)) (script : List ClientOrder) (orders : Orders) (count : ℕ)
    (read : Result (List ClientOrder) RunFault) (given : Result (List ClientOrder) DrawFault) (P : RunFault → Type 0)
    (took : Result Orders ChoiceFault) (handed : Result Orders DrawFault) (Q : ChoiceFault → Type 0)
    → MatchResult read (λ s. given ≡ Ok s) P → is_ok given ≡ is_ok read → given ≡ Ok script → IfOk read (λ s. IfSome left (IsAccepted s))
    → MatchResult took (λ o. handed ≡ Ok o) Q → is_ok handed ≡ is_ok took → handed ≡ Ok orders → count ≡ length script → took ≡ chosen choice.from choice.to count
    → Chose choice left script orders
chose_of choice left script orders count read given P took handed Q read_cases read_same was accepted took_cases took_same taken len chose = record {
  accepted = subst (λ (r : Result (List ClientOrder) RunFault). IfOk r (λ s. IfSome left (IsAccepted s))) (mapped_is read given script P read_cases read_same was) accepted;
  taken = ap (chosen choice.from choice.to) (sym len) ∙ (sym chose ∙ mapped_is took handed orders Q took_cases took_same taken);
}

-- what holds of a picture that was made holds of one of the input
pub of_drawn : (m : Machine) (choice : TheChoice) (left : Option (List ℕ)) (script : List ClientOrder) (orders : Orders) (text : List ℕ) (Holds : List ℕ → Type 0)
    → Chose choice left script orders → length (run_bars m script orders) ≤ max_bars
    → text ≡ picture m choice.scale script orders → Holds text
    → IfSome left (λ input. (drawn : CanBeDrawn m choice input) × Holds (picture m choice.scale drawn.has.script drawn.has.orders))
of_drawn m choice None script orders text Holds chose few same holds = tt
of_drawn m choice (Some input) script orders text Holds chose few same holds =
    (record { has = record { script = script; accepted = chose.accepted; orders = orders; chosen = chose.taken }; few = few }, subst Holds same holds)

-- why a picture wasn't made
abbrev pub Unmade : (m : Machine) → (script : List ClientOrder) → Orders → DrawFault → Type 0
Unmade m script orders fault = (fault ≡ Memory) ⊎ ((fault ≡ TooManyBars (length (run_bars m script orders))) × (max_bars < length (run_bars m script orders)))

-- a picture that wasn't made is one of an input that can't be drawn
pub of_unmade : (m : Machine) (choice : TheChoice) (left : Option (List ℕ)) (script : List ClientOrder) (orders : Orders) (fault : DrawFault)
    → Chose choice left script orders → Unmade m script orders fault → IfSome left (IsUndrawn m choice fault)
of_unmade m choice None script orders fault chose unmade = tt
of_unmade m choice (Some input) script orders fault chose unmade =
    elim unmade [
      | inl e ↦ subst (λ (f : DrawFault). IsUndrawn m choice f input) (sym e) tt
      | inr many ↦ subst (λ (f : DrawFault). IsUndrawn m choice f input) (sym many.0) (record { script = script; accepted = chose.accepted; orders = orders; chosen = chose.taken }, refl, many.1)
    ]

-- the bars of the frames of a run are the run's
pub bars_are : (m : Machine) (script : List ClientOrder) (orders : Orders) (frames : List Shown) (bars : List Bar) → frames ≡ frames_at m script orders → bars ≡ bars_of m orders.first frames → bars ≡ run_bars m script orders
unfolding run_bars
bars_are m script orders frames bars of is = is ∙ ap (bars_of m orders.first) of

-- the text of the shapes of a run is its picture
pub picture_is : (m : Machine) (scale : Scale) (script : List ClientOrder) (orders : Orders) (frames : List Shown) (apps : List AppThreads) (bars : List Bar) (shapes : List Shape) (text : List ℕ)
    → frames ≡ frames_at m script orders → apps ≡ apps_after m script orders → bars ≡ run_bars m script orders → shapes ≡ shapes_of m scale orders.first frames apps bars → text ≡ text_of shapes → text ≡ picture m scale script orders
unfolding picture
picture_is m scale script orders frames apps bars shapes text f a b s t =
    t ∙ ap text_of (s
    ∙ (ap (λ x. shapes_of m scale orders.first x apps bars) f
    ∙ (ap (λ x. shapes_of m scale orders.first (frames_at m script orders) x bars) a
    ∙ ap (λ x. shapes_of m scale orders.first (frames_at m script orders) (apps_after m script orders) x) b)))
