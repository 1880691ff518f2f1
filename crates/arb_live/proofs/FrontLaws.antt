-- A line that gives an order at the front of a text, answered.
use Rattle.std.proofs.Common.{◌≡◌, ℕ, ◌<◌, List, [], ◌∷◌, ◌++◌, true, sym, ap, ◌∙◌, arith, tests}
use Rattle.std.specs.List.{list_all}
use Rattle.std.specs.Str.{IsAscii}
use Rattle.std.proofs.lemmas.List.Sums.{AllPass-from_list_all}
use Rattle.std.proofs.lemmas.Str.{IsUtf8-from_ascii, is_utf8-from_IsUtf8}
use Rattle.std.proofs.lemmas.Str.Ascii.{IsAscii-from_all}
use Rattle.arb_share.specs.Text.{line_feed}
use Rattle.arb_script.specs.declared.given.ClientOrder.{ClientOrder}
use Rattle.arb_script.specs.Front.{BeginsWithGiven, is_plain}
use Rattle.arb_script.specs.Script.{fault_of}
use Rattle.arb_script.proofs.WordLaws.{all_in_line}
use Rattle.arb_live.specs.declared.heard.Heard.TheVariants.{Order}
use Rattle.arb_live.specs.Heard.{heard, heard_of}
use Rattle.arb_live.specs.Pieces.{after_line, begun_after, first_line, kept, kept_lines}
use Rattle.arb_live.proofs.LineLaws.{first_cut, kept_line}
use Rattle.arb_live.proofs.LiveLaws.{heard-kept}
use Rattle.arb_live.proofs.RunLaws.{line_heard}

plain-ascii : (byte : ℕ) → is_plain byte ≡ true → byte < 128
plain-ascii byte plain = grind (arith, tests)

plain_text : (line : List ℕ) → list_all is_plain line ≡ true → IsAscii line
plain_text line plain = IsAscii-from_all line (λ k d less. plain-ascii _ (AllPass-from_list_all is_plain line plain k d less))

module _ {text : List ℕ} {given : ClientOrder} {after : List ℕ} (b : BeginsWithGiven text given after) where
  cut : (first_line text ≡ b.line ++ line_feed ∷ []) × (after_line text ≡ after)
  cut = first_cut text b.line after b.is (all_in_line b.line b.plain)

  ends : (begun : List ℕ) → begun ≡ [] → (kept_lines begun (first_line text) ≡ kept b.line ∷ []) × (begun_after begun (first_line text) ≡ [])
  ends begun none =
      let (lines, left) = kept_line [] b.line (omega arith) (all_in_line b.line b.plain) in
      rw (none, cut.0) (lines, left)

  -- the one line of it
  pub front_lines : (begun : List ℕ) → begun ≡ [] → kept_lines begun (first_line text) ≡ kept b.line ∷ []
  front_lines begun none = (ends begun none).0

  pub front_begun : (begun : List ℕ) → begun ≡ [] → begun ≡ begun_after begun (first_line text)
  front_begun begun none = none ∙ sym (ends begun none).1

  pub front_after : after ≡ after_line text
  front_after = sym cut.1

  -- it is heard as that order
  pub front_heard : heard (kept b.line) ≡ Order given
  front_heard =
      heard-kept b.line
      ∙ line_heard b.line (is_utf8-from_IsUtf8 b.line (IsUtf8-from_ascii b.line (plain_text b.line b.plain))) (ap fault_of b.says)
      ∙ ap heard_of b.says
