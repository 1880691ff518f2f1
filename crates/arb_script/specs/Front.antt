-- What stands at the front of a text: a line that gives an order.
use Rattle.std.specs.Prelude.{◌≡◌, ℕ, List, ◌∷◌, ◌++◌, Bool, true, ◌&&◌, nat_le, nat_lt}
use Rattle.std.specs.List.{list_all}
use Rattle.arb_share.specs.Text.{line_feed, space}
use Rattle.arb_script.specs.Script.{gives, said_of}
use Rattle.arb_script.specs.declared.given.ClientOrder.{ClientOrder}

-- whether a byte is ASCII and no control character but the last
abbrev pub is_plain : ℕ → Bool
is_plain byte = nat_le space byte && nat_lt byte 128

-- a text is a line of plain bytes that gives an order, LF, and what follows
pub record BeginsWithGiven (text : List ℕ) (given : ClientOrder) (after : List ℕ) : Type 0 where
  pub line : List ℕ
  pub is : text ≡ line ++ line_feed ∷ after
  pub plain : list_all is_plain line ≡ true
  pub says : said_of line ≡ gives given
