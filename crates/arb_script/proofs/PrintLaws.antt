-- The words of a request, one after another.
use Rattle.std.proofs.Common.{◌≡◌, ℕ, List, ◌++◌, append_assoc}
use Rattle.std.specs.Prelude.{codes}
use Rattle.std.specs.List.{flat_map}
use Rattle.arb_model.specs.declared.orders.Order.{Order}
use Rattle.arb_model.specs.declared.orders.Order.TheVariants.{Ask}
use Rattle.arb_model.specs.Texts.{order_text}
use Rattle.arb_model.proofs.TextLaws.{entry_piece, words_joined}

-- the order that asks, appended as its word and then its entries
pub ask_text : (before line after request : List ℕ) (order : Order) → after ≡ line ++ flat_map entry_piece request → line ≡ before ++ codes "ask" → order ≡ Ask request → after ≡ before ++ order_text order
ask_text before line after request order entries word is = rw (is, entries, word, words_joined (codes "ask") request) (append_assoc before (codes "ask") (flat_map entry_piece request))
