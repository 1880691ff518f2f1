-- The text of an order that asks: its word, and a space before each entry.
use Rattle.std.proofs.Common.{◌≡◌, ℕ, List, [], ◌∷◌, ◌++◌, map, sym, ap, append-nil}
use Rattle.std.specs.Prelude.{codes, decimal}
use Rattle.std.specs.List.{flat_map, join_with_byte}
use Rattle.arb_share.specs.Text.{space}
use Rattle.arb_model.specs.declared.orders.Order.{Order}
use Rattle.arb_model.specs.declared.orders.Order.TheVariants.{Ask}
use Rattle.arb_model.specs.Texts.{order_text}

-- an entry after a space
abbrev pub entry_piece : ℕ → List ℕ
entry_piece entry = space ∷ decimal entry

-- a word and numbers, with one space between them
pub words_joined : (word : List ℕ) (entries : List ℕ) → join_with_byte space (word ∷ map decimal entries) ≡ word ++ flat_map entry_piece entries
words_joined word [] = sym (append-nil word)
words_joined word (entry ∷ entries) = ap (λ text. word ++ (space ∷ text)) (words_joined (decimal entry) entries)

-- the word of an order that asks, and its entries
pub asked_in_turn : (order : Order) (request : List ℕ) → order ≡ Ask request → codes "ask" ++ flat_map entry_piece request ≡ order_text order
asked_in_turn order request is = rw is (sym (words_joined (codes "ask") request))
