-- The orders of one client, and the orders past its from.
use Rattle.std.proofs.Common.{◌≡◌, ◌≢◌, ℕ, zero, suc, ◌+◌, ◌-◌, ◌<◌, List, [], ◌∷◌, ◌++◌, length, map, take, false, Some, None, refl, ap, ◌∙◌, arith}
use Rattle.std.specs.Prelude.{slice_get, MatchOption}
use Rattle.std.proofs.lemmas.List.{append-nil, map-append}
use Rattle.std.proofs.lemmas.Bool.Decides.{nat_tests}
use Rattle.arb_model.specs.declared.orders.Entry.{Entry}
use Rattle.arb_model.specs.declared.orders.Order.{Order}
use Rattle.arb_model.specs.declared.orders.Reply.{Reply}
use Rattle.arb_model.specs.Limits.{clients}
use Rattle.arb_desk.specs.declared.past.Past.{Past}
use Rattle.arb_house.specs.Pasts.{entries_of_client, recalled}
use Rattle.arb_script.specs.declared.given.ClientOrder.{ClientOrder}
use Rattle.arb_script.proofs.ReportLaws.{next}
use Rattle.arb_play.specs.declared.walking.Account.{Account}
use Rattle.arb_play.specs.Joining.{AllAnswered, full_from_of}
use Rattle.arb_play.specs.Scripts.{Shares, Splits, ordered, entered, full_in}
use Rattle.arb_play.specs.Walking.{Answered, Sound, order_in}

abbrev Script : Type 0
Script = List ClientOrder

-- the orders of a client in two scripts, one after the other
pub ordered-append : (c : ℕ) (xs ys : Script) → ordered c (xs ++ ys) ≡ ordered c xs ++ ordered c ys
ordered-append c [] ys = refl
ordered-append c (x ∷ xs) ys = grind (arith, nat_tests, ordered-append c xs ys)

-- a client's orders, with one order more of the script
ordered_next : (c : ℕ) (script : Script) (n : ℕ) (x : ClientOrder) → slice_get script n ≡ Some x → ordered c (take (n + 1) script) ≡ ordered c (take n script) ++ ordered c (x ∷ [])
ordered_next c script n x at = ap (ordered c) (next script n x at) ∙ ordered-append c (take n script) (x ∷ [])

-- one more answered order
pub sound_answered : (script : Script) (n : ℕ) (c : ℕ) (mine : List (Order × Reply)) (account : Account) (x : ClientOrder) (r : Reply)
    → account.full_from ≡ None → slice_get script n ≡ Some x → x.client ≡ c → Sound script n c mine account → Sound script (n + 1) c (mine ++ (x.order, r) ∷ []) account
sound_answered script n c mine account x r none at own sound given kept = grind (arith, nat_tests, sound given kept, map-append order_in mine ((x.order, r) ∷ []), ordered_next c script n x at)

-- an order of another client
pub sound_other : (script : Script) (n : ℕ) (c : ℕ) (mine : List (Order × Reply)) (account : Account) (x : ClientOrder)
    → slice_get script n ≡ Some x → x.client ≢ c → Sound script n c mine account → Sound script (n + 1) c mine account
sound_other script n c mine account x at other sound given kept = grind (arith, nat_tests, append-nil, sound given kept, ordered_next c script n x at)

-- where no order was full, all are answered
pub sound_end : (script : Script) (c : ℕ) (mine : List (Order × Reply)) (account : Account) (from : ℕ)
    → Sound script (length script) c mine account → MatchOption account.full_from (from ≡ length script) (λ l. from ≡ l) → account.gave_up ≡ None → account.lost ≡ false → Answered script c mine from
sound_end script c mine account from sound is given kept = grind (arith, sound given kept)

-- a client's orders are those before its from, and then those past it
pub asked_split : (from : ℕ → ℕ) (c n k : ℕ) (script : Script) → k ≡ from c - n → ordered c script ≡ ordered c (take k script) ++ ordered c (full_in from n script)
asked_split from c n zero [] e = refl
asked_split from c n (suc k) [] e = refl
asked_split from c n zero (x ∷ xs) e = grind (arith, nat_tests, asked_split from c (n + 1) zero xs (omega (arith, e)))
asked_split from c n (suc k) (x ∷ xs) e = grind (arith, nat_tests, asked_split from c (n + 1) k xs (omega (arith, e)))

-- what splits a script shares it
pub splits_shares : (script : Script) (journal : List Entry) (full : Script) → Splits script journal full → Shares script journal full
splits_shares script journal full s c below = cc (asked_split s.0 c 0 (s.0 c) script (omega arith), s.2 c below, s.1)

-- a client's orders in a journal are those of its entries
entered_answers : (c : ℕ) (journal : List Entry) → entered c journal ≡ map order_in (entries_of_client c journal)
entered_answers c [] = refl
entered_answers c (e ∷ es) = grind (arith, nat_tests, entered_answers c es)

-- the answered orders of a client's past are its orders before its from
line_told : (c : ℕ) (script : Script) (pasts : List Past) (full_from : List (ℕ × ℕ)) → AllAnswered script pasts full_from → map order_in (recalled c pasts) ≡ ordered c (take (full_from_of c full_from) script)
line_told c script [] [] e = refl
line_told c script [] (l ∷ ls) e = absurd (cc e)
line_told c script (p ∷ ps) [] e = absurd (cc e)
line_told c script (p ∷ ps) (l ∷ ls) e = grind (arith, nat_tests, line_told c script ps ls (cc e))

-- where each client's entries are its past's, a table of the full_from splits the script
pub table_splits : (script : Script) (journal : List Entry) (pasts : List Past) (full_from : List (ℕ × ℕ)) (table : ℕ → ℕ)
    → AllAnswered script pasts full_from → ((c : ℕ) → c < clients → entries_of_client c journal ≡ recalled c pasts) → ((c : ℕ) → c < clients → table c ≡ full_from_of c full_from) → Splits script journal (full_in table 0 script)
table_splits script journal pasts full_from table answered agree is =
    (table, refl, λ c below. cc (entered_answers c journal, agree c below, line_told c script pasts full_from answered, is c below))
