-- What stands at the front of a text: a word and the byte behind it, and words up to the end of a line.
use Rattle.std.specs.Prelude.{◌≡◌, ◌≢◌, ℕ, ◌<◌, ◌≤◌, List, [], ◌∷◌, ◌++◌, None, Some, Ok, Bool, true, ◌&&◌, nat_lt, length, slice_index}
use Rattle.std.specs.List.{join_with_byte, list_all}
use Rattle.std.specs.Char.{is_ascii_digit}
use Rattle.arb_share.specs.Text.{line_feed, number_of, number_sign, space}
use Rattle.arb_share.specs.Limits.{levels}
use Rattle.arb_model.specs.declared.orders.Order.{Order}
use Rattle.arb_script.specs.Script.{client_of, order_of}
use Rattle.arb_share.specs.Rows.{entries_fault, entries_written}

-- whether a byte may stand in a word: it is above space, and ASCII
abbrev pub is_visible : ℕ → Bool
is_visible byte = nat_lt space byte && nat_lt byte 128

-- a word: some bytes, all of them visible
pub record IsWord (word : List ℕ) : Type 0 where
  pub some : 0 < length word
  pub visible : list_all is_visible word ≡ true

-- each of these is a word
abbrev pub AreWords : List (List ℕ) → Type 0
AreWords [] = Unit {0}
AreWords (word ∷ words) = IsWord word × AreWords words

-- a text is a number of digits alone, which is at most `most`, a byte behind it, and what follows
pub record BeginsWithNumber (most : ℕ) (text : List ℕ) (value behind : ℕ) (after : List ℕ) : Type 0 where
  pub word : List ℕ
  pub is : text ≡ word ++ behind ∷ after
  pub digits : list_all is_ascii_digit word ≡ true
  pub writes : number_of most word ≡ Some value

-- a text is words with one space between them, LF, and what follows
pub record BeginsWithLine (text : List ℕ) (words : List (List ℕ)) (after : List ℕ) : Type 0 where
  pub is : text ≡ join_with_byte space words ++ line_feed ∷ after
  pub parts : AreWords words
  pub some : 0 < length words

-- what the words of a line come to as entries
pub record AreEntries (text : List ℕ) (request after : List ℕ) : Type 0 where
  pub words : List (List ℕ)
  pub line : BeginsWithLine text words after
  pub few : length words ≤ levels
  pub faultless : entries_fault 0 words ≡ None
  pub written : request ≡ entries_written words

-- a text is the word of a client, a space, and what follows
pub record BeginsWithClient (text : List ℕ) (client : ℕ) (after : List ℕ) : Type 0 where
  pub word : List ℕ
  pub is : text ≡ word ++ space ∷ after
  pub part : IsWord word
  pub no_comment : slice_index word 0 ≢ number_sign
  pub named : client_of word ≡ Some client

-- a text is the words of an order, LF, and what follows
pub record BeginsWithOrder (text : List ℕ) (order : Order) (after : List ℕ) : Type 0 where
  pub name : List ℕ
  pub words : List (List ℕ)
  pub line : BeginsWithLine text (name ∷ words) after
  pub ordered : order_of name words ≡ Ok order
