-- How many pasts each client left, past by past, and which clients of the house left none.
use Rattle.std.proofs.Common.{◌≡◌, ◌≢◌, ℕ, ◌+◌, ◌<◌, ◌≤◌, ◌==◌, inl, inr, List, [], ◌∷◌, ◌++◌, Bool, true, cond, length, get_or, set, take, sym, ap, arith}
use Rattle.std.proofs.lemmas.Bool.Decides.{nat_tests}
use Rattle.std.proofs.lemmas.Grind.{common_steps}
use Rattle.std.proofs.lemmas.List.{nil_from_length, take_more}
use Rattle.std.proofs.lemmas.List.Elements.{Contains-push, Contains-push_cases, Contains-append_left}
use Rattle.std.proofs.lemmas.List.Filters.{length-filter_more}
use Rattle.std.proofs.lemmas.List.Sums.{count_by-le-length, length-filter}
use Rattle.arb_model.specs.Limits.{clients}
use Rattle.arb_desk.specs.declared.past.Past.{Past}
use Rattle.arb_house.specs.Pasts.{IsMissing, pasts_of}
use Rattle.arb_house.specs.Walks.{Marks}
use Rattle.arb_house.proofs.MarkLaws.{marks_more, marks_same}

-- these are the numbers of the pasts of each client
abbrev pub Counts : List Past → List ℕ → Type 0
Counts pasts counts = (c : ℕ) → c < clients → get_or counts c 0 ≡ length (pasts_of c pasts)

-- how many pasts a client has, with one past more
count_more : (c : ℕ) (pasts : List Past) (i : ℕ) (past : Past) → i < length pasts → past ≡ get_or pasts i past → length (pasts_of c (take (i + 1) pasts)) ≡ length (pasts_of c (take i pasts)) + cond (past.client == c) 1 0
count_more c pasts i past h e = cc (length-filter_more (λ (p : Past). p.client == c) pasts i past h)

-- one past more is counted
pub counts_more : (pasts : List Past) (counts : List ℕ) (i : ℕ) (past : Past) → i < length pasts → past ≡ get_or pasts i past → past.client < length counts → Counts (take i pasts) counts → Counts (take (i + 1) pasts) (set counts past.client (get_or counts past.client 0 + 1))
counts_more pasts counts i past h e room is c within = grind (arith, nat_tests, common_steps, count_more c pasts i past h e, is c within)

-- no client has more pasts than there are
pub few_pasts : (c : ℕ) (pasts : List Past) → length (pasts_of c pasts) ≤ length pasts
few_pasts c pasts = let test : Past → Bool = λ p. p.client == c in omega (arith, length-filter test pasts, count_by-le-length test pasts)

-- one client more of the house
take_next : (house : List ℕ) (i client : ℕ) → i < length house → client ≡ get_or house i client → take (i + 1) house ≡ take i house ++ client ∷ []
take_next house i client h e = cc (take_more house i client h)

-- one client more of the house, which left no past
pub missing_more : (house : List ℕ) (pasts : List Past) (marks : List Bool) (i client : ℕ) → i < length house → client ≡ get_or house i client → client < length marks → length (pasts_of client pasts) ≡ 0 → Marks (IsMissing (take i house) pasts) marks → Marks (IsMissing (take (i + 1) house) pasts) (set marks client true)
missing_more house pasts marks i client h e room none is =
    rw (take_next house i client h e)
    (marks_more (IsMissing (take i house) pasts) (IsMissing (take i house ++ client ∷ []) pasts) marks client room is (Contains-push (take i house) client, nil_from_length (pasts_of client pasts) none) (λ c ne. (
      (λ p. (Contains-append_left (take i house) (client ∷ []) c p.0, p.1)),
      λ p. (elim (Contains-push_cases (take i house) client c p.0) [ inl old ↦ old | inr new ↦ absurd (ne (sym new)) ], p.1),
    )))

-- one client more of the house, which left a past
pub missing_same : (house : List ℕ) (pasts : List Past) (marks : List Bool) (i client : ℕ) → i < length house → client ≡ get_or house i client → length (pasts_of client pasts) ≢ 0 → Marks (IsMissing (take i house) pasts) marks → Marks (IsMissing (take (i + 1) house) pasts) marks
missing_same house pasts marks i client h e some is =
    rw (take_next house i client h e)
    (marks_same (IsMissing (take i house) pasts) (IsMissing (take i house ++ client ∷ []) pasts) marks is (λ c. (
      (λ p. (Contains-append_left (take i house) (client ∷ []) c p.0, p.1)),
      λ p. (elim (Contains-push_cases (take i house) client c p.0) [ inl old ↦ old | inr new ↦ absurd (some (rw new (ap length p.1))) ], p.1),
    )))
