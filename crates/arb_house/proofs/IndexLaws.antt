-- Where the first past of each client stands.
use Rattle.std.proofs.Common.{◌≡◌, ◌≢◌, ℕ, ◌+◌, ◌<◌, ◌==◌, inl, inr, List, [], ◌++◌, Option, Some, None, length, get_or, set, take, drop, sym, ap, subst, ◌∙◌, arith, get_or-set_same, get_or-set_other}
use Rattle.std.specs.Prelude.{MatchOption}
use Rattle.std.proofs.lemmas.Bool.{cases_eq}
use Rattle.std.proofs.lemmas.Bool.Decides.{nat_tests}
use Rattle.std.proofs.lemmas.List.{append-nil, drop_more, take-append-drop}
use Rattle.std.proofs.lemmas.List.Elements.{filter-append, filter_more}
use Rattle.std.proofs.lemmas.Option.{slice_get-get_or}
use Rattle.arb_model.specs.Limits.{clients}
use Rattle.arb_desk.specs.declared.past.Past.{Past}
use Rattle.arb_house.specs.Pasts.{pasts_of, recalled}
use Rattle.arb_house.specs.Walks.{list_at}

-- the index of a client's first past, none where it has none among the first i
abbrev pub Place : List Past → ℕ → ℕ → Option ℕ → Type 0
Place pasts i c index = MatchOption index (pasts_of c (take i pasts) ≡ []) (λ k. list_at pasts (Some k) ≡ recalled c pasts)

-- those of all clients
abbrev pub Places : List Past → ℕ → List (Option ℕ) → Type 0
Places pasts i indexes = (c : ℕ) → c < clients → Place pasts i c (get_or indexes c None)

-- a past where none of its client came before is its client's first
pub first_at : (pasts : List Past) (i : ℕ) (past : Past) → i < length pasts → past ≡ get_or pasts i past → pasts_of past.client (take i pasts) ≡ [] → list_at pasts (Some i) ≡ recalled past.client pasts
first_at pasts i past h e none =
    let parts : pasts_of past.client pasts ≡ pasts_of past.client (take i pasts) ++ pasts_of past.client (drop i pasts) = ap (pasts_of past.client) (sym (take-append-drop i pasts)) ∙ filter-append (λ (p : Past). p.client == past.client) (take i pasts) (drop i pasts) in
    let rest = drop_more pasts i past h in
    let got = slice_get-get_or pasts i past h in
    grind (arith, nat_tests)

-- another client has the same pasts after one past more
pub others_same : (pasts : List Past) (i : ℕ) (past : Past) (c : ℕ) → i < length pasts → past ≡ get_or pasts i past → past.client ≢ c → pasts_of c (take (i + 1) pasts) ≡ pasts_of c (take i pasts)
others_same pasts i past c h e ne = grind (arith, nat_tests, append-nil, filter_more (λ (p : Past). p.client == c) pasts i past h)

-- the past at i is the first of its client
pub places_new : (pasts : List Past) (i : ℕ) (past : Past) (indexes : List (Option ℕ)) → i < length pasts → past ≡ get_or pasts i past → past.client < length indexes → past.client < clients → get_or indexes past.client None ≡ None → Places pasts i indexes → Places pasts (i + 1) (set indexes past.client (Some i))
places_new pasts i past indexes h e room within none is c small =
    elim (cases_eq c past.client) [
      | inl same ↦ rw (same, get_or-set_same indexes past.client (Some i) None room) (first_at pasts i past h e (subst (Place pasts i past.client) none (is past.client within)))
      | inr ne ↦ rw (get_or-set_other indexes past.client c (Some i) None ne) (let kept = others_same pasts i past c h e (λ q. ne (sym q)) in grind (arith, is c small))
    ]

-- its client has an earlier one
pub places_old : (pasts : List Past) (i : ℕ) (past : Past) (indexes : List (Option ℕ)) → i < length pasts → past ≡ get_or pasts i past → get_or indexes past.client None ≢ None → Places pasts i indexes → Places pasts (i + 1) indexes
places_old pasts i past indexes h e some is c small = grind (arith, others_same pasts i past c h e, is c small, cases_eq past.client c)
