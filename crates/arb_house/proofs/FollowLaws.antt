-- How far the journal follows what each client recalls, entry by entry.
use Rattle.std.proofs.Common.{◌≡◌, ◌≢◌, ℕ, ◌+◌, ◌<◌, ◌≤◌, ◌==◌, inl, inr, List, [], ◌∷◌, ◌++◌, Bool, true, false, cond, Some, length, get_or, set, take, drop, refl, sym, ap, subst, ◌∙◌, arith, get_or-set_same, get_or-set_other, eq-eqb}
use Rattle.std.specs.Prelude.{replicate, slice_get, MatchBool}
use Rattle.std.proofs.lemmas.Bool.{cases_eq, ne_eqb}
use Rattle.std.proofs.lemmas.List.{append-nil, append_assoc, append_cancel_left, drop_all, drop_more, get_or-replicate, length-append, length-drop, map-append}
use Rattle.std.proofs.lemmas.List.Elements.{filter_more}
use Rattle.std.proofs.lemmas.Option.{gets, slice_get_cases}
use Rattle.std.proofs.lemmas.Grind.{common_steps}
use mathlib.Core.Logic.{◌↔◌}
use Rattle.arb_model.specs.declared.orders.Entry.{Entry}
use Rattle.arb_model.specs.declared.orders.Order.{Order}
use Rattle.arb_model.specs.declared.orders.Reply.{Reply}
use Rattle.arb_model.specs.Limits.{clients}
use Rattle.arb_desk.specs.declared.past.Past.{Past}
use Rattle.arb_house.specs.Pasts.{AnsweredOrders, Differs, entries_of_client, recalled}
use Rattle.arb_house.specs.Walks.{IsMarked, IsProgress}

-- an entry's order and reply
abbrev pub answer : Entry → Order × Reply
answer e = (e.order, e.reply)

-- one entry more: its client has it as its last, and another client's entries are the same
entries_next : (c : ℕ) (journal : List Entry) (i : ℕ) (e : Entry) → i < length journal → e ≡ get_or journal i e → entries_of_client c (take (i + 1) journal) ≡ entries_of_client c (take i journal) ++ cond (e.client == c) (answer e ∷ []) []
entries_next c journal i e h is = grind (arith, map-append, append-nil, filter_more (λ (x : Entry). x.client == c) journal i e h)

-- what is said of one client's progress
abbrev Way : (strayed : Bool) → (followed : ℕ) → AnsweredOrders → AnsweredOrders → Type 0
Way strayed followed es mine = MatchBool strayed ((rest : AnsweredOrders) → es ++ rest ≢ mine) (es ++ drop followed mine ≡ mine)

-- an entry that is the next one
way_next : (b : Bool) (f : ℕ) (es mine : AnsweredOrders) (x : Order × Reply) → slice_get mine f ≡ Some x → Way b f es mine → Way b (f + 1) (es ++ x ∷ []) mine
way_next true f es mine x got is = λ rest e. is (x ∷ rest) (sym (append_assoc es (x ∷ []) rest) ∙ e)
way_next false f es mine x got is = grind (arith, common_steps, gets, append_assoc, drop_more)

-- an entry that isn't
way_strays : (b : Bool) (f : ℕ) (es mine : AnsweredOrders) (x : Order × Reply) → slice_get mine f ≢ Some x → Way b f es mine → (rest : AnsweredOrders) → (es ++ x ∷ []) ++ rest ≢ mine
way_strays true f es mine x ne is rest e = is (x ∷ rest) (sym (append_assoc es (x ∷ []) rest) ∙ e)
way_strays false f es mine x ne is rest e =
    let left : x ∷ rest ≡ drop f mine = append_cancel_left es (x ∷ rest) (drop f mine) (sym (append_assoc es (x ∷ []) rest) ∙ e ∙ sym is) in
    ne (grind (arith, gets, slice_get_cases, drop_more, drop_all))

-- the progress of all clients over a journal
abbrev pub Follows : List Entry → List Past → List ℕ → List Bool → Type 0
Follows journal pasts followed strayed = (c : ℕ) → c < clients → IsProgress journal pasts followed strayed c

-- an entry that is the next one of its client's list
pub follows_next : (journal : List Entry) (pasts : List Past) (followed : List ℕ) (strayed : List Bool) (i : ℕ) (e : Entry) → i < length journal → e ≡ get_or journal i e → e.client < length followed → e.client < clients
    → slice_get (recalled e.client pasts) (get_or followed e.client 0) ≡ Some (answer e) → Follows (take i journal) pasts followed strayed → Follows (take (i + 1) journal) pasts (set followed e.client (get_or followed e.client 0 + 1)) strayed
follows_next journal pasts followed strayed i e h is room within got before c small =
    let more = get_or followed e.client 0 + 1 in
    elim (cases_eq c e.client) [
      | inl same ↦ rw (same, get_or-set_same followed e.client more 0 room, entries_next e.client journal i e h is, eq-eqb e.client e.client refl) (way_next _ _ _ _ _ got (before e.client within))
      | inr ne ↦ rw (get_or-set_other followed e.client c more 0 ne, entries_next c journal i e h is, ne_eqb e.client c (λ q. ne (sym q)), append-nil) (before c small)
    ]

-- an entry that isn't
pub follows_stray : (journal : List Entry) (pasts : List Past) (followed : List ℕ) (strayed : List Bool) (i : ℕ) (e : Entry) → i < length journal → e ≡ get_or journal i e → e.client < length strayed → e.client < clients
    → slice_get (recalled e.client pasts) (get_or followed e.client 0) ≢ Some (answer e) → Follows (take i journal) pasts followed strayed → Follows (take (i + 1) journal) pasts followed (set strayed e.client true)
follows_stray journal pasts followed strayed i e h is room within ne before c small =
    elim (cases_eq c e.client) [
      | inl same ↦ rw (same, get_or-set_same strayed e.client true false room, entries_next e.client journal i e h is, eq-eqb e.client e.client refl) (way_strays _ _ _ _ _ ne (before e.client within))
      | inr other ↦ rw (get_or-set_other strayed e.client c true false other, entries_next c journal i e h is, ne_eqb e.client c (λ q. other (sym q)), append-nil) (before c small)
    ]

-- where all that a client recalls was met, it differs where it strayed
decided : (b : Bool) (f : ℕ) (es mine : AnsweredOrders) → Way b f es mine → length mine ≤ f → (b ≡ true) ↔ (es ≢ mine)
decided true f es mine is h = ((λ _ e. is [] (append-nil es ∙ e)), λ _. refl)
decided false f es mine is h = ((λ t. absurd (cc t)), λ ne. absurd (ne (grind (arith, append-nil, drop_all))))

-- where less was met, it differs
short : (b : Bool) (f : ℕ) (es mine : AnsweredOrders) → Way b f es mine → f < length mine → es ≢ mine
short true f es mine is h e = is [] (append-nil es ∙ e)
short false f es mine is h e = omega (arith, ap length is, ap length e, length-append es (drop f mine), length-drop f mine)

-- the clients below k are marked where they differ, the others where they strayed
abbrev pub MarkedBelow : List Entry → List Past → (strayed : List Bool) → ℕ → List Bool → Type 0
MarkedBelow journal pasts strayed k marks = (c : ℕ) → c < clients → (c < k → IsMarked marks c ↔ Differs journal pasts c) × (k ≤ c → get_or marks c false ≡ get_or strayed c false)

-- a client that less was met of is marked
pub marked_short : (journal : List Entry) (pasts : List Past) (followed : List ℕ) (strayed marks : List Bool) (k : ℕ) → k < length marks → k < clients → Follows journal pasts followed strayed → get_or followed k 0 < length (recalled k pasts) → MarkedBelow journal pasts strayed k marks → MarkedBelow journal pasts strayed (k + 1) (set marks k true)
marked_short journal pasts followed strayed marks k room within follows less is c small =
    elim (cases_eq c k) [
      | inl same ↦ rw same ((λ _. ((λ _. short _ _ _ _ (follows k within) less), λ _. get_or-set_same marks k true false room)), λ past. absurd (omega arith))
      | inr ne ↦ rw (get_or-set_other marks k c true false ne) ((λ below. (is c small).0 (omega arith)), λ past. (is c small).1 (omega arith))
    ]

-- one that all was met of keeps its mark
pub marked_long : (journal : List Entry) (pasts : List Past) (followed : List ℕ) (strayed marks : List Bool) (k : ℕ) → k < clients → Follows journal pasts followed strayed → length (recalled k pasts) ≤ get_or followed k 0 → MarkedBelow journal pasts strayed k marks → MarkedBelow journal pasts strayed (k + 1) marks
marked_long journal pasts followed strayed marks k within follows most is c small =
    elim (cases_eq c k) [
      | inl same ↦ rw (same, (is k within).1 (omega arith)) ((λ _. decided _ _ _ _ (follows k within) most), λ past. absurd (omega arith))
      | inr ne ↦ ((λ below. (is c small).0 (omega arith)), λ past. (is c small).1 (omega arith))
    ]

-- before the first entry
pub follows_none : (pasts : List Past) → Follows [] pasts (replicate clients 0) (replicate clients false)
follows_none pasts c small =
    let mine = recalled c pasts in
    let start : drop (get_or (replicate clients 0) c 0) mine ≡ mine = ap (λ f. drop f mine) (get_or-replicate clients c 0 0 small) in
    subst (λ (b : Bool). Way b (get_or (replicate clients 0) c 0) [] mine) (sym (get_or-replicate clients c false false small)) start
