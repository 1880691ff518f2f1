-- Each step keeps the rule of the queue.
use Rattle.std.proofs.Common.{◌≡◌, ◌≢◌, ◌⊎◌, ℕ, eqb, zero, suc, List, [], ◌∷◌, ◌++◌, length, set, Bool, true, false, cond, Option, Some, None, true≢false, refl, sym, ap, ◌∙◌, subst, ⊎_elim, eq-eqb, inl, inr}
use mathlib.Core.Option.{some, some-ne-none, some-injective}
use lib.ListN.{get_elem?}
use Rattle.std.proofs.lemmas.Bool.{ne_eqb}
use Rattle.std.proofs.lemmas.Bool.Decides.{eqb_tells}
use Rattle.std.proofs.lemmas.List.{append-nil}
use Rattle.crossbeam_queue.specs.Fifo.{Pushes, Pops, Forks, Merges, Learns}
use Rattle.crossbeam_queue.proofs.Lists.{at_set, at_snoc}
use Rattle.arb_desk.specs.declared.message.Message.{Message}
use Rattle.arb_desk.specs.declared.rule.PassView.{PassView}
use Rattle.arb_desk.specs.Messages.{ends_at_mark, is_closed, put_by}
use Rattle.arb_desk.specs.Passes.{absorbs, client_view, has, makes, puts, server_view, spent_view, takes}
use Rattle.arb_desk.specs.Rule.{Accounts, Fits, FitsClient, FitsServer, IsInTurn, Takes}
use Rattle.arb_desk.proofs.MessageLaws.{ends-snoc, ends-whole, has-cons, put_by-first, put_by-other, put_by-own, put_by-pop}

off : false ≡ true → ⊥
off e = true≢false (sym e)

some_apart : (p q : ℕ) → Some p ≡ Some q → p ≡ q
some_apart p q e = cc e

none_apart : (p : ℕ) → None ≡ Some p → ⊥
none_apart p e = absurd (cc e)

at_end : {A : Type 0} (l : List A) (a b : A) (j : ℕ) → get_elem? l j ≢ some b → get_elem? (l ++ a ∷ []) j ≡ some b → j ≡ length l
at_end [] a b zero n e = refl
at_end [] a b (suc j) n e = absurd (some-ne-none b (sym e))
at_end (x ∷ xs) a b zero n e = absurd (n e)
at_end (x ∷ xs) a b (suc j) n e = ap suc (at_end xs a b j n e)

-- what holds of the view of each pass, at its number
abbrev All : (ℕ → PassView → Type 0) → List PassView → Type 0
All F views = (pass : ℕ) (v : PassView) → get_elem? views pass ≡ some v → F pass v

all_set : (F : ℕ → PassView → Type 0) (views : List PassView) (pass : ℕ) (w : PassView) → F pass w → ((j : ℕ) (u : PassView) → j ≢ pass → get_elem? views j ≡ some u → F j u) → All F (set views pass w)
all_set F views pass w mine others j u e =
    ⊎_elim
    (λ (x : (j ≡ pass) × (w ≡ u)). subst (λ (y : ℕ × PassView). F y.0 y.1) (λ i. (sym x.0 i, x.1 i)) mine)
    (λ (x : (j ≢ pass) × (get_elem? views j ≡ some u)). others j u x.0 x.1)
    (at_set views pass j w u e)

-- a function changed at one number
abbrev at : (ℕ → Option ℕ) → ℕ → Option ℕ → ℕ → Option ℕ
at f k a c = cond (eqb c k) a (f c)

at-same : (f : ℕ → Option ℕ) (k : ℕ) (a : Option ℕ) → at f k a k ≡ a
at-same f k a = ap (λ b. cond b a (f k)) (eq-eqb k k refl)

at-else : (f : ℕ → Option ℕ) (k : ℕ) (a : Option ℕ) (c : ℕ) → c ≢ k → at f k a c ≡ f c
at-else f k a c n = ap (λ b. cond b a (f c)) (ne_eqb c k n)

equal : (a b : ℕ) → (a ≡ b) ⊎ (a ≢ b)
equal a b = ⊎_elim (λ (x : (eqb a b ≡ true) × (a ≡ b)). inl x.1) (λ (x : (eqb a b ≡ false) × (a ≢ b)). inr x.1) (eqb_tells a b)

known : (b : Bool) → (b ≡ true) ⊎ (b ≡ false)
known true = inl refl
known false = inr refl

-- a new queue keeps the rule
pub begins : IsInTurn [] (server_view [] [] ∷ [])
begins = record { server = 0; pass_of = λ _. None; taken = []; marks = λ c. refl; fits = one }
  where
    first : Fits 0 (λ _. None) [] [] 0 (server_view [] [])
    first = record { as_client = λ p. absurd (off p); as_server = λ _. record { only = refl; all = refl; none = λ c _. refl; nothing = λ c _. refl } }

    one : All (Fits 0 (λ _. None) [] []) (server_view [] [] ∷ [])
    one zero v e = subst (Fits 0 (λ _. None) [] [] 0) (some-injective _ _ e) first
    one (suc j) v e = absurd (some-ne-none v (sym e))

-- and so does a push of a client that hasn't closed
pub put_keeps : (n pass : ℕ) (v : PassView) (x : Message) → v.is_client ≡ true → v.client ≡ x.client → is_closed v.put ≡ false → Pushes IsInTurn n pass v x (λ w. w ≡ puts v x)
put_keeps n pass v x may same unclosed held views room h here =
    let w = puts v x in
    let mine = h.fits pass v here in
    let own = mine.as_client may in
    let more : List Message = held ++ x ∷ [] in
    let Now : ℕ → PassView → Type 0 = Fits h.server h.pass_of h.taken more in
    let unmade : (c : ℕ) → h.pass_of c ≡ None → put_by c h.taken held ≡ [] → put_by c h.taken more ≡ [] =
    λ c none nothing. put_by-other c h.taken held x (λ e. none_apart pass (sym none ∙ (ap h.pass_of (sym (same ∙ e)) ∙ own.only))) ∙ nothing in
    let serving : (j : ℕ) (u : PassView) → FitsServer h.server h.pass_of h.taken held j u → FitsServer h.server h.pass_of h.taken more j u =
    λ j u fits. record { only = fits.only; all = fits.all; none = fits.none; nothing = λ c out. unmade c (fits.none c out) (fits.nothing c out) } in
    let mark : (c : ℕ) → ends_at_mark (put_by c h.taken more) ≡ true =
    λ c. ⊎_elim
    (λ (e : x.client ≡ c). subst (λ l. ends_at_mark l ≡ true) (sym (put_by-own c h.taken held x e))
    (ends-snoc (put_by c h.taken held) x (subst (λ l. is_closed l ≡ false) (own.put ∙ ap (λ k. put_by k h.taken held) (same ∙ e)) unclosed)))
    (λ (e : x.client ≢ c). ap ends_at_mark (put_by-other c h.taken held x e) ∙ h.marks c)
    (equal x.client c) in
    let mine_now : Now pass w = record {
      as_client = λ _. record { only = own.only; put = ap (λ l. l ++ x ∷ []) own.put ∙ sym (put_by-own v.client h.taken held x (sym same)) };
      as_server = λ p. serving pass w (record { only = (mine.as_server p).only; all = (mine.as_server p).all; none = (mine.as_server p).none; nothing = (mine.as_server p).nothing });
    } in
    let others : (j : ℕ) (u : PassView) → j ≢ pass → get_elem? views j ≡ some u → Now j u =
    λ j u other e. record {
      as_client = λ p. let theirs = (h.fits j u e).as_client p in record {
        only = theirs.only;
        put = theirs.put ∙ sym (put_by-other u.client h.taken held x (λ q. other (some_apart j pass (sym theirs.only ∙ (ap h.pass_of (sym q ∙ sym same) ∙ own.only)))));
      };
      as_server = λ p. serving j u ((h.fits j u e).as_server p);
    } in
    (w, record { server = h.server; pass_of = h.pass_of; taken = h.taken; marks = mark; fits = all_set Now views pass w mine_now others }, refl)

-- and a pop by the server
pub take_keeps : (pass : ℕ) (v : PassView) → v.is_server ≡ true → Pops IsInTurn pass v (Takes v)
take_keeps pass v may x held views h here =
    let w = takes v x in
    let mine = h.fits pass v here in
    let serves = mine.as_server may in
    let got : List Message = h.taken ++ x ∷ [] in
    let Now : ℕ → PassView → Type 0 = Fits h.server h.pass_of got held in
    let sending : (j : ℕ) (u : PassView) → FitsClient h.pass_of h.taken (x ∷ held) j u → FitsClient h.pass_of got held j u =
    λ j u fits. record { only = fits.only; put = fits.put ∙ sym (put_by-pop u.client h.taken held x) } in
    let mine_now : Now pass w = record {
      as_client = λ p. let fits = mine.as_client p in record { only = fits.only; put = fits.put ∙ sym (put_by-pop v.client h.taken held x) };
      as_server = λ p. record {
        only = serves.only;
        all = ap (λ l. l ++ x ∷ []) serves.all;
        none = serves.none;
        nothing = λ c out. put_by-pop c h.taken held x ∙ serves.nothing c out;
      };
    } in
    let others : (j : ℕ) (u : PassView) → j ≢ pass → get_elem? views j ≡ some u → Now j u =
    λ j u other e. record {
      as_client = λ p. sending j u ((h.fits j u e).as_client p);
      as_server = λ p. absurd (other (((h.fits j u e).as_server p).only ∙ sym serves.only));
    } in
    let made : has x.client v.made ≡ true =
    ⊎_elim (λ (e : has x.client v.made ≡ true). e) (λ (e : has x.client v.made ≡ false). absurd (put_by-first h.taken held x (serves.nothing x.client e))) (known (has x.client v.made)) in
    (w, record { server = h.server; pass_of = h.pass_of; taken = got; marks = λ c. ap ends_at_mark (put_by-pop c h.taken held x) ∙ h.marks c; fits = all_set Now views pass w mine_now others }, record { taken = refl; of_client = made })

-- and the making of a pass for a client that has none
pub pass_keeps : (pass : ℕ) (v : PassView) (c : ℕ) → v.is_server ≡ true → has c v.made ≡ false → Forks IsInTurn pass v (makes v c) (client_view c [])
pass_keeps pass v c may out held views h here =
    let l = makes v c in
    let r = client_view c [] in
    let mine = h.fits pass v here in
    let serves = mine.as_server may in
    let vs : List PassView = set views pass l in
    let next : Option ℕ = Some (length vs) in
    let pass_of = at h.pass_of c next in
    let Now : ℕ → PassView → Type 0 = Fits h.server pass_of h.taken held in
    let sending : (j : ℕ) (u : PassView) → FitsClient h.pass_of h.taken held j u → FitsClient pass_of h.taken held j u =
    λ j u fits. record {
      only = at-else h.pass_of c next u.client (λ e. none_apart j (sym (serves.none c out) ∙ (ap h.pass_of (sym e) ∙ fits.only))) ∙ fits.only;
      put = fits.put;
    } in
    let Old : ℕ → PassView → Type 0 = λ j u. Now j u × (u.is_client ≡ true → FitsClient h.pass_of h.taken held j u) in
    let mine_now : Old pass l = (
      record {
        as_client = λ p. sending pass l (record { only = (mine.as_client p).only; put = (mine.as_client p).put });
        as_server = λ p. record {
          only = serves.only;
          all = serves.all;
          none = λ d out'. let apart = has-cons d c v.made out' in at-else h.pass_of c next d (λ e. apart.0 (sym e)) ∙ serves.none d apart.1;
          nothing = λ d out'. serves.nothing d (has-cons d c v.made out').1;
        };
      },
      λ p. record { only = (mine.as_client p).only; put = (mine.as_client p).put },
    ) in
    let others : (j : ℕ) (u : PassView) → j ≢ pass → get_elem? views j ≡ some u → Old j u =
    λ j u other e. let theirs = h.fits j u e in (
      record { as_client = λ p. sending j u (theirs.as_client p); as_server = λ p. absurd (other ((theirs.as_server p).only ∙ sym serves.only)) },
      theirs.as_client,
    ) in
    let old : All Old vs = all_set Old views pass l mine_now others in
    let new : (j : ℕ) (u : PassView) → r ≡ u → get_elem? (vs ++ r ∷ []) j ≡ some u → Now j u =
    λ j u is e. subst (Now j) is (record {
      as_client = λ p. record {
        only = at-same h.pass_of c next ∙ ap Some (sym (at_end vs r u j (λ x. none_apart j (sym (serves.none c out) ∙ (ap (λ (y : PassView). h.pass_of y.client) is ∙ ((old j u x).1 (ap (λ (y : PassView). y.is_client) (sym is))).only))) e));
        put = sym (serves.nothing c out);
      };
      as_server = λ p. absurd (off p);
    }) in
    record {
      server = h.server;
      pass_of = pass_of;
      taken = h.taken;
      marks = h.marks;
      fits = λ j u e. ⊎_elim (λ (x : get_elem? vs j ≡ some u). (old j u x).0) (λ (is : r ≡ u). new j u is e) (at_snoc vs r u j e);
    }

-- and the server's pass taking in a client's
pub absorb_keeps : (pass : ℕ) (v : PassView) (other : ℕ) (u : PassView) → v.is_server ≡ true → u.is_client ≡ true → Merges IsInTurn pass v other u (absorbs v u) spent_view
absorb_keeps pass v other u may sends held views h here two there =
    let both = absorbs v u in
    let serves = (h.fits pass v here).as_server may in
    let vs : List PassView = set views pass both in
    let was : get_elem? views other ≡ some u = ⊎_elim (λ x. absurd (two x.0)) (λ x. x.1) (at_set views pass other both u there) in
    let theirs = (h.fits other u was).as_client sends in
    let made : has u.client v.made ≡ true = ⊎_elim (λ (e : has u.client v.made ≡ true). e) (λ (e : has u.client v.made ≡ false). absurd (none_apart other (sym (serves.none u.client e) ∙ theirs.only))) (known (has u.client v.made)) in
    let pass_of = at h.pass_of u.client (Some pass) in
    let Now : ℕ → PassView → Type 0 = λ j y. j ≢ other → Fits h.server pass_of h.taken held j y in
    let mine_now : Now pass both = λ _. record {
      as_client = λ p. record { only = at-same h.pass_of u.client (Some pass); put = theirs.put };
      as_server = λ p. record {
        only = serves.only;
        all = serves.all;
        none = λ c out. at-else h.pass_of u.client (Some pass) c (λ e. true≢false (sym made ∙ (ap (λ k. has k v.made) (sym e) ∙ out))) ∙ serves.none c out;
        nothing = serves.nothing;
      };
    } in
    let others : (j : ℕ) (y : PassView) → j ≢ pass → get_elem? views j ≡ some y → Now j y =
    λ j y away e apart. record {
      as_client = λ p. let fit = (h.fits j y e).as_client p in record {
        only = at-else h.pass_of u.client (Some pass) y.client (λ q. apart (some_apart j other (sym fit.only ∙ (ap h.pass_of q ∙ theirs.only)))) ∙ fit.only;
        put = fit.put;
      };
      as_server = λ p. absurd (away (((h.fits j y e).as_server p).only ∙ sym serves.only));
    } in
    let now : All Now vs = all_set Now views pass both mine_now others in
    let spent : Fits h.server pass_of h.taken held other spent_view = record { as_client = λ p. absurd (off p); as_server = λ p. absurd (off p) } in
    record {
      server = h.server;
      pass_of = pass_of;
      taken = h.taken;
      marks = h.marks;
      fits = all_set (Fits h.server pass_of h.taken held) vs other spent_view spent (λ j y apart e. now j y e apart);
    }

-- what a pass learns of the rule that takes and puts
pub accounts : (pass : ℕ) (v : PassView) → v.is_server ≡ true → v.is_client ≡ true → Learns IsInTurn pass v (Accounts v)
accounts pass v serves sends held views h here =
    let mine = h.fits pass v here in
    let put = (mine.as_client sends).put in
    record { put = put ∙ ap (λ t. put_by v.client t held) (sym (mine.as_server serves).all); marks = ap ends_at_mark put ∙ h.marks v.client }

-- once a close mark was taken, what was put is what was taken
pub settles : (put taken held : List Message) → put ≡ taken ++ held → ends_at_mark put ≡ true → is_closed taken ≡ true → put ≡ taken
settles put taken held all ends closed = all ∙ (ap (λ l. taken ++ l) (ends-whole taken held (subst (λ l. ends_at_mark l ≡ true) all ends) closed) ∙ append-nil taken)
