-- The longest runs in a row.
use Rattle.std.proofs.Common.{◌≡◌, ℕ, ◌+◌, ◌-◌, ◌<◌, ◌≤◌, ◌≢◌, List, [], ◌∷◌, Option, Some, None, Bool, true, false, zero, suc, refl, sym, ap, ◌∙◌, arith, subst, length, drop, get_or-drop}
use Rattle.std.specs.Prelude.{cond, not, slice_index_or}
use Rattle.std.proofs.lemmas.Bool.{eqb-true, eq-eqb, false≢true}
use Rattle.arb_draw.specs.declared.span.Span.{Span}
use Rattle.arb_draw.specs.Spans.{begins, is_thread, run_at, run_length, run_of}

-- a row
abbrev Row : Type 0
Row = List (Option ℕ)

-- who is at an index
abbrev at : Row → ℕ → Option ℕ
at row k = slice_index_or row k None

pub is_thread_is : (thread : ℕ) (owner : Option ℕ) → is_thread thread owner ≡ true → owner ≡ Some thread
is_thread_is thread None e = absurd (false≢true e)
is_thread_is thread (Some other) e = ap Some (eqb-true other thread e)

pub is_thread_self : (thread : ℕ) (owner : Option ℕ) → owner ≡ Some thread → is_thread thread owner ≡ true
is_thread_self thread owner e = ap (is_thread thread) e ∙ eq-eqb thread thread refl

-- as far as a thread's run goes, it is there
pub in_run : (thread : ℕ) (row : Row) (k : ℕ) → k < run_length thread row → at row k ≡ Some thread
in_run thread [] k h = absurd (omega arith)
in_run thread (owner ∷ row) k h = by_owner (in_run thread row) (is_thread thread owner) refl h k refl
  where
    by_owner : ((i : ℕ) → i < run_length thread row → at row i ≡ Some thread) → (b : Bool) → is_thread thread owner ≡ b → k < cond b (run_length thread row + 1) 0 → (j : ℕ) → j ≡ k → at (owner ∷ row) j ≡ Some thread
    by_owner further false e i j same = absurd (omega arith)
    by_owner further true e i zero same = is_thread_is thread owner e
    by_owner further true e i (suc j) same = further j (omega arith)

-- behind a thread's run it isn't there
pub after_run : (thread : ℕ) (row : Row) → is_thread thread (at row (run_length thread row)) ≡ false
after_run thread [] = refl
after_run thread (owner ∷ row) = by_owner (after_run thread row) (is_thread thread owner) refl
  where
    by_owner : is_thread thread (at row (run_length thread row)) ≡ false → (b : Bool) → is_thread thread owner ≡ b → is_thread thread (at (owner ∷ row) (cond b (run_length thread row + 1) 0)) ≡ false
    by_owner further false e = e
    by_owner further true e =
        let next : run_length thread row + 1 ≡ suc (run_length thread row) = omega arith in
        ap (λ k. is_thread thread (at (owner ∷ row) k)) next ∙ further

pub run_length-le : (thread : ℕ) (row : Row) → run_length thread row ≤ length row
run_length-le thread [] = omega arith
run_length-le thread (owner ∷ row) = by_owner (run_length-le thread row) (is_thread thread owner)
  where
    by_owner : run_length thread row ≤ length row → (b : Bool) → cond b (run_length thread row + 1) 0 ≤ suc (length row)
    by_owner further false = omega arith
    by_owner further true = omega (arith, further)

-- a row that begins with a thread has a run of it
pub some_run : (thread : ℕ) (row : Row) → at row 0 ≡ Some thread → 0 < run_length thread row
some_run thread [] e = absurd (cc)
some_run thread (owner ∷ row) e =
    let is : is_thread thread owner ≡ true = is_thread_self thread owner e in
    rw is (omega arith)

-- what is known of the run that an index begins
pub record Begins (row : Row) (index : ℕ) (span : Span) : Type 0 where
  pub here : at row index ≡ Some span.thread
  pub from : span.from ≡ index
  pub to : span.to ≡ index + run_length span.thread (drop index row)
  pub begins : begins span.thread row index ≡ true

pub begins_of : (row : Row) (index : ℕ) (span : Span) → run_at row index ≡ Some span → Begins row index span
begins_of row index span e = by_owner (at row index) refl
  where
    by_test : (thread : ℕ) → at row index ≡ Some thread → (b : Bool) → begins thread row index ≡ b → cond b (Some (record { thread = thread; from = index; to = index + run_length thread (drop index row) })) None ≡ Some span → Begins row index span
    by_test thread here false is found = absurd (cc)
    by_test thread here true is found =
        let same : Span = record { thread = thread; from = index; to = index + run_length thread (drop index row) } in
        let equal : same ≡ span = cc in
        subst (Begins row index) equal (record { here = here; from = refl; to = refl; begins = is })

    by_owner : (owner : Option ℕ) → at row index ≡ owner → Begins row index span
    by_owner None here = let none : run_of row index None ≡ Some span = ap (run_of row index) (sym here) ∙ e in absurd (cc)
    by_owner (Some thread) here = by_test thread here (begins thread row index) refl (ap (run_of row index) (sym here) ∙ e)

-- a run that an index begins, where it does
pub run_is : (row : Row) (index thread : ℕ) → at row index ≡ Some thread → begins thread row index ≡ true → run_at row index ≡ Some (record { thread = thread; from = index; to = index + run_length thread (drop index row) })
run_is row index thread here is = ap (run_of row index) here ∙ ap (λ b. cond b (Some (record { thread = thread; from = index; to = index + run_length thread (drop index row) })) None) is

-- a run has this thread at an index
pub record HasRun (row : Row) (thread k : ℕ) : Type 0 where
  pub index : ℕ
  pub span : Span
  pub within : index < length row
  pub is : run_at row index ≡ Some span
  pub of : span.thread ≡ thread
  pub from : span.from ≤ k
  pub to : k < span.to

-- who is at an index, seen from an earlier one
at_drop : (row : Row) (index k : ℕ) → at (drop index row) k ≡ at row (index + k)
at_drop row index k = get_or-drop index row k None

-- a run that an index begins has it
begun : (row : Row) (thread k : ℕ) → k < length row → at row k ≡ Some thread → begins thread row k ≡ true → HasRun row thread k
begun row thread k within here is =
    let place : k + 0 ≡ k = omega arith in
    let some : 0 < run_length thread (drop k row) = some_run thread (drop k row) (at_drop row k 0 ∙ ap (at row) place ∙ here) in
    record {
      index = k;
      span = record { thread = thread; from = k; to = k + run_length thread (drop k row) };
      within = within;
      is = run_is row k thread here is;
      of = refl;
      from = omega arith;
      to = omega arith;
    }

-- behind the run that an index begins its thread isn't there
pub not_after : (row : Row) (index : ℕ) (span : Span) → Begins row index span → is_thread span.thread (at row span.to) ≡ false
not_after row index span b =
    ap (λ k. is_thread span.thread (at row k)) b.to
    ∙ (ap (is_thread span.thread) (sym (at_drop row index (run_length span.thread (drop index row))))
    ∙ after_run span.thread (drop index row))

-- within a run its thread is there
pub all_along : (row : Row) (index : ℕ) (span : Span) (k : ℕ) → Begins row index span → span.from ≤ k → k < span.to → at row k ≡ Some span.thread
all_along row index span k b low high =
    let far : k - index < run_length span.thread (drop index row) = omega (arith, b.from, b.to) in
    let place : index + (k - index) ≡ k = omega (arith, b.from) in
    ap (at row) (sym place) ∙ sym (at_drop row index (k - index)) ∙ in_run span.thread (drop index row) (k - index) far

-- who is at an index has a run there
pub covered : (row : Row) (thread k : ℕ) → k < length row → at row k ≡ Some thread → HasRun row thread k
covered row thread zero within here = begun row thread zero within here refl
covered row thread (suc k) within here = by_before (covered row thread k (omega arith)) (is_thread thread (at row k)) refl
  where
    by_before : (at row k ≡ Some thread → HasRun row thread k) → (b : Bool) → is_thread thread (at row k) ≡ b → HasRun row thread (suc k)
    by_before earlier false e = begun row thread (suc k) within here (ap not e)
    by_before earlier true e =
        let before : HasRun row thread k = earlier (is_thread_is thread (at row k) e) in
        let parts = begins_of row before.index before.span before.is in
        let there : is_thread before.span.thread (at row (suc k)) ≡ true = is_thread_self before.span.thread (at row (suc k)) (here ∙ ap Some (sym before.of)) in
        let apart : suc k ≢ before.span.to =
        λ same. false≢true (sym (not_after row before.index before.span parts) ∙ (ap (λ n. is_thread before.span.thread (at row n)) (sym same) ∙ there)) in
        record {
          index = before.index;
          span = before.span;
          within = before.within;
          is = before.is;
          of = before.of;
          from = omega (arith, before.from);
          to = omega (arith, before.to, apart);
        }
