-- The bars of a run are who has which core.
use Rattle.std.proofs.Common.{◌≡◌, ◌≢◌, ℕ, ◌+◌, ◌-◌, ◌<◌, ◌≤◌, ◌==◌, List, [], ◌∷◌, inl, inr, Option, Some, None, Bool, true, false, zero, suc, refl, sym, ap, ◌∙◌, arith, subst, length, drop, take}
use Rattle.std.specs.Prelude.{cond, map, not, is_some, slice_index_or, Contains, ◌&&◌}
use Rattle.std.specs.Option.{option_to_list}
use Rattle.std.proofs.lemmas.Bool.{false≢true}
use Rattle.std.proofs.lemmas.List.{get_or-map, length-map, length-drop}
use Rattle.std.proofs.lemmas.List.FromFn.{get_or-map-range_with_len, length-map-range_with_len}
use Rattle.arb_config.specs.Machine.{Machine, cores_of}
use Rattle.arb_model.specs.declared.holders.Holder.{Holder}
use Rattle.arb_model.specs.Standing.{Standing, holder_at}
use Rattle.arb_script.specs.declared.given.ClientOrder.{ClientOrder}
use Rattle.arb_script.specs.Report.{standing_after}
use Rattle.arb_draw.specs.declared.bar.Bar.{Bar}
use Rattle.arb_draw.specs.declared.bar.ManagedCore.{ManagedCore}
use Rattle.arb_draw.specs.declared.choice.Orders.{Orders}
use Rattle.arb_draw.specs.declared.part.Part.{Part}
use Rattle.arb_draw.specs.declared.part.Part.TheVariants.{Held, Asked}
use Rattle.arb_draw.specs.declared.span.Span.{Span}
use Rattle.arb_draw.specs.Bars.{bar_of, bars_at, bars_from, core_at, owner_in, part_bars, row_of}
use Rattle.arb_draw.specs.Frames.{Shown, cell_of, frame_of}
use Rattle.arb_draw.specs.Laws.{BarsAreLongest, BarsAreOwners, HasBar, has, owner_after}
use Rattle.arb_draw.specs.Picture.{frames_at, run_bars}
use Rattle.arb_draw.specs.Spans.{is_thread, run_at}
use Rattle.arb_draw.proofs.MemberLaws.{HasPiece, contains_either, contains_left, contains_piece, contains_right, piece_of}
use Rattle.arb_draw.proofs.SpanLaws.{Begins, HasRun, all_along, begins_of, covered, is_thread_is, is_thread_self, not_after, run_length-le}

-- the row of a position, over the drawn orders
abbrev pub row_at : Machine → List ClientOrder → Orders → Part → ℕ → List (Option ℕ)
row_at m script orders part position = row_of (frames_at m script orders) part position

pub row-length : (m : Machine) (script : List ClientOrder) (orders : Orders) (part : Part) (position : ℕ) → length (row_at m script orders part position) ≡ orders.count
row-length m script orders part position =
    length-map (frames_at m script orders) (λ frame. owner_in part (slice_index_or frame.cells position None))
    ∙ length-map-range_with_len (λ order. frame_of m (standing_after m (take order script))) orders.first orders.count

-- a row has who has the core after each drawn order
pub row-is : (m : Machine) (script : List ClientOrder) (orders : Orders) (part : Part) (position k : ℕ) → position < length (cores_of m) → k < orders.count → slice_index_or (row_at m script orders part position) k None ≡ owner_in part (cell_of (owner_after m script (orders.first + k) position))
row-is m script orders part position k within inside =
    let shown : ℕ → Shown = λ order. frame_of m (standing_after m (take order script)) in
    let d : Shown = shown (orders.first + k) in
    let there : k < length (frames_at m script orders) = omega (arith, length-map-range_with_len shown orders.first orders.count) in
    let s : Standing = standing_after m (take (orders.first + k) script) in
    get_or-map (λ frame. owner_in part (slice_index_or frame.cells position None)) (frames_at m script orders) k d None there
    ∙ (ap (λ frame. owner_in part (slice_index_or frame.cells position None)) (get_or-map-range_with_len shown orders.first orders.count k (orders.first + k) d inside refl)
    ∙ ap (owner_in part) (get_or-map-range_with_len (λ p. cell_of (holder_at s.seats.cores p)) 0 (length (cores_of m)) position position None within (omega arith)))

-- who is shown of a holder
pub has-is : (part : Part) (thread : ℕ) (holder : Option Holder) → is_thread thread (owner_in part (cell_of holder)) ≡ has part thread holder
has-is Held thread None = refl
has-is Asked thread None = refl
has-is Held thread (Some holder) = refl
has-is Asked thread (Some holder) = by_test (is_some holder.asked) (holder.thread == thread) refl
  where
    by_test : (asked same : Bool) → holder.thread == thread ≡ same → is_thread thread (cond asked (Some holder.thread) None) ≡ same && asked
    by_test true true e = e
    by_test true false e = e
    by_test false true e = refl
    by_test false false e = refl

-- a thread has a core exactly where the row has it
pub row-has : (m : Machine) (script : List ClientOrder) (orders : Orders) (part : Part) (position thread k : ℕ) → position < length (cores_of m) → k < orders.count → is_thread thread (slice_index_or (row_at m script orders part position) k None) ≡ has part thread (owner_after m script (orders.first + k) position)
row-has m script orders part position thread k within inside =
    ap (is_thread thread) (row-is m script orders part position k within inside) ∙ has-is part thread (owner_after m script (orders.first + k) position)

-- where a bar comes from: the run that an index of the row of a position begins
pub record ComesOfRun (m : Machine) (script : List ClientOrder) (orders : Orders) (bar : Bar) : Type 0 where
  pub position : ℕ
  pub shows : Part
  pub index : ℕ
  pub span : Span
  pub within : position < length (cores_of m)
  pub inside : index < length (row_at m script orders shows position)
  pub run : run_at (row_at m script orders shows position) index ≡ Some span
  pub is : bar ≡ bar_of shows (core_at m position) orders.first span

-- the only element of what an option makes
only_of : (f : Span → Bar) (found : Option Span) (bar : Bar) → Contains (map f (option_to_list found)) bar → (span : Span) × (found ≡ Some span) × (bar ≡ f span)
only_of f None bar h = absurd (omega (arith, h.1))
only_of f (Some span) bar h = (span, refl, by_place h.0 h.1 h.2)
  where
    by_place : (k : ℕ) → k < 1 → slice_index_or (f span ∷ []) k bar ≡ bar → bar ≡ f span
    by_place zero within e = sym e
    by_place (suc k) within e = absurd (omega arith)

-- what an option makes has it
only_there : (f : Span → Bar) (found : Option Span) (span : Span) → found ≡ Some span → Contains (map f (option_to_list found)) (f span)
only_there f found span e = subst (λ (o : Option Span). Contains (map f (option_to_list o)) (f span)) (sym e) (0, omega arith, refl)

-- of a row's bars
row_parts : (m : Machine) (script : List ClientOrder) (orders : Orders) (bar : Bar) (part : Part) (position : ℕ) → position < length (cores_of m) → Contains (part_bars part (core_at m position) orders.first (row_at m script orders part position)) bar → ComesOfRun m script orders bar
row_parts m script orders bar part position within h =
    let row : List (Option ℕ) = row_at m script orders part position in
    let piece : HasPiece (bars_from part (core_at m position) orders.first row) 0 (length row) bar = piece_of (bars_from part (core_at m position) orders.first row) 0 (length row) bar h in
    let found = only_of (bar_of part (core_at m position) orders.first) (run_at row (0 + piece.k)) bar piece.there in
    record {
      position = position;
      shows = part;
      index = 0 + piece.k;
      span = found.0;
      within = within;
      inside = omega (arith, piece.within);
      run = found.1;
      is = found.2;
    }

-- each bar comes of a run
pub bar_parts : (m : Machine) (script : List ClientOrder) (orders : Orders) (bar : Bar) → Contains (run_bars m script orders) bar → ComesOfRun m script orders bar
unfolding run_bars
bar_parts m script orders bar h =
    let frames : List Shown = frames_at m script orders in
    let piece : HasPiece (bars_at m orders.first frames) 0 (length (cores_of m)) bar = piece_of (bars_at m orders.first frames) 0 (length (cores_of m)) bar h in
    let position : ℕ = 0 + piece.k in
    let within : position < length (cores_of m) = omega (arith, piece.within) in
    elim (contains_either (part_bars Held (core_at m position) orders.first (row_at m script orders Held position)) (part_bars Asked (core_at m position) orders.first (row_at m script orders Asked position)) bar piece.there) [
      | inl held ↦ row_parts m script orders bar Held position within held
      | inr asked ↦ row_parts m script orders bar Asked position within asked
    ]

-- a run of a row has its bar
row_there : (part : Part) (core : ManagedCore) (first : ℕ) (row : List (Option ℕ)) (index : ℕ) (span : Span) → index < length row → run_at row index ≡ Some span → Contains (part_bars part core first row) (bar_of part core first span)
row_there part core first row index span inside run =
    let place : index ≡ 0 + index = omega arith in
    contains_piece (bars_from part core first row) 0 (length row) index (bar_of part core first span) inside (subst (λ (k : ℕ). Contains (bars_from part core first row k) (bar_of part core first span)) place (only_there (bar_of part core first) (run_at row index) span run))

-- each run has its bar
pub bar_there : (m : Machine) (script : List ClientOrder) (orders : Orders) (part : Part) (position index : ℕ) (span : Span) → position < length (cores_of m) → index < length (row_at m script orders part position) → run_at (row_at m script orders part position) index ≡ Some span → Contains (run_bars m script orders) (bar_of part (core_at m position) orders.first span)
unfolding run_bars
bar_there m script orders part position index span within inside run =
    let place : position ≡ 0 + position = omega arith in
    contains_piece (bars_at m orders.first (frames_at m script orders)) 0 (length (cores_of m)) position (bar_of part (core_at m position) orders.first span) within (subst (λ (p : ℕ). Contains (bars_at m orders.first (frames_at m script orders) p) (bar_of part (core_at m position) orders.first span)) place (by_part part inside run))
  where
    by_part : (shows : Part) → index < length (row_at m script orders shows position) → run_at (row_at m script orders shows position) index ≡ Some span → Contains (bars_at m orders.first (frames_at m script orders) position) (bar_of shows (core_at m position) orders.first span)
    by_part Held low is = contains_left (part_bars Held (core_at m position) orders.first (row_at m script orders Held position)) (part_bars Asked (core_at m position) orders.first (row_at m script orders Asked position)) (bar_of Held (core_at m position) orders.first span) (row_there Held (core_at m position) orders.first (row_at m script orders Held position) index span low is)
    by_part Asked low is = contains_right (part_bars Held (core_at m position) orders.first (row_at m script orders Held position)) (part_bars Asked (core_at m position) orders.first (row_at m script orders Asked position)) (bar_of Asked (core_at m position) orders.first span) (row_there Asked (core_at m position) orders.first (row_at m script orders Asked position) index span low is)

-- a run ends with its row at the latest
run_in_row : (row : List (Option ℕ)) (index : ℕ) (span : Span) → index < length row → Begins row index span → span.to ≤ length row
run_in_row row index span inside b = omega (arith, b.to, run_length-le span.thread (drop index row), length-drop index row)

-- a run has an index
run_some : (row : List (Option ℕ)) (index : ℕ) (span : Span) → index < length row → Begins row index span → span.from < span.to
run_some row index span inside b =
    let first : is_thread span.thread (slice_index_or row span.to None) ≡ false = not_after row index span b in
    let here : is_thread span.thread (slice_index_or row index None) ≡ true = is_thread_self span.thread (slice_index_or row index None) b.here in
    let apart : index ≢ span.to = λ same. false≢true (sym first ∙ (ap (λ k. is_thread span.thread (slice_index_or row k None)) (sym same) ∙ here)) in
    omega (arith, b.from, b.to, apart)

-- who has a core after an order has a bar there
bar_of_owner : (m : Machine) (script : List ClientOrder) (orders : Orders) (part : Part) (position thread order : ℕ) → position < length (cores_of m) → orders.first ≤ order → order < orders.first + orders.count → has part thread (owner_after m script order position) ≡ true → HasBar (run_bars m script orders) m part position thread order
bar_of_owner m script orders part position thread order within low high is =
    let k : ℕ = order - orders.first in
    let place : orders.first + k ≡ order = omega arith in
    let inside : k < orders.count = omega arith in
    let row : List (Option ℕ) = row_at m script orders part position in
    let there : k < length row = omega (arith, row-length m script orders part position) in
    let same : is_thread thread (slice_index_or row k None) ≡ true = row-has m script orders part position thread k within inside ∙ (ap (λ n. has part thread (owner_after m script n position)) place ∙ is) in
    let run : HasRun row thread k = covered row thread k there (is_thread_is thread (slice_index_or row k None) same) in
    record {
      bar = bar_of part (core_at m position) orders.first run.span;
      drawn = bar_there m script orders part position run.index run.span within run.within run.is;
      shows = refl;
      core = refl;
      of = run.of;
      from = omega (arith, run.from);
      to = omega (arith, run.to);
    }

-- where a run's thread is, it has the core
run_has : (m : Machine) (script : List ClientOrder) (orders : Orders) (bar : Bar) (b : ComesOfRun m script orders bar) (order : ℕ) → bar.from ≤ order → order < bar.to → has bar.part bar.thread (owner_after m script order b.position) ≡ true
run_has m script orders bar b order low high =
    let row : List (Option ℕ) = row_at m script orders b.shows b.position in
    let parts : Begins row b.index b.span = begins_of row b.index b.span b.run in
    let from : bar.from ≡ orders.first + b.span.from = ap (λ (x : Bar). x.from) b.is in
    let to : bar.to ≡ orders.first + b.span.to = ap (λ (x : Bar). x.to) b.is in
    let part : bar.part ≡ b.shows = ap (λ (x : Bar). x.part) b.is in
    let thread : bar.thread ≡ b.span.thread = ap (λ (x : Bar). x.thread) b.is in
    let k : ℕ = order - orders.first in
    let place : orders.first + k ≡ order = omega arith in
    let long : b.span.to ≤ length row = run_in_row row b.index b.span b.inside parts in
    let inside : k < orders.count = omega (arith, row-length m script orders b.shows b.position) in
    let here : slice_index_or row k None ≡ Some b.span.thread = all_along row b.index b.span k parts (omega arith) (omega arith) in
    let same : is_thread b.span.thread (slice_index_or row k None) ≡ true = is_thread_self b.span.thread (slice_index_or row k None) here in
    let found : has b.shows b.span.thread (owner_after m script (orders.first + k) b.position) ≡ true = sym (row-has m script orders b.shows b.position b.span.thread k b.within inside) ∙ same in
    ap (λ p. has p bar.thread (owner_after m script order b.position)) part
    ∙ (ap (λ t. has b.shows t (owner_after m script order b.position)) thread
    ∙ (ap (λ n. has b.shows b.span.thread (owner_after m script n b.position)) (sym place) ∙ found))

owner_of_bar : (m : Machine) (script : List ClientOrder) (orders : Orders) (part : Part) (position thread order : ℕ) → HasBar (run_bars m script orders) m part position thread order → has part thread (owner_after m script order position) ≡ true
owner_of_bar m script orders part position thread order h =
    let b : ComesOfRun m script orders h.bar = bar_parts m script orders h.bar h.drawn in
    let there : b.position ≡ position = ap (λ (x : Bar). x.core.position) (sym b.is) ∙ ap (λ (c : ManagedCore). c.position) h.core in
    ap (λ p. has p thread (owner_after m script order position)) (sym h.shows)
    ∙ (ap (λ t. has h.bar.part t (owner_after m script order position)) (sym h.of)
    ∙ (ap (λ n. has h.bar.part h.bar.thread (owner_after m script order n)) (sym there) ∙ run_has m script orders h.bar b order h.from h.to))

pub bars_are_owners : BarsAreOwners
bars_are_owners m script orders part position thread order within low high =
    (owner_of_bar m script orders part position thread order, bar_of_owner m script orders part position thread order within low high)

-- where a row has another, the thread hasn't the core
run_lacks : (m : Machine) (script : List ClientOrder) (orders : Orders) (bar : Bar) (b : ComesOfRun m script orders bar) (k order : ℕ) → orders.first + k ≡ order → k < orders.count → is_thread b.span.thread (slice_index_or (row_at m script orders b.shows b.position) k None) ≡ false → has bar.part bar.thread (owner_after m script order bar.core.position) ≡ false
run_lacks m script orders bar b k order place inside lacks =
    let position : bar.core.position ≡ b.position = ap (λ (x : Bar). x.core.position) b.is in
    let part : bar.part ≡ b.shows = ap (λ (x : Bar). x.part) b.is in
    let thread : bar.thread ≡ b.span.thread = ap (λ (x : Bar). x.thread) b.is in
    ap (λ p. has p bar.thread (owner_after m script order bar.core.position)) part
    ∙ (ap (λ t. has b.shows t (owner_after m script order bar.core.position)) thread
    ∙ (ap (λ n. has b.shows b.span.thread (owner_after m script order n)) position
    ∙ (ap (λ n. has b.shows b.span.thread (owner_after m script n b.position)) (sym place)
    ∙ (sym (row-has m script orders b.shows b.position b.span.thread k b.within inside) ∙ lacks))))

-- before a run begins its thread isn't there
not_before : (row : List (Option ℕ)) (index k : ℕ) (span : Span) → Begins row index span → k + 1 ≡ index → is_thread span.thread (slice_index_or row k None) ≡ false
not_before row zero k span b e = absurd (omega arith)
not_before row (suc index) k span b e =
    let same : k ≡ index = omega arith in
    ap (λ n. is_thread span.thread (slice_index_or row n None)) same ∙ not_true (is_thread span.thread (slice_index_or row index None)) b.begins
  where
    not_true : (t : Bool) → not t ≡ true → t ≡ false
    not_true true h = absurd (false≢true h)
    not_true false h = refl

pub bars_are_longest : BarsAreLongest
bars_are_longest m script orders bar h =
    let b : ComesOfRun m script orders bar = bar_parts m script orders bar h in
    let row : List (Option ℕ) = row_at m script orders b.shows b.position in
    let parts : Begins row b.index b.span = begins_of row b.index b.span b.run in
    let from : bar.from ≡ orders.first + b.span.from = ap (λ (x : Bar). x.from) b.is in
    let to : bar.to ≡ orders.first + b.span.to = ap (λ (x : Bar). x.to) b.is in
    let long : b.span.to ≤ orders.count = omega (arith, run_in_row row b.index b.span b.inside parts, row-length m script orders b.shows b.position) in
    let few : b.index < orders.count = omega (arith, b.inside, row-length m script orders b.shows b.position) in
    let some : b.span.from < b.span.to = run_some row b.index b.span b.inside parts in
    record {
      some = omega arith;
      first = omega arith;
      last = omega arith;
      before = λ order low next.
          run_lacks m script orders bar b (order - orders.first) order (omega arith) (omega (arith, parts.from)) (not_before row b.index (order - orders.first) b.span parts (omega (arith, parts.from)));
      after = λ high. run_lacks m script orders bar b b.span.to bar.to (sym to) (omega arith) (not_after row b.index b.span parts);
    }
