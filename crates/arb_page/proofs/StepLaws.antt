-- Each load and each store keeps the rule. Nothing here opens what a legal history or a reading is.
use Rattle.std.proofs.Common.{◌≡◌, ℕ, ◌+◌, ◌<◌, List, [], ◌∷◌, ◌++◌, true, refl, sym, ◌∙◌, subst}
use Rattle.std.proofs.lemmas.List.{length-set}
use Rattle.std.specs.Prelude.{slice_index}
use mathlib.Core.Option.{none}
use mathlib.Core.List.{IsPrefix}
use Rattle.atomic_table.specs.Table.{Me, State, keeps, step, stepped, Allows}
use Rattle.arb_config.specs.Machine.{Machine}
use Rattle.arb_model.specs.declared.orders.Event.{Event}
use Rattle.arb_model.specs.Layout.{word_count}
use Rattle.arb_model.specs.History.{History, IsLegal, MayFollow}
use Rattle.arb_model.specs.Reading.{AreReadings, reading, word_written}
use Rattle.arb_model.proofs.LegalLaws.{legal_next}
use Rattle.arb_model.proofs.MemoryLaws.{same_are_readings, stored_are_readings}
use Rattle.arb_model.proofs.PrefixLaws.{prefix_more, prefix_of_nil, prefix_self}
use Rattle.arb_page.specs.declared.table.SeatView.{SeatView}
use Rattle.arb_page.specs.Rule.{Fits, ShowsOneHistory}
use Rattle.arb_page.specs.Steps.{Appends, Checks, Looks}
use Rattle.arb_page.specs.Views.{reader_view, writer_view}
use Rattle.arb_page.proofs.FitLaws.{fits_reader, fits_set}

-- a load keeps the rule where the seat's new view fits the history
load_keeps : {S : Type 0} (m : Machine) (s : State S SeatView) (i seat : ℕ) (taken : List (ℕ × S)) (now : SeatView) → (kept : ShowsOneHistory m s) → Fits kept.history seat now → ShowsOneHistory m (stepped s i (slice_index s.words i) seat taken now keeps)
load_keeps m s i seat taken now kept fits =
    record {
      history = kept.history;
      legal = kept.legal;
      count = length-set s.words i (slice_index s.words i) ∙ kept.count;
      words = same_are_readings s.words kept.history i kept.words;
      views = fits_set kept.history s.views seat now (λ j u _ e. kept.views j u e) fits;
    }

-- a load by a reader shows it the history so far
looks : {S : Type 0} (m : Machine) (slots seat i : ℕ) (me : Me S SeatView) → i < word_count
    → Allows (ShowsOneHistory m) slots seat me i (λ n. n) (Looks m (step slots i 0 0 none) me)
looks {S} m slots seat i me low s kept homes at small =
    let mine = kept.views seat me.0 at in
    let now : SeatView = reader_view kept.history (me.0.steps + 1) in (
      now,
      keeps,
      tt,
      load_keeps m s i seat me.1 now kept (fits_reader kept.history kept.history seat (me.0.steps + 1) (prefix_self kept.history)),
      record { seat = refl; value = kept.words i low; later = mine.seen; told = mine.told; legal = kept.legal },
    )

-- the same where the table's key is the machine of its name
pub looks_by_name : {S : Type 0} (key m : Machine) (slots seat i : ℕ) (me : Me S SeatView) → key ≡ m → i < word_count
    → Allows (ShowsOneHistory key) slots seat me i (λ n. n) (Looks m (step slots i 0 0 none) me)
looks_by_name {S} key m slots seat i me is low =
    rw is (looks m slots seat i me low)

-- a load by the writer shows that it had seen what it was told
pub checks : {S : Type 0} (m : Machine) (slots seat i : ℕ) (me : Me S SeatView) → me.0.writes ≡ true
    → Allows (ShowsOneHistory m) slots seat me i (λ n. n) (Checks (step slots i 0 0 none) me)
checks {S} m slots seat i me on s kept homes at small =
    let mine = kept.views seat me.0 at in
    let is = mine.writes on in
    let now : SeatView = writer_view me.0.seen (me.0.steps + 1) in (
      now,
      keeps,
      tt,
      load_keeps m s i seat me.1 now kept (record { seen = mine.seen; told = prefix_of_nil kept.history; writes = λ _. is }),
      record { seat = refl; told = subst (IsPrefix me.0.told) (sym is.1) mine.told },
    )

-- a store by the writer appends its event
appends : {S : Type 0} (m : Machine) (slots seat i n : ℕ) (e : Event) (me : Me S SeatView) → me.0.writes ≡ true → IsLegal m me.0.seen → MayFollow m me.0.seen e
    → i ≡ word_written e → i < word_count → n ≡ reading (me.0.seen ++ e ∷ []) i
    → Allows (ShowsOneHistory m) slots seat me i (λ _. n) (λ _. Appends (e ∷ []) (step slots i n 0 none) me n)
appends {S} m slots seat i n e me on legal may own low is s kept homes at small =
    let mine = kept.views seat me.0 at in
    let one = mine.writes on in
    let h : History = me.0.seen in
    let next : History = h ++ e ∷ [] in
    let now : SeatView = writer_view next (me.0.steps + 1) in (
      now,
      keeps,
      tt,
      record {
        history = next;
        legal = legal_next m h e legal may;
        count = length-set s.words i n ∙ kept.count;
        words = stored_are_readings s.words h i n e own (subst (λ k. i < k) (sym kept.count) low) is (subst (AreReadings s.words) (sym one.1) kept.words);
        views = fits_set next s.views seat now
            (λ j u apart x. let theirs = kept.views j u x in record {
              seen = prefix_more u.seen h (e ∷ []) (subst (IsPrefix u.seen) (sym one.1) theirs.seen);
              told = prefix_more u.told h (e ∷ []) (subst (IsPrefix u.told) (sym one.1) theirs.told);
              writes = λ k. absurd (apart ((theirs.writes k).0 ∙ sym one.0));
            })
            (record { seen = prefix_self next; told = prefix_of_nil next; writes = λ _. (one.0, refl) });
      },
      refl,
    )

-- the same where the table's key is the machine of its name
pub appends_by_name : {S : Type 0} (key m : Machine) (slots seat i n : ℕ) (e : Event) (me : Me S SeatView) → key ≡ m → me.0.writes ≡ true → IsLegal m me.0.seen → MayFollow m me.0.seen e
    → i ≡ word_written e → i < word_count → n ≡ reading (me.0.seen ++ e ∷ []) i
    → Allows (ShowsOneHistory key) slots seat me i (λ _. n) (λ _. Appends (e ∷ []) (step slots i n 0 none) me n)
appends_by_name {S} key m slots seat i n e me same on legal may own low is =
    rw same (appends m slots seat i n e me on legal may own low is)
