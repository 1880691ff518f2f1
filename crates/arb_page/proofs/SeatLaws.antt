-- A seat that is copied, or takes in another, keeps the rule.
use Rattle.std.proofs.Common.{ℕ, [], set, inl, inr}
use Rattle.atomic_table.specs.Table.{Joins, Splits}
use Rattle.atomic_table.proofs.Lists.{at_set, at_snoc}
use Rattle.arb_config.specs.Machine.{Machine}
use Rattle.arb_model.specs.History.{History}
use Rattle.arb_model.proofs.PrefixLaws.{prefix_of_nil}
use Rattle.arb_page.specs.declared.table.SeatView.{SeatView}
use Rattle.arb_page.specs.Rule.{Fits, ShowsOneHistory}
use Rattle.arb_page.specs.Views.{reader_view, stepped, told_by}
use Rattle.arb_page.proofs.FitLaws.{fits_reader, fits_set}

-- a copy of what was seen
pub copies : {S : Type 0} (m : Machine) (seat : ℕ) (v : SeatView) → Splits {S = S} (ShowsOneHistory m) seat v (stepped v) (reader_view v.seen 0)
copies {S} m seat v s kept at =
    let h : History = kept.history in
    let mine = kept.views seat v at in record {
      history = h;
      legal = kept.legal;
      count = kept.count;
      words = kept.words;
      views = λ j u e.
          elim (at_snoc (set s.views seat (stepped v)) (reader_view v.seen 0) u j e) [
            | inl was ↦ fits_set h s.views seat (stepped v) (λ k x _ e'. kept.views k x e') (record { seen = mine.seen; told = mine.told; writes = mine.writes }) j u was
            | inr same ↦ rw (← same) (fits_reader h v.seen j 0 mine.seen)
          ];
    }

-- what another seat has seen is told
pub tells : {S : Type 0} (m : Machine) (seat : ℕ) (v : SeatView) (other : ℕ) (u : SeatView) → Joins {S = S} (ShowsOneHistory m) seat v other u (told_by v u) (reader_view [] 0)
tells {S} m seat v other u s kept at apart there =
    let h : History = kept.history in
    let both : SeatView = told_by v u in
    let mine = kept.views seat v at in
    let theirs : Fits h other u = elim (at_set s.views seat other both u there) [ inl t ↦ absurd (apart t.0) | inr t ↦ kept.views other u t.1 ] in record {
      history = h;
      legal = kept.legal;
      count = kept.count;
      words = kept.words;
      views = fits_set h (set s.views seat both) other (reader_view [] 0)
          (λ j x _ e. fits_set h s.views seat both (λ i y _ e'. kept.views i y e') (record { seen = mine.seen; told = theirs.seen; writes = mine.writes }) j x e)
          (fits_reader h [] other 0 (prefix_of_nil h));
    }
