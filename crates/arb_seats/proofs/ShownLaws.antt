-- Page words that show the seats, as one thread after another changes its place.
use Rattle.arb_seats.proofs.Words.{◌≡◌, ℕ, ◌-◌, ◌<◌, List, map, arith, ap, None, Bool, false, slice_index, ◌^◌, if◌then◌else◌, sum, replicate, range_with_len, lt-ltb, le-ltb, length-replicate}
use Rattle.arb_seats.proofs.Words.{written, get_or-same, CoreTable, AreThreads, ShownSeats, ShowsSeats, PageWords, Seats, half_size, position_in, word_count, asked_bit, is_asked_of, ◌+◌, drop}
use Rattle.arb_seats.proofs.Words.{Option, Some, MatchOption, set, socket_by_position, after_grants, GrantsLeft, seat_word, seats, all_threads, first_place, place_index, release_index, cases_lt, inl, inr, refl, sym, ◌∙◌}
use Rattle.arb_model.specs.Layout.{release_app, release_half}
use Rattle.arb_model.specs.Standing.{Standing, nobody}
use Rattle.arb_model.specs.Words.{word_of}
use Rattle.arb_model.proofs.PlacesLaws.{places_nowhere}
use Rattle.arb_seats.proofs.PlaceWordsLaws.{word_nowhere}
use Rattle.arb_seats.proofs.ReleaseWordsLaws.{release_of}
use Rattle.arb_seats.specs.NextPost.{PostsNext}
use Rattle.arb_seats.specs.PageWords.{next_stale_in}
use Rattle.arb_seats.proofs.MoveLaws.{holder_is_thread}
use Rattle.arb_seats.proofs.PagesLaws.{next_stale_in-is}

-- the seats of the fields, with what was posted
abbrev pub floor : CoreTable → List ℕ → List Bool → PageWords → ShownSeats
floor table waiting moved pages = record { machine = table.machine; seats = seats table.cores waiting moved; posted = pages.posted }

pub are_threads_shown : {s : Seats} {pages : PageWords} → ShowsSeats s pages → AreThreads s.cores
are_threads_shown h p = grind (arith, holder_is_thread)

-- the floor with other seats
abbrev pub seated : ShownSeats → Seats → ShownSeats
seated f s = record { machine = f.machine; seats = s; posted = f.posted }

-- the applications from one on have grants left, that one so many
pub record IsGranting (from now : ShownSeats) (due grants : List ℕ) (app here : ℕ) : Type 0 where
  pub left : GrantsLeft (socket_by_position from.machine) app here (drop (app + 1) grants) now.seats (after_grants (socket_by_position from.machine) due from.seats)
  pub rest : now ≡ seated from now.seats

-- nobody is anywhere, and all words are 0
nothing_asked : (n app half : ℕ) → release_of (replicate n None) app half ≡ 0
nothing_asked n app half =
    let bits : asked_bit app half (replicate n None) ≡ (λ p. 0) = λ j p. if is_asked_of app (get_or-same n (position_in half p) None j) then 2 ^ p else 0 in
    ap (λ (f : ℕ → ℕ). sum (map f (range_with_len 0 half_size))) bits

pub shows_nobody : (n : ℕ) → ShowsSeats (nobody n) (record { words = replicate word_count 0; posted = replicate word_count 0 })
shows_nobody n =
    record {
      once = λ t. omega (arith, places_nowhere n all_threads t);
      threads = λ t some. absurd (omega (arith, some, places_nowhere n all_threads t));
      marks = length-replicate all_threads false;
      long = length-replicate {A = ℕ} word_count 0;
      full = length-replicate {A = ℕ} word_count 0;
      entered = refl;
      places = λ t lt. get_or-same word_count (place_index t) 0 ∙ sym (word_nowhere (nobody n) t (places_nowhere n all_threads t));
      releases = λ app half lt few. get_or-same word_count (release_index app half) 0 ∙ sym (nothing_asked n app half);
    }

-- each word but word 0 is that of the seats
pub shown_word : {s : Seats} {pages : PageWords} (w : ℕ) → ShowsSeats s pages → 0 < w → w < word_count → slice_index pages.words w ≡ seat_word s w
shown_word w h some less =
    elim (cases_lt w first_place) [
      | inl low ↦
          let same : release_index (release_app w) (release_half w) ≡ w = omega (arith, some) in
          rw (lt-ltb w first_place low) (rw same at (h.releases (release_app w) (release_half w) (omega (arith, low, some)) (omega arith)))
      | inr high ↦
          let same : place_index (w - first_place) ≡ w = omega (arith, high) in
          rw (le-ltb w first_place high) (rw same at (h.places (w - first_place) (omega (arith, high, less))))
    ]

-- and with word 0 all words are those of a standing
pub shown_words : (s : Seats) (pages : PageWords) (t : Standing) → ShowsSeats s pages → t.seats ≡ s → sum t.counts ≡ slice_index pages.posted 0 → (w : ℕ) → w < word_count
    → slice_index pages.words w ≡ word_of t w
shown_words s pages t h is total w less = grind (arith, written, shown_word)

-- the next post of the words is that of such a standing
pub next_posted : (next : Option (ℕ × ℕ)) (s : Standing) (pages after : PageWords) → ((w : ℕ) → w < word_count → slice_index pages.words w ≡ word_of s w)
    → MatchOption next ((next_stale_in pages ≡ None) × (after ≡ pages))
    (λ post. (post.0 < word_count) × ((next_stale_in pages ≡ Some post.0) × ((post.1 ≡ slice_index pages.words post.0) × (after ≡ record pages { posted = set pages.posted post.0 post.1 }))))
    → PostsNext s pages.posted after.posted next
next_posted None s pages after same (none, is) = (sym (next_stale_in-is s pages same) ∙ none, ap (λ (p : PageWords). p.posted) is)
next_posted (Some post) s pages after same (less, (next, (value, is))) =
    (sym (next_stale_in-is s pages same) ∙ next, (value ∙ same post.0 less, ap (λ (p : PageWords). p.posted) is))
