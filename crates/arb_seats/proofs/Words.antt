-- The words that most proofs of this crate use, brought together under one name.
pub use Rattle.std.proofs.Common.{◌≡◌, ℕ, ◌+◌, ◌*◌, ◌/◌, ◌<◌, ◌≤◌, List, [], ◌∷◌, length, zero, suc, refl, arith, ap, inl, inr, ◌-◌, ◌++◌, replicate, get_or, set, take, sym, ◌∙◌, Bool, true, not}
pub use Rattle.std.proofs.Common.{filter, map, Option, false, is_some, unwrap_or, eqb, Some, None, cond, nat_lt, slice_index, MatchOption, slice_index_or, nat_le, ◌⊎◌, length-append, drop, sum, rules}
pub use Rattle.std.proofs.Common.{lt-ltb, le-ltb}
pub use Rattle.std.specs.Prelude.{◌==◌, remove, ◌&&◌, ◌||◌, if◌then◌else◌, IfSome}
pub use Rattle.std.specs.List.{All, sum_by, count_by, position_or_len, list_any, range_with_len}
pub use Rattle.std.proofs.lemmas.Bool.{cases_Bool, ne_eqb, eq-eqb, eqb-true, false≢true, cases_eq, lt-leb, le-leb, cases_lt, true≢false}
pub use Rattle.std.proofs.lemmas.Bool.Decides.{nat_tests}
pub use Rattle.std.proofs.lemmas.Grind.{common_steps}
pub use Rattle.std.proofs.lemmas.List.{get_or-set_same, get_or-set_other, get_or-replicate, get_or_append_left, length-set, ext_get_or, get_or_past, length-map, same_lists, get_or_default, take_all}
pub use Rattle.std.proofs.lemmas.List.{get_or-append_right, length-replicate, length-take}
pub use Rattle.std.proofs.lemmas.List.Sums.{sum_by-cons, sum_by-le-sum_by, get_or-le-sum_by, sum_by_push, sum_by-set, sum_by_more}
pub use Rattle.arb_share.specs.Limits.{applications}
pub use Rattle.arb_config.specs.Machine.{socket_by_position, socket_numbers_from, cores_of}
pub use Rattle.arb_model.specs.declared.holders.Holder.{Holder}
pub use Rattle.arb_model.specs.Limits.{threads, all_threads}
pub use Rattle.arb_model.specs.Lists.{one_if, count_below, each_at}
pub use Rattle.arb_model.specs.Pick.{Precedes, PicksLeast, is_set, key_at}
pub use Rattle.arb_model.specs.Standing.{app_of, waiting_count, asked_count, holder_at, is_asked, is_of, owned, owned_on, Seats, is_held_by, is_moved, holds, free_count, is_free}
pub use Rattle.arb_model.specs.WellFormed.{times_waiting, times_placed, times_on}
pub use Rattle.arb_model.specs.Changes.{free_if, unplaced, is_overdue, overdue_moved}
pub use Rattle.arb_model.specs.Grants.{grant_key, grant_keys, next_core, after_grants, granted, need_of}
pub use Rattle.arb_model.proofs.CountLaws.{count_by_filter, count_below-none, and_true, or_false, count_below-le}
pub use Rattle.arb_model.proofs.GrantsLaws.{seats, next_core-is, next_core-free, GrantsLeft}
pub use Rattle.arb_model.proofs.ListLaws.{take-set-lt, position_or_len-lt, get_or-each_at, get_or-map, length-each_at}
pub use Rattle.arb_seats.specs.Asking.{moment_of, owned_beside, IsNextToAsk, IsNextToSpare, asked_app, NextToAsk, NextToSpare}
pub use Rattle.arb_seats.specs.CoreSets.{IsSetOf, set_size}
pub use Rattle.arb_seats.specs.Holders.{asked_since, AreThreads}
pub use Rattle.arb_seats.specs.ShownSeats.{ShownSeats}
pub use Rattle.arb_seats.specs.Slots.{threads_in, AreKnown, IsQueue, slot_count, is_thread}
pub use Rattle.std.proofs.Common.{slice_set}
pub use Rattle.std.specs.Prelude.{◌^◌}
pub use Rattle.std.proofs.lemmas.List.Sums.{passes_at_first}
pub use Rattle.arb_config.specs.Machine.{IsMachine, Machine}
pub use Rattle.arb_model.specs.Layout.{NamesACore, asked_named, core_word, first_core_word, first_place, half_number, half_of, half_size, halves, moved_word, place_index, position_in, position_named}
pub use Rattle.arb_model.specs.Layout.{release_index, unmanaged_word, waiting_word, word_count}
pub use Rattle.arb_model.specs.Posting.{first_below}
pub use Rattle.arb_model.specs.Standing.{is_waiting}
pub use Rattle.arb_model.specs.Words.{asked_bit, is_asked_of, place_word, release_word, seat_word}
pub use Rattle.arb_model.proofs.CountLaws.{and_false, any_counted, count_below-same, count_below-smaller}
pub use Rattle.arb_model.proofs.ListLaws.{get_or-same}
pub use Rattle.arb_model.proofs.WordsLaws.{first_below-is, first_below-none_is, first_below_found, first_below_none, held_counts}
pub use Rattle.arb_seats.specs.Bits.{has_bit, has_mark, mark_count, row_count, word_size}
pub use Rattle.arb_seats.specs.CoreTable.{CoreTable}
pub use Rattle.arb_seats.specs.Holders.{given_to}
pub use Rattle.arb_seats.specs.PageMarks.{AreMarked, mark_at, names_core}
pub use Rattle.arb_seats.specs.PageWords.{PageWords, is_stale_in, names_stale_in}
pub use Rattle.arb_seats.specs.ShownSeats.{ShowsSeats}

-- what a written list holds, at the place that was written and elsewhere
pub ruleset written = (length-set, get_or-set_same, get_or-set_other, eq-eqb, ne_eqb)

-- the cores of a machine by position, with who holds each
abbrev pub Cores : Type 0
Cores = List (Option Holder)
