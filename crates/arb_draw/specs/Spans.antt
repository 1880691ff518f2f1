-- The longest runs in a row: who has a core after each of some orders, none where nobody has.
use Rattle.std.specs.Prelude.{ℕ, ◌+◌, ◌==◌, List, [], ◌∷◌, Option, Some, None, Bool, true, false, zero, suc, not, if◌then◌else◌, drop, length, slice_index_or}
use Rattle.std.specs.List.{flat_map, range_with_len}
use Rattle.std.specs.Option.{option_to_list}
use Rattle.arb_draw.specs.declared.span.Span.{Span}

-- whether it is this thread
abbrev pub is_thread : (thread : ℕ) → Option ℕ → Bool
is_thread thread None = false
is_thread thread (Some other) = other == thread

-- how many at the front of a row are this thread
abbrev pub run_length : (thread : ℕ) → (row : List (Option ℕ)) → ℕ
run_length thread [] = 0
run_length thread (owner ∷ row) = if is_thread thread owner then run_length thread row + 1 else 0

-- whether a thread that is at an index isn't at the one before it
abbrev pub begins : (thread : ℕ) → (row : List (Option ℕ)) → (index : ℕ) → Bool
begins thread row zero = true
begins thread row (suc index) = not (is_thread thread (slice_index_or row index None))

-- the run of who is at an index, where it begins there: it goes on for as long as that thread does
abbrev pub run_of : (row : List (Option ℕ)) → (index : ℕ) → Option ℕ → Option Span
run_of row index None = None
run_of row index (Some thread) =
    if begins thread row index
    then Some (record { thread = thread; from = index; to = index + run_length thread (drop index row) })
    else None

-- the run that begins at an index, if one does
abbrev pub run_at : (row : List (Option ℕ)) → (index : ℕ) → Option Span
run_at row index = run_of row index (slice_index_or row index None)

-- the longest runs of a row, by where they begin
abbrev pub runs : (row : List (Option ℕ)) → List Span
runs row = flat_map (λ index. option_to_list (run_at row index)) (range_with_len 0 (length row))
