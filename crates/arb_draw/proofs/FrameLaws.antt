-- What is drawn of a holder.
use Rattle.std.proofs.Common.{◌≡◌, ℕ, Option, Some, Bool}
use Rattle.std.specs.Prelude.{is_some}
use Rattle.arb_model.specs.declared.holders.Holder.{Holder}
use Rattle.arb_draw.specs.Frames.{cell_of}

-- a cell has the holder's thread, and whether it is asked back
pub cell_is : (found : Option Holder) (holder : Holder) (thread : ℕ) (asked : Bool) → found ≡ Some holder → holder.thread ≡ thread → asked ≡ is_some holder.asked → Some (record { thread = thread; asked = asked }) ≡ cell_of found
cell_is found holder thread asked at is a = cc
