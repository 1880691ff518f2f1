use Rattle.arb_model.proofs.PlaceLaws.{places_are_positions, reads_a_place, reads_a_place_since}
use Rattle.arb_model.proofs.laws.places_were_true.Goals as goal

pub returns : goal.returns
returns c = record { place = reads_a_place; since = reads_a_place_since; positions = places_are_positions }
