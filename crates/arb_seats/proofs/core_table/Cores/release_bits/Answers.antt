use Rattle.arb_seats.proofs.Words.{◌*◌, None, ap, arith, length, take, get_or_past, cores_of, half_number, half_size, holder_at, is_asked_of}
use Rattle.arb_seats.proofs.PositionSetsLaws.{set-part}
use Rattle.arb_seats.proofs.ReleaseWordsLaws.{half_within}
use Rattle.arb_seats.proofs.core_table.Cores.release_bits.Goals as goal

pub returns : goal.returns
returns c =
    let cores = take (length (cores_of c.self.inside.topology)) c.self.inside.owners in
    rw (c.word_of.ensures, c.of.ensures, ← c.self.view_is)
    (set-part _ _ (half_size * half_number c.args.half) half_size (λ p. is_asked_of c.args.app (holder_at cores p)) (omega (arith, half_within c.args.half))
    (λ p past. ap (is_asked_of c.args.app) (get_or_past cores p None past)) (c.self.invariant.are_asked c.args.app c.requires))
