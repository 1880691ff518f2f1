use Rattle.std.proofs.Common.{◌≡◌, ◌-◌, ◌++◌, take, ap, ◌∙◌, arith}
use Rattle.arb_live.proofs.PieceLaws.{kept_more}
use Rattle.arb_live.proofs.session.keep.Goals as goal

pub returns : goal.returns
returns c =
    let begun = c.args.begun.now.items in
    let bytes = c.args.bytes.now in
    let held : c.try_extend_from_slice.new.self.items ≡ begun ++ take c.min-most.result bytes = rw c.unwrap.ensures at c.try_extend_from_slice.ensures.ok in
    held ∙ ap (λ n. begun ++ take n bytes) c.min-most.ensures ∙ kept_more begun bytes (201 - c.len.result) (omega (arith, c.len.ensures.value, c.len.ensures.fits))
