use Rattle.std.proofs.Common.{◌∷◌, [], List, ℕ, sym, ap, ◌∙◌, arith}
use Rattle.arb_share.proofs.TextLaws.{empty-is}
use Rattle.arb_live.proofs.AnsweredLaws.{answered_none, answered_ok, answered_err}
use Rattle.arb_live.proofs.LineLaws.{first_closed, first_open}
use Rattle.arb_live.proofs.PieceLaws.{whole_line}
use Rattle.arb_live.proofs.session.Session.take_any_line.Goals as goal

pub returns-in_default-clause-answered : goal.returns-in_default-clause-answered
returns-in_default-clause-answered g c =
    let left = first_open c.args.self.now.begun.items _ _ _ _ (omega (arith, c.len-begun.ensures.value, c.len-begun.ensures.fits)) c.len_before.ensures.index c.split_at.ensures.front c.split_at.ensures.back c.in_default.len_below in
    answered_none _ _ _ _ _ _ _ left.0 c.requires.ready

pub returns-in_default-clause-begun : goal.returns-in_default-clause-begun
returns-in_default-clause-begun g c =
    let left = first_open c.args.self.now.begun.items _ _ _ _ (omega (arith, c.len-begun.ensures.value, c.len-begun.ensures.fits)) c.len_before.ensures.index c.split_at.ensures.front c.split_at.ensures.back c.in_default.len_below in
    c.keep.ensures ∙ sym left.1

pub returns-in_default-clause-rest : goal.returns-in_default-clause-rest
returns-in_default-clause-rest g c =
    let left = first_open c.args.self.now.begun.items _ _ _ _ (omega (arith, c.len-begun.ensures.value, c.len-begun.ensures.fits)) c.len_before.ensures.index c.split_at.ensures.front c.split_at.ensures.back c.in_default.len_below in
    left.2

pub returns-in_err-answer_line-clause-answered : goal.returns-in_err-answer_line-clause-answered
returns-in_err-answer_line-clause-answered g c =
    let cut = first_closed c.args.self.now.begun.items _ _ _ _ (omega (arith, c.len-begun.ensures.value, c.len-begun.ensures.fits)) c.len_before.ensures.index c.split_at.ensures.front c.split_at.ensures.back c.in-len1-up.len_at_least in
    answered_err c.from_residual.result c.from_residual.ensures.0 (c.in_err-answer_line.ensures {u = tt}).answered
    (cut.0 ∙ ap (λ (l : List ℕ). l ∷ []) (whole_line c.args.self.now.begun.items c.split_at.result.0.now c.min.result (omega (arith, c.len-begun.ensures.value, c.if-begun-eq0.true)) c.min.ensures))

pub returns-then-begun-eq0-clause-answered : goal.returns-then-begun-eq0-clause-answered
returns-then-begun-eq0-clause-answered g c =
    let cut = first_closed c.args.self.now.begun.items _ _ _ _ (omega (arith, c.len-begun.ensures.value, c.len-begun.ensures.fits)) c.len_before.ensures.index c.split_at.ensures.front c.split_at.ensures.back c.in-len1-up.len_at_least in
    answered_ok _ (c.in_ok-answer_line.ensures {u = tt}).answered
    (cut.0 ∙ ap (λ (l : List ℕ). l ∷ []) (whole_line c.args.self.now.begun.items c.split_at.result.0.now c.min.result (omega (arith, c.len-begun.ensures.value, c.if-begun-eq0.true)) c.min.ensures))

pub returns-then-begun-eq0-clause-begun : goal.returns-then-begun-eq0-clause-begun
returns-then-begun-eq0-clause-begun g c =
    let cut = first_closed c.args.self.now.begun.items _ _ _ _ (omega (arith, c.len-begun.ensures.value, c.len-begun.ensures.fits)) c.len_before.ensures.index c.split_at.ensures.front c.split_at.ensures.back c.in-len1-up.len_at_least in
    empty-is _ (omega (arith, c.len-begun.ensures.value, c.if-begun-eq0.true)) ∙ sym cut.1

pub returns-then-begun-eq0-clause-rest : goal.returns-then-begun-eq0-clause-rest
returns-then-begun-eq0-clause-rest g c =
    let cut = first_closed c.args.self.now.begun.items _ _ _ _ (omega (arith, c.len-begun.ensures.value, c.len-begun.ensures.fits)) c.len_before.ensures.index c.split_at.ensures.front c.split_at.ensures.back c.in-len1-up.len_at_least in
    cut.2

pub returns-in_err-answer_line-2-clause-answered : goal.returns-in_err-answer_line-2-clause-answered
returns-in_err-answer_line-2-clause-answered g c =
    let cut = first_closed c.args.self.now.begun.items _ _ _ _ (omega (arith, c.len-begun.ensures.value, c.len-begun.ensures.fits)) c.len_before.ensures.index c.split_at.ensures.front c.split_at.ensures.back c.in-len1-up.len_at_least in
    answered_err c.from_residual-in_err-answer_line-2.result c.from_residual-in_err-answer_line-2.ensures.0 (c.in_err-answer_line-2.ensures {u = tt}).answered
    (cut.0 ∙ ap (λ (l : List ℕ). l ∷ []) (sym (c.as_slice.ensures.value ∙ c.keep-2.ensures)))

pub returns-clause-answered : goal.returns-clause-answered
returns-clause-answered g c =
    let cut = first_closed c.args.self.now.begun.items _ _ _ _ (omega (arith, c.len-begun.ensures.value, c.len-begun.ensures.fits)) c.len_before.ensures.index c.split_at.ensures.front c.split_at.ensures.back c.in-len1-up.len_at_least in
    answered_ok _ (c.in_ok-answer_line-2.ensures {u = tt}).answered
    (cut.0 ∙ ap (λ (l : List ℕ). l ∷ []) (sym (c.as_slice.ensures.value ∙ c.keep-2.ensures)))

pub returns-clause-begun : goal.returns-clause-begun
returns-clause-begun g c =
    let cut = first_closed c.args.self.now.begun.items _ _ _ _ (omega (arith, c.len-begun.ensures.value, c.len-begun.ensures.fits)) c.len_before.ensures.index c.split_at.ensures.front c.split_at.ensures.back c.in-len1-up.len_at_least in
    c.clear.ensures ∙ sym cut.1

pub returns-clause-rest : goal.returns-clause-rest
returns-clause-rest g c =
    let cut = first_closed c.args.self.now.begun.items _ _ _ _ (omega (arith, c.len-begun.ensures.value, c.len-begun.ensures.fits)) c.len_before.ensures.index c.split_at.ensures.front c.split_at.ensures.back c.in-len1-up.len_at_least in
    cut.2
