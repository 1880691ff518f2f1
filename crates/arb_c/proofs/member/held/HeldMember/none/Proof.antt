-- `none` owns nothing.
use Rattle.std.proofs.Common.{◌≡◌, [], ◌∷◌, refl, lit<}
use mir.Val.{Val}
use base.Logic.{emp}
use types.Kit.{raw, ◌$◌, ◌∵◌, !, qed, by, keep, drop, use0}
use types.Run.{lit, no_more, and_then, returns, enter}
use types.ByLocal.{alloc_all, pass_all, free_all, look_at, sets}
use types.Part.{agg}
use contract.Monad.{fact, fact_i}
use contract.Running.{tables}
use denote.RawPtr.{null_ptr, ptr_val}
use denote.Steps.{nothing}
use denote.Triple.Entry.{on_entry}
use denote.Triple.Walked.{walk_of}
use Rattle.std.specs.Prelude.{Option, None}
use Rattle.std.proofs.raw_atomic.Walks.{proved_at, leaves}
use Rattle.arb_c.specs.MemberHolding.{MemberHolding}
use Rattle.arb_c.proofs.MemberValues.{one, empty_in}
use Rattle.arb_c.specs.contracts.member.held.HeldMember.none.{ended, clauses}
use Rattle.arb_c.specs.contracts.member.held.HeldMember.none.Key.{name as #self}
use Rattle.arb_c.proofs.member.held.HeldMember.none.Statement.{statement}
use Rattle.arb_c.proofs.member.held.HeldMember.none.Code as code

abbrev nothing_held : Option MemberHolding
nothing_held = None

pub none_spec : {M : Type 1} → statement M
none_spec 𝓤 𝓛 𝓜 𝓡 wired =
    let H = 𝓛.H in let 𝓣 = tables 𝓤 H 𝓜 𝓡 𝓡.env in let c = clauses 𝓛 𝓜.mem 𝓡.returns in let fn = code.function in
    proved_at 𝓛 ended tt c 𝓜 𝓡 tt #self fn (code.unfolded 𝓤 H 𝓜 𝓡 wired) (λ z are.
    let Post : Val → _ = (walk_of 𝓛 ended tt c).post z in
    qed 𝓛 (raw (on_entry 𝓛 ended.signature z.0.0 z.0.1 z.0.3 z.0.4) ∷ raw ((c z.0.0 z.0.3).requires z.1) ∷ []) ∵ drop ! $ drop ! $
    enter ! 𝓣.C 𝓣.Λ fn [] Post $ alloc_all ! (λ l. pass_all ! refl tt $
    sets ! (agg ! (and_then ! (lit ! tt) (no_more !))) refl (tt, (record { fits = lit< tt }, tt)) $ empty_in ! $
    use0 𝓛 (raw (fact 𝓤 (nothing_held ≡ nothing_held))) (fact_i 𝓤 (nothing_held ≡ nothing_held) (emp 𝓤) refl) $ nothing ! $ nothing ! $
    returns ! (look_at ! 0 refl) $ free_all ! refl $ keep ! (0 ∷ 1 ∷ 3 ∷ 2 ∷ []) $ by ! (leaves 𝓛 ended tt c z (one (ptr_val null_ptr)) (record { at = null_ptr; value = None }) tt tt)))
