-- `of` takes the box apart.
use Rattle.std.proofs.Common.{◌≡◌, List, [], ◌∷◌, ◌++◌, refl, sym, ap, ◌∙◌, subst}
use mir.Raw.{raw as bare}
use mir.Val.{Val, vptr}
use base.Fraction.{full_share}
use base.Logic.{SProp, ent, emp, never, id⊢, fst∗}
use base.Fml.{ftrue, flft}
use prog.Wp.{WpFn}
use types.Logic.{sem}
use types.Kit.{‵, raw, ◌⊛◌, some, later, ◌$◌, ◌∵◌, !, qed, by, move, keep, drop, split, join, fsplit, fjoin, pick, suffices, use0, use1, await, feq_l}
use types.Run.{of_opd, no_more, and_then, returns, enter}
use types.ByLocal.{alloc_all, pass_all, free_all, look_at, get, sets, lands_as}
use types.Part.{agg}
use contract.Monad.{fact, fact_i}
use contract.BorrowLft.{◌⊑◌}
use contract.Running.{tables, tables_of}
use denote.Exit.{yes, no}
use denote.RattleType.{RattleType, owns}
use denote.Signature.{types_at, plain}
use denote.Builtin.{RawPtr}
use denote.RawPtr.{Ptr, block_ptr, null_ptr, ptr_val, in_a_block}
use denote.Steps.{nothing, only}
use denote.Param.{layout, arg}
use denote.Param.Laws.{arg_laws}
use denote.Param.NoDrop as no_drop
use denote.Memory.{lone}
use denote.Triple.Clauses.{Lasts, lasts}
use denote.Triple.Spec.{triple_of}
use denote.Triple.Call.{calls_at}
use denote.Triple.Table.{framed}
use denote.Triple.Walked.{Stays, stay_dropped, walk_of, Goes-dropped}
use Rattle.std.specs.Prelude.{Some}
use Rattle.std.proofs.alloc.Global.TheLaws as heap_laws
use Rattle.std.proofs.impls.GlobalAllocator.TheImpl.Met as heap_met
use Rattle.std.specs.contracts.impls.GlobalAllocator.TheImpl.{ghosts, dict}
use Rattle.std.specs.Box.Ownership.{box_owns}
use Rattle.std.proofs.BoxSteps.Form as box
use Rattle.std.proofs.BoxSteps.Steps.{box_out, box_in}
use Rattle.std.specs.contracts.boxed.Box as the_box
use Rattle.std.proofs.raw_atomic.Walks.{proved_at, leaves}
use Rattle.arb_c.proofs.member.opened.OpenedMember.TheLaws as opened_laws
use Rattle.arb_c.specs.Held.{heap}
use Rattle.arb_c.proofs.MemberValues.{drop_of, one, R, Z, held_in}
use Rattle.std.specs.contracts.boxed.Box.into_raw as callee
use Rattle.std.proofs.boxed.Box.into_raw.Met.{met}
use borrow.Fn.Glue.{glue_by, glue_ps}
use borrow.Fn.Impl.{via_longer, method_Known}
use borrow.Fn.Run.{Over}
use borrow.Fn.World.{World}
use borrow.Fn.Kinds.{ended_of, r_unit, stays}
use denote.Triple.Clauses.{at_exit}
use denote.Triple.Walked.{Fit}
use denote.Triple.Carry.{AllWithin}
use denote.Param.{layouts}
use mir.Syntax.{Dict, impl, tnil, dnil, method}
use Rattle.arb_c.proofs.arb_c++member++opened++OpenedMember+Destruct.drop.Kinds as dropped
use Rattle.arb_c.proofs.arb_c++member++opened++OpenedMember+Destruct.drop.Reads as drops
use Rattle.arb_c.proofs.arb_c++member++opened++OpenedMember+Destruct.drop.Symbol as drop_symbol
use Rattle.arb_c.proofs.arb_c++member++opened++OpenedMember+Destruct.drop.Met as drop_met
use Rattle.arb_c.specs.contracts.member.held.HeldMember.of.{ended, clauses}
use Rattle.arb_c.specs.contracts.member.held.HeldMember.of.Key.{name as #self}
use Rattle.arb_c.proofs.member.held.HeldMember.of.Statement.{statement}
use Rattle.arb_c.proofs.member.held.HeldMember.of.Code as code
use Rattle.arb_c.proofs.Destruct++none.drop.Code as drop_code

pub of_spec : {M : Type 1} → statement M
unfolding tables_of drop_code.code
of_spec {M} 𝓤 𝓛 𝓜 𝓡 wired =
    let H = 𝓛.H in let 𝓣 = tables 𝓤 H 𝓜 𝓡 𝓡.env in let T : RattleType = arg (bare (layout R)) no R in let A : RattleType = arg (bare (layout Z)) no Z in let L = arg_laws (bare (layout R)) no R opened_laws.the_row_laws refl in let LA = arg_laws (bare (layout Z)) no Z heap_laws.the_row_laws refl in let c = clauses 𝓛 𝓜.mem 𝓡.returns in
    let dx : Dict = impl ("arb_c::arb_c++member++opened++OpenedMember+Destruct::drop" ∷ []) tnil dnil in let dd = drop_of A in
    let E : box.Bx = record { row = T; laws = L; al = record { row = A; laws = LA; g = ghosts; d = dict; drops = dd } } in let fn = code.function in let B : RattleType = the_box.the_row R Z ghosts in
    let hs : Stays ended.signature.params ended.kept = (stay_dropped (plain (λ _. B)) yes, tt) in
    let glue_of = no_drop.glues "arb_c::Destruct++none::drop" 𝓡.env (code.calls-arb_c::Destruct++none::drop 𝓡.env wired) in
    let world : World = record { M = M; 𝓤 = 𝓤; 𝓛 = 𝓛; 𝓜 = 𝓜; 𝓡 = 𝓡 } in
    let E0 = ended_of 0 dropped.ps dropped.r in
    let is_wired = code.calls-arb_c::arb_c++member++opened++OpenedMember+Destruct::drop 𝓡.env wired in
    let glue_member = glue_by T L world dx 𝓡.env (λ κs a. Lasts E0 tt a) (λ κs a. lasts E0 tt a)
    (λ κs a x ws. Fit E0 (stays dropped.ps) tt a ws × drops.Learnt tt a x (at_exit E0 tt a ws))
    (λ κs a. AllWithin 1 (κs.0, tt) (T.lives, tt) × Unit {0}) 0 tt (λ κs a h. ((h, tt), tt))
    (via_longer 𝓛 (Over 𝓛 𝓜 𝓡 𝓡.env) 1 (glue_ps T L) r_unit (λ κs a. Lasts E0 tt a) (λ κs a. lasts E0 tt a)
    (λ κs a x ws. Fit E0 (stays dropped.ps) tt a ws × drops.Learnt tt a x (at_exit E0 tt a ws))
    (λ κs a. AllWithin 1 (κs.0, tt) (T.lives, tt) × Unit {0}) (method dx 0 (layouts [] tt)) 0 tt (λ κs. tt) (λ κs a. drops.Asked tt a) (λ κs a p. (tt, tt))
    (λ κs bd within a vss qs. method_Known 0 dropped.ps dropped.r drops.requires drops.ensures drops.Asked drops.Learnt drops.known world drop_symbol.name (method dx 0 (layouts [] tt))
    (drop_symbol.as_method 𝓡.env is_wired (method dx 0 (layouts [] tt)) refl) (drop_met.met 𝓤 𝓛 𝓜 𝓡 is_wired) ((tt, qs, tt, a, vss), tt))) in
    proved_at 𝓛 ended hs c 𝓜 𝓡 (Goes-dropped 𝓛 0 (plain (λ _. B)) yes (λ κs x f. refl), tt) #self fn (code.unfolded 𝓤 H 𝓜 𝓡 wired) (λ z are.
    let v = z.0.3.0 in let Post : Val → SProp 𝓤 = (walk_of 𝓛 ended hs c).post z in let Run : List Val → SProp 𝓤 = λ ws. WpFn 𝓤 H 𝓣.C 𝓣.Λ fn ws Post in
    let toks = ‵ (flft [] full_share) ⊛ ‵ (flft [] full_share) ⊛ ‵ ftrue in
    let k = triple_of 𝓛 (callee.signature T A ghosts dict dd dx) (callee.spec T A ghosts dict dd dx 𝓛 𝓜.mem 𝓡.returns) in
    qed 𝓛 ((‵ ftrue ⊛ ‵ (owns (types_at ended.signature.params z.0.0) z.0.3 z.0.4)) ∷ raw ((c z.0.0 z.0.3).requires z.1) ∷ []) ∵ split ! $ move ! (1 ∷ []) $ fsplit ! $ box_out E ! v z.0.4.0 (λ b o h e ws fits. box_in E ! v b o v.value e refl $
    let w : Val = box.word E h b o in let typed = box.box_typed E h b o fits in
    let y : k.Ghost = ((([], ([], tt)), (full_share, (full_share, tt)), tt, (v, tt), (w ∷ [], tt)), tt) in
    fjoin ! $ keep ! (0 ∷ []) $ nothing ! $ use0 𝓛 (‵ (flft [] full_share)) (𝓛.lfts.lft-nil full_share) $ join ! $ use0 𝓛 (‵ (flft [] full_share)) (𝓛.lfts.lft-nil full_share) $ join ! $ join ! $
    nothing ! $ use0 𝓛 (raw (fact 𝓤 ([] ⊑ Z.lives))) (fact_i 𝓤 ([] ⊑ Z.lives) (emp 𝓤) (λ a m. m)) $ join ! $ use0 𝓛 (raw (fact 𝓤 ([] ⊑ R.lives))) (fact_i 𝓤 ([] ⊑ R.lives) (emp 𝓤) (λ a m. m)) $ join ! $
    move ! (1 ∷ 0 ∷ []) $ join ! $ use1 𝓛 (raw (k.pre y)) (id⊢ 𝓤 _) $
    suffices ! (Run (w ∷ [])) (subst (λ (us : List Val). ent 𝓤 (Run (w ∷ [])) (Run us)) (sym (λ i. ws i ++ [])) (id⊢ 𝓤 (Run (w ∷ [])))) $
    enter ! 𝓣.C 𝓣.Λ fn (w ∷ []) Post $ alloc_all ! (λ l. pass_all ! refl (typed, tt) $ sets ! (of_opd ! (get ! refl)) refl typed $
    calls_at ! (λ f. framed 𝓤 H 𝓜 𝓣 f) k (met 𝓤 𝓛 𝓜 𝓡 (code.calls-std_alloc::boxed::Box::into_raw 𝓡.env wired) T A L LA ghosts dict dd dx
    (heap_met.passed 𝓡.env (code.calls-std_heap::GlobalAllocator::allocate 𝓡.env wired) (code.calls-std_heap::GlobalAllocator::deallocate 𝓡.env wired) (code.calls-std_heap::GlobalAllocator::grow 𝓡.env wired) (code.calls-std_heap::GlobalAllocator::shrink 𝓡.env wired) M 𝓤 𝓛 𝓜 𝓡)
    (glue_of A LA M 𝓤 𝓛 𝓜 𝓡) glue_member) y (and_then ! (get ! refl) (no_more !)) (λ u.
    use1 𝓛 (later (some (λ (r : Ptr). (toks ⊛ ‵ (RawPtr.own_val r (u ∷ []))) ⊛ some (λ (ls : Lasts (callee.ended T A ghosts dict dd dx) ([], ([], tt)) (v, tt)). ‵ (lasts (callee.ended T A ghosts dict dd dx) ([], ([], tt)) (v, tt) ls) ⊛ ‵ (box_owns (ghosts.dealloc_token heap) R r v.value))))) (id⊢ 𝓤 (k.post y u)) $
    await ! tt $ pick ! (λ r. split ! $ move ! (1 ∷ []) $ pick ! (λ ls. split ! $ drop ! $
    in_a_block ! r (λ p. box_owns (ghosts.dealloc_token heap) R p v.value) (fst∗ 𝓤 (never 𝓤) (sem 𝓛 (ghosts.dealloc_token heap (bare (lone R.mir)) null_ptr))) (λ b' o' e'.
    move ! (1 ∷ []) $ split ! $ move ! (1 ∷ []) $ feq_l ! (λ ep.
    lands_as ! (ap only (ep ∙ ap (λ (p : Ptr). ptr_val p ∷ []) e')) refl (tt, tt) $
    sets ! (agg ! (and_then ! (get ! refl) (no_more !))) refl (tt, (tt, tt)) $
    move ! (1 ∷ []) $ held_in ! b' o' v.value $
    use0 𝓛 (raw (fact 𝓤 (Some v.value ≡ Some v.value))) (fact_i 𝓤 (Some v.value ≡ Some v.value) (emp 𝓤) refl) $ nothing ! $ nothing ! $ fjoin ! $ nothing ! $
    returns ! (look_at ! 0 refl) $ free_all ! refl $ keep ! (0 ∷ 1 ∷ 3 ∷ 2 ∷ []) $ by ! (leaves 𝓛 ended hs c z (one (vptr b' o')) (record { at = block_ptr b' o'; value = Some v.value }) (tt, tt) (tt, tt))))))))))
