-- The machine values of a `HeldMember`. Assumes `Logic`.
use Rattle.std.proofs.Common.{◌≡◌, ℕ, List, [], ◌∷◌, ◌++◌, refl, subst}
use mathlib.Core.Bool.{◌&&◌, true}
use seplogic.Ra.Ura.{Ura}
use mir.Raw.{raw as bare}
use mir.Syntax.{Dict, impl, tcons, tnil, dnil}
use mir.Val.{Val, vptr, vstruct, vcons, vnil, of_list}
use base.Logic.{never, fst∗}
use types.Logic.{Logic, sem}
use types.Kit.{Item, Goal, Seq, Step, step, ‵, ◌$◌, drop, fsplit, fjoin, fpick, fpack, rewrite, feq_i, feq_l}
use denote.RattleType.{RattleType, Valss}
use denote.Builtin.{RawPtr}
use denote.Memory.{lone}
use denote.Param.{layout}
use denote.RawPtr.{Ptr, block_ptr, null_ptr, ptr_val, in_a_block}
use denote.Steps.{nothing}
use denote.Struct.Struct.{within}
use denote.Struct.Owning.{shape}
use Rattle.std.specs.Prelude.{Option, Some, None, IsSome}
use Rattle.std.specs.contracts.alloc.Global as heap
use Rattle.std.specs.contracts.impls.GlobalAllocator.TheImpl.{ghosts}
use Rattle.std.specs.Box.Ownership.{box_owns}
use Rattle.arb_c.specs.contracts.member.opened.OpenedMember as opened_type
use Rattle.arb_c.specs.MemberHolding.{MemberHolding}
use Rattle.arb_c.specs.contracts.member.held.HeldMember as held
use Rattle.arb_c.specs.Held.{heap as the_heap}
use Rattle.arb_c.specs.HeldMember.{held_owns}

-- the drop of a type, as the tables of calls name it
abbrev pub drop_of : RattleType → Dict
drop_of T = impl ("arb_c::Destruct++none::drop" ∷ []) (tcons (layout T) tnil) dnil

abbrev pub one : Val → Val
one v = vstruct (vcons v vnil)

abbrev pub R : RattleType
R = opened_type.the_row

abbrev pub Z : RattleType
Z = heap.the_row

abbrev pub H : RattleType
H = held.the_row

-- an option that has a value is that value's
pub case_some : {G : Type 1} (o : Option MemberHolding) → IsSome o → ((x : MemberHolding) → o ≡ Some x → G) → G
case_some None wrong k = absurd (mathlib.Core.Bool.false≢true wrong)
case_some (Some x) is k = k x refl

module _ {M : Type 1} {𝓤 : Ura M} {𝓛 : Logic 𝓤} {K : Type 0} {Γ : List (Item 𝓤)} {G : Goal 𝓤 𝓛.H} where
  pub held_out : K → (d : H.Denot) (vs : List Val) (x : MemberHolding) → d.value ≡ Some x
      → ((b o : ℕ) → d.at ≡ block_ptr b o → vs ≡ one (vptr b o) ∷ [] → Seq K 𝓛 (‵ (box_owns (ghosts.dealloc_token the_heap) R (block_ptr b o) x) ∷ Γ) G)
      → Seq K 𝓛 (‵ (H.own_val d vs) ∷ Γ) G
  held_out t d vs x has k =
      fsplit t $ fpick t (λ vss. fsplit t $ feq_l t (λ ev. fsplit t $ feq_l t (λ ep. drop t $
      rewrite t 0 (λ (y : Option MemberHolding). ‵ (held_owns y d.at)) has refl $
      in_a_block t d.at (λ p. box_owns (ghosts.dealloc_token the_heap) R p x) (fst∗ 𝓤 (never 𝓤) (sem 𝓛 (ghosts.dealloc_token the_heap (bare (lone R.mir)) null_ptr))) (λ b o e. k b o e
      (subst (λ (p : Ptr). vs ≡ vstruct (of_list (ptr_val p ∷ [])) ∷ []) e
      (subst (λ (ps : List Val). vs ≡ vstruct (of_list (ps ++ [])) ∷ []) ep ev))))))

  pub held_in : K → (b o : ℕ) (x : MemberHolding)
      → Step K 𝓛 (‵ (H.own_val (record { at = block_ptr b o; value = Some x }) (one (vptr b o) ∷ [])) ∷ Γ) G (‵ (box_owns (ghosts.dealloc_token the_heap) R (block_ptr b o) x) ∷ Γ) G
  held_in t b o x = step (λ s. let v : Val = one (vptr b o) in
      nothing t $ feq_i t (List Val) (vptr b o ∷ []) (vptr b o ∷ []) refl $ fjoin t $ feq_i t (List Val) (v ∷ []) (v ∷ []) refl $ fjoin t $
      fpack t (Valss (RawPtr ∷ [])) (within (shape held.the_type) (block_ptr b o, tt) (v ∷ [])) (vptr b o ∷ [], tt) $ fjoin t $ s)

  pub empty_in : K → Step K 𝓛 (‵ (H.own_val (record { at = null_ptr; value = None }) (one (ptr_val null_ptr) ∷ [])) ∷ Γ) G Γ G
  empty_in t = step (λ s. let v : Val = one (ptr_val null_ptr) in
      nothing t $ nothing t $ feq_i t (List Val) (ptr_val null_ptr ∷ []) (ptr_val null_ptr ∷ []) refl $ fjoin t $ feq_i t (List Val) (v ∷ []) (v ∷ []) refl $ fjoin t $
      fpack t (Valss (RawPtr ∷ [])) (within (shape held.the_type) (null_ptr, tt) (v ∷ [])) (ptr_val null_ptr ∷ [], tt) $ fjoin t $ s)
