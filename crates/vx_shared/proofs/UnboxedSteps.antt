-- An `Unboxed` by value: its pointer, its allocator, and what they own. Assumes `Logic`.
--     duo, duo_fits      the machine value of a pointer into a block beside an allocator's, and that it has its type
--     unboxed_out, unboxed_in      [what the box owned; the allocator], each way
use mathlib.Core.Path.{◌≡◌, refl, subst}
use mathlib.Core.Bool.{◌&&◌, true}
use mathlib.Core.List.{List, [], ◌∷◌, ◌++◌}
use Prim.Native.Nat.{ℕ}
use lib.Dec.{T}
use seplogic.Ra.Ura.{Ura}
use mir.Syntax.{impl, tnil, dnil}
use mir.Raw.{raw as bare}
use mir.Val.{Val, vptr, vstruct, vcons, vnil, of_list, has_ty, WT}
use base.Logic.{never, fst∗}
use types.Logic.{Logic, sem}
use types.Kit.{Item, Goal, Seq, Step, step, ‵, ◌$◌, move, drop, fsplit, fjoin, fpick, fpack, feq_i, feq_l}
use denote.Builtin.{RawPtr}
use denote.Memory.{lone}
use denote.Param.{layout}
use denote.Param.Laws.{Laws}
use denote.RattleType.{RattleType, Valss}
use denote.RawPtr.{Ptr, block_ptr, null_ptr, ptr_val, in_a_block}
use denote.Steps.{nothing}
use denote.Struct.Owning.{shape}
use denote.Struct.Struct.{within}
use Rattle.std.proofs.ResultValues.{and_tt}
use Rattle.std.proofs.alloc.Calls.{Al, Fits, handle_tells}
use Rattle.std.specs.Box.Ownership.{box_owns}
use Rattle.std.specs.declared.alloc.Allocator.{Ghosts}
use Rattle.vx_shared.specs.contracts.unboxed.Unboxed as unboxed

abbrev pub duo : Val → Val → Val
duo v w = vstruct (vcons v (vcons w vnil))

module _ (R Z : RattleType) (L : Laws Z) (g : Ghosts Z.Denot) where
  abbrev pub Unboxed : RattleType
  Unboxed = unboxed.the_row R Z g

  abbrev pub allocator : Al
  allocator = record { row = Z; laws = L; g = g; d = impl [] tnil dnil; drops = impl [] tnil dnil }

  pub duo_fits : (b o : ℕ) (h : Val) → Fits allocator h → T (has_ty (layout Z) h && true) × WT (duo (vptr b o) h)
  duo_fits b o h fits = (and_tt (has_ty (layout Z) h) fits.0, (tt, (fits.1, tt)))

  module _ {M : Type 1} {𝓤 : Ura M} {𝓛 : Logic 𝓤} {K : Type 0} {Γ : List (Item 𝓤)} {G : Goal 𝓤 𝓛.H} where
    pub unboxed_out : K → (u : Unboxed.Denot) (vs : List Val)
        → ((b o : ℕ) (h : Val) → u.ptr ≡ block_ptr b o → vs ≡ duo (vptr b o) h ∷ [] → Fits allocator h
        → Seq K 𝓛 (‵ (box_owns (g.dealloc_token u.alloc) R (block_ptr b o) u.value) ∷ ‵ (Z.own_val u.alloc (h ∷ [])) ∷ Γ) G)
        → Seq K 𝓛 (‵ (Unboxed.own_val u vs) ∷ Γ) G
    unboxed_out t u vs k = fsplit t $ fpick t (λ vss. fsplit t $ feq_l t (λ both. fsplit t $ feq_l t (λ first. fsplit t $ handle_tells allocator t u.alloc vss.1.0 (λ h second fits.
        move t (1 ∷ []) $ drop t $ move t (1 ∷ []) $
        in_a_block t u.ptr (λ p. box_owns (g.dealloc_token u.alloc) R p u.value) (fst∗ 𝓤 (never 𝓤) (sem 𝓛 (g.dealloc_token u.alloc (bare (lone R.mir)) null_ptr))) (λ b o at. k b o h at
        (subst (λ (p : Ptr). vs ≡ duo (ptr_val p) h ∷ []) at
        (subst (λ (ws : List Val). vs ≡ vstruct (of_list (ptr_val u.ptr ∷ (ws ++ []))) ∷ []) second
        (subst (λ (ps : List Val). vs ≡ vstruct (of_list (ps ++ (vss.1.0 ++ []))) ∷ []) first both))) fits)))))

    pub unboxed_in : K → (b o : ℕ) (h : Val) (a : Z.Denot) (x : R.Denot)
        → Step K 𝓛 (‵ (Unboxed.own_val (record { ptr = block_ptr b o; alloc = a; value = x }) (duo (vptr b o) h ∷ [])) ∷ Γ) G
        (‵ (box_owns (g.dealloc_token a) R (block_ptr b o) x) ∷ ‵ (Z.own_val a (h ∷ [])) ∷ Γ) G
    unboxed_in t b o h a x = step (λ s. nothing t $ move t (2 ∷ 0 ∷ []) $ fjoin t $ feq_i t (List Val) (vptr b o ∷ []) (vptr b o ∷ []) refl $ fjoin t $
        feq_i t (List Val) (duo (vptr b o) h ∷ []) (duo (vptr b o) h ∷ []) refl $ fjoin t $
        fpack t (Valss (RawPtr ∷ Z ∷ [])) (within (shape (unboxed.the_type R Z g)) (block_ptr b o, (a, tt)) (duo (vptr b o) h ∷ [])) (vptr b o ∷ [], (h ∷ [], tt)) $ fjoin t $ s)
