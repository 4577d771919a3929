-- `first` cuts the block into its fields, and makes the invariant of them.
use mathlib.Core.Path.{◌≡◌, refl, sym, subst}
use mathlib.Core.List.{List, [], ◌∷◌, ◌++◌}
use Prim.Native.Nat.{ℕ}
use mir.Syntax.{Args, Fn, a_type}
use mir.Val.{Val, vptr}
use mir.MapTy.{inst_fn}
use base.Logic.{SProp, ent, emp, id⊢}
use base.Fml.{Lft, Share, Fml, ftrue, flft}
use prog.Wp.{WpFn}
use types.Kit.{‵, raw, ◌⊛◌, later, ◌$◌, ◌∵◌, !, qed, by, move, keep, drop, split, split3, join, fsplit, fjoin, fjoin3, fpack, suffices, use0, use1, use3, await, rewrite}
use types.Run.{stop, fld, of_opd, no_more, and_then, returns, enter}
use types.ByLocal.{alloc_all, pass_all, free_all, look_at, get, get_in, sets}
use types.Part.{agg, sub, whole}
use contract.Monad.{fact, fact_i}
use contract.BorrowLft.{◌⊑◌}
use contract.Running.{tables}
use denote.Exit.{no}
use denote.Param.{param, layouts}
use denote.Param.Laws.{param_laws}
use denote.RattleType.{RattleType, owns}
use denote.RawPtr.{Ptr, block_ptr, ◌+ₚ◌}
use denote.Signature.{types_at, plain}
use denote.Steps.{nothing, heard}
use denote.Struct.Lending.{Lends, Lends-first, Lends-lies, lent_at_shr_laws}
use denote.Triple.Walked.{Stays, stay_dropped, walk_of, Goes-dropped}
use Rattle.std.proofs.alloc.Global.TheLaws as heap_laws
use Rattle.std.proofs.raw_atomic.Walks.{proved_at, leaves}
use Rattle.std.specs.contracts.alloc.Global as heap
use Rattle.std.specs.contracts.impls.GlobalAllocator.TheImpl.{ghosts}
use Rattle.std.specs.declared.alloc.Global.{Global}
use Rattle.vx_shared.specs.Counted.{key, count_at, value_at, value_offset, left_at, block_type, value_and_block, value_shared, counted_owns}
use Rattle.vx_shared.proofs.BlockSteps.{Block, block_out}
use Rattle.vx_shared.proofs.CountedSteps.{word, Word}
use Rattle.vx_shared.proofs.CountedSteps as steps
use Rattle.vx_shared.proofs.Saturating.{made}
use Rattle.vx_shared.proofs.UnboxedSteps.{duo, Unboxed, duo_fits, unboxed_out}
use Rattle.vx_shared.specs.contracts.counted.Counted.first.{ended, clauses}
use Rattle.vx_shared.specs.contracts.counted.Counted.first.Key.{name as #self}
use Rattle.vx_shared.proofs.counted.Counted.first.Statement.{statement}
use Rattle.vx_shared.proofs.counted.Counted.first.Code as code

pub first_spec : {M : Type 1} → statement M
first_spec 𝓤 𝓛 𝓜 𝓡 wired T L =
    let H = 𝓛.H in let 𝓣 = tables 𝓤 H 𝓜 𝓡 𝓡.env in let R : RattleType = param 0 T in let LR = param_laws 0 T L in let B : RattleType = Block T L in let Z : RattleType = heap.the_row in let LZ = heap_laws.the_row_laws in
    let Row : RattleType = Unboxed B Z LZ ghosts in let En = ended T in let c = clauses T 𝓛 𝓜.mem 𝓡.returns in
    let args : Args = layouts (a_type ∷ []) (T, tt) in let fn : Fn = inst_fn args code.function in let hs : Stays En.signature.params En.kept = (stay_dropped (plain (λ _. Row)) no, tt) in
    proved_at 𝓛 En hs c 𝓜 𝓡 (Goes-dropped 𝓛 1 (plain (λ _. Row)) no (λ κs x f. refl), tt) (#self args) fn (code.unfolded 𝓤 H 𝓜 𝓡 wired (T, tt)) (λ z are.
    let κ : Lft = z.0.0.0 in let q : Share = z.0.1.0 in let u = z.0.3.0 in let x : T.Denot = u.value.value in
    let Post : Val → SProp 𝓤 = (walk_of 𝓛 En hs c).post z in let Run : List Val → SProp 𝓤 = λ ws. WpFn 𝓤 H 𝓣.C 𝓣.Λ fn ws Post in
    qed 𝓛 (((‵ (flft κ q) ⊛ ‵ ftrue) ⊛ ‵ (owns (types_at En.signature.params z.0.0) z.0.3 z.0.4)) ∷ raw (fact 𝓤 (κ ⊑ T.lives)) ∷ raw (fact 𝓤 (u.value.count ≡ 1)) ∷ []) ∵
    move ! (1 ∷ 2 ∷ []) $ heard ! (κ ⊑ T.lives) (λ lives. heard ! (u.value.count ≡ 1) (λ one. split ! $ split ! $ move ! (2 ∷ []) $ fsplit ! $ move ! (1 ∷ []) $ drop ! $
    unboxed_out B Z LZ ghosts ! u z.0.4.0 (λ b o h at is fits. let p : Ptr = block_ptr b o in let w : Val = duo (vptr b o) h in
    -- [the block; the right to free it; the allocator; the tokens]
    move ! (1 ∷ []) $ drop ! $ fsplit ! $
    use1 𝓛 (‵ (count_at p u.value.count) ⊛ ‵ (value_at R p x) ⊛ ‵ (left_at R p)) (block_out T L 𝓛 u.value.count x b o) $ split3 ! $
    rewrite ! 0 (λ (n : ℕ). ‵ (count_at p n)) one refl $ move ! (3 ∷ []) $ fpack ! Global (λ heap'. ghosts.dealloc_token heap' (block_type R) p) u.alloc $ move ! (2 ∷ 3 ∷ 0 ∷ []) $ fjoin3 ! $
    suffices ! (Run (w ∷ [])) (subst (λ (us : List Val). ent 𝓤 (Run (w ∷ [])) (Run us)) (sym (λ i. is i ++ [])) (id⊢ 𝓤 (Run (w ∷ [])))) $
    enter ! 𝓣.C 𝓣.Λ fn (w ∷ []) Post $ alloc_all ! (λ l. pass_all ! refl (duo_fits B Z LZ ghosts b o h fits, tt) $
    sets ! (of_opd ! (get_in ! (fld ! refl (stop !)) (sub ! 0 refl (whole !)))) refl (tt, tt) $ sets ! (agg ! (and_then ! (get ! refl) (no_more !))) refl (tt, (tt, tt)) $
    let P : Fml = value_and_block R p x in let t : Lft → Fml = value_shared R p x in
    let lends : Lends 𝓛 P t R.lives = Lends-first 𝓛 (value_at R p x) _ t R.lives (Lends-lies 𝓛 R R.lives (p +ₚ value_offset R) x (LR.shares 𝓛 x)) in
    move ! (1 ∷ 0 ∷ 2 ∷ []) $ use3 𝓛 (later (‵ (counted_owns R p x) ⊛ ‵ (flft κ q))) (made (key p) (count_at p) P t (lent_at_shr_laws R LR.shr_laws (p +ₚ value_offset R) x) 𝓛 R.lives lends κ q lives) $ await ! tt $ split ! $
    use0 𝓛 (‵ ((Word R).own_val (p, tt) (word p ∷ []))) (steps.made R 𝓛 p) $ fjoin ! $ use0 𝓛 (raw (fact 𝓤 (x ≡ x))) (fact_i 𝓤 (x ≡ x) (emp 𝓤) refl) $ nothing ! $ nothing ! $ fjoin ! $
    move ! (3 ∷ 4 ∷ []) $ join ! $ returns ! (look_at ! 0 refl) $ free_all ! refl $ keep ! (0 ∷ 1 ∷ 3 ∷ 2 ∷ []) $
    by ! (leaves 𝓛 En hs c z (word p) (record { ptr = p; value = x }) (tt, tt) (tt, tt)))))))
