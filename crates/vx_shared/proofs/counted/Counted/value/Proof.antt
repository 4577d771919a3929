-- `value` shows what each owner has seen of the value all along.
use mathlib.Core.Path.{◌≡◌, refl, sym}
use mathlib.Core.List.{List, [], ◌∷◌}
use Prim.Native.Nat.{ℕ, ◌+◌}
use mir.Syntax.{Args, Fn, a_type, named}
use mir.Val.{Val, vptr}
use mir.MapTy.{inst_fn}
use base.Logic.{SProp, emp, fst∗, never}
use base.Fml.{Lft, Share, ftrue, fsep, fat, flft, fhide}
use types.Logic.{sem}
use types.Kit.{‵, raw, ◌⊛◌, at_ret, ◌$◌, ◌∵◌, !, qed, by, move, keep, drop, split, join, fsplit, fjoin, use0, use1, rewrite, feq_i}
use types.Run.{stop, fld, hop, addr, of_opd, first, blocks, exec, returns, enter}
use types.ByLocal.{alloc_all, pass_all, free_all, look_at, get, through, sets, sets_last, env}
use types.Part.{sub, whole, look_in}
use contract.Monad.{fact, fact_i}
use contract.Running.{tables}
use denote.Builtin.{RefOf}
use denote.Exit.{yes}
use denote.Memory.{hidden_shr, shared_of}
use denote.Opens.{hide, unhide}
use denote.Param.{param, layouts}
use denote.Param.Laws.{param_laws}
use denote.RattleType.{RattleType, owns}
use denote.RawPtr.{Ptr, ◌+ₚ◌, in_a_block}
use denote.Ref.{shr_vals, shr_Tells}
use denote.Signature.{types_at, plain}
use denote.Steps.{nothing}
use denote.Struct.Lending.{lent_at, lent_at_shr_laws, lent_out}
use denote.Triple.Walked.{Stays, stay_dropped, walk_of, Goes-dropped}
use Rattle.std.proofs.VecSteps.Shapes.{after}
use Rattle.std.proofs.raw_atomic.Walks.{proved, leaves}
use Rattle.vx_shared.specs.Counted.{key, count_at, value_offset, value_and_block, value_shared, counted_shares}
use Rattle.vx_shared.specs.contracts.counted.Counted as counted
use Rattle.vx_shared.proofs.CountedSteps.{word, Word, word_type, read_word, back_word}
use Rattle.vx_shared.proofs.Saturating.{owner_sees}
use Rattle.vx_shared.specs.contracts.counted.Counted.value.{ended, clauses}
use Rattle.vx_shared.specs.contracts.counted.Counted.value.Key.{name as #self}
use Rattle.vx_shared.proofs.counted.Counted.value.Statement.{statement}
use Rattle.vx_shared.proofs.counted.Counted.value.Code as code

pub value_spec : {M : Type 1} → statement M
value_spec 𝓤 𝓛 𝓜 𝓡 wired T L =
    let H = 𝓛.H in let 𝓣 = tables 𝓤 H 𝓜 𝓡 𝓡.env in let R : RattleType = param 0 T in let Row : RattleType = counted.the_row R in
    let En = ended T in let c = clauses T 𝓛 𝓜.mem 𝓡.returns in let args : Args = layouts (a_type ∷ []) (T, tt) in let fn : Fn = inst_fn args code.function in
    let self = RefOf (0 ∷ []) tt (plain (λ _. Row)) (λ _. tt) in let hs : Stays En.signature.params En.kept = (stay_dropped self yes, tt) in
    proved 𝓛 En hs c 𝓜 𝓡 (Goes-dropped 𝓛 2 self yes (λ κs x f. refl), tt) (#self args) fn (code.unfolded 𝓤 H 𝓜 𝓡 wired (T, tt))
    (λ κs. (shr_vals, tt)) (λ κs. (shr_Tells (named 0) κs.0 Row, tt)) (λ κs qs bounds a g are.
    let b : ℕ = a.0.ref_ptr.0 in let o : ℕ = a.0.ref_ptr.1 in let κ : Lft = κs.0 in let p : Ptr = a.0.now.ptr in let x : T.Denot = a.0.now.value in
    let y : (walk_of 𝓛 En hs c).Ghost = ((κs, qs, bounds, a, (vptr b o ∷ [], tt)), g) in let Post : Val → SProp 𝓤 = (walk_of 𝓛 En hs c).post y in
    qed 𝓛 (((‵ (flft κ qs.0) ⊛ ‵ (fsep (flft κs.1.0 qs.1.0) ftrue)) ⊛ ‵ (owns (types_at En.signature.params κs) a y.0.4)) ∷ raw ((c κs a).requires g) ∷ []) ∵
    split ! $ split ! $ move ! (2 ∷ []) $ fsplit ! $ fsplit ! $ keep ! (1 ∷ 3 ∷ 4 ∷ []) $
    enter ! 𝓣.C 𝓣.Λ fn (vptr b o ∷ []) Post $ alloc_all ! (λ l. pass_all ! refl ((tt, tt), tt) $
    use1 𝓛 (‵ (hidden_shr (Word R) κ (p, tt) b o) ⊛ ‵ (fhide (counted_shares R p x κ))) (lent_out 𝓛 (counted.struct R) (counted.the_codes T.Denot R.coded) (counted.the_heap R) (counted.the_lent R) κ a.0.now b o) $
    split ! $ move ! (1 ∷ []) $ unhide ! $
    use1 𝓛 (‵ (value_shared R p x κ)) (owner_sees (key p) (count_at p) (value_and_block R p x) (value_shared R p x) (lent_at_shr_laws R (param_laws 0 T L).shr_laws (p +ₚ value_offset R) x) 𝓛 κ) $
    in_a_block ! p (λ r. lent_at R (r +ₚ value_offset R) x κ) (fst∗ 𝓤 (never 𝓤) (sem 𝓛 (shared_of R x 0 0 κ))) (λ pb po at. fsplit ! $ drop ! $ hide ! $
    -- [what is seen of the value; the pointer; the tokens]
    let there : Val = vptr pb (po + value_offset R) in let Pointer = λ (s : Share) (r : Ptr). ‵ (fat s (word_type R) b o (word r)) in
    move ! (1 ∷ 2 ∷ []) $ read_word R p ! tt b o (λ s. rewrite ! 0 (Pointer s) at refl $ first ! $ blocks ! $
    sets_last ! (addr ! (through ! refl (fld ! refl (hop ! (look_in ! 0 (sub ! 0 refl (whole !))) (fld ! refl (stop !)))))) refl (tt, tt) $
    exec ! 𝓣.C 𝓣.Λ (env fn.locals l) (after 1 fn.body) (at_ret (env fn.locals l) Post) $ sets ! (of_opd ! (get ! refl)) refl (tt, tt) $
    rewrite ! 0 (Pointer s) (sym at) refl $ back_word R p ! tt b o s $ move ! (0 ∷ 2 ∷ []) $ join ! $
    move ! (1 ∷ []) $ feq_i ! (List Val) (there ∷ []) (there ∷ []) refl $ fjoin ! $ use0 𝓛 (raw (fact 𝓤 (x ≡ x))) (fact_i 𝓤 (x ≡ x) (emp 𝓤) refl) $ nothing ! $ nothing ! $ fjoin ! $
    returns ! (look_at ! 0 refl) $ free_all ! refl $ keep ! (3 ∷ 0 ∷ 2 ∷ 1 ∷ []) $
    by ! (leaves 𝓛 En hs c y there (record { ref_ptr = (pb, po + value_offset R); now = x }) (tt, tt) (tt, tt))))))
