-- `share` counts one more owner, or finds the count full.
use mathlib.Core.Path.{◌≡◌, refl, sym, ap, subst}
use mathlib.Core.Bool.{true, false}
use mathlib.Core.List.{List, [], ◌∷◌, ◌++◌}
use Prim.Native.Nat.{ℕ, ◌+◌, ◌-◌, ◌<◌, ◌^◌}
use native.Mathlib.Omega.{arith}
use mir.Syntax.{Args, Fn, a_type}
use mir.Val.{Val, vptr}
use mir.MapTy.{inst_fn}
use base.Logic.{SProp, ent, emp, id⊢}
use base.Fml.{Lft, Share, ftrue, flft, fhide, ftok}
use base.Mask.{every}
use base.Share
use prog.Wp.{WpFn, Env}
use types.Kit.{‵, raw, ◌⊛◌, later, at_ret, ◌$◌, ◌∵◌, !, qed, by, move, keep, split, join, fsplit, fjoin, suffices, use0, use1, await}
use types.Run.{look, store, stop, fld, load, lit, neg_lit, bin, of_opd, no_more, and_then, assigns_last, first, blocks, skips, branches, exec, returns, enter}
use types.ByLocal.{alloc_all, pass_all, free_all, look_at, get, through, sets, is, env}
use types.Part.{agg, sub, whole, look_in}
use contract.Monad.{fact, fact_i}
use denote.Builtin.{RefOf}
use denote.Exit.{yes}
use denote.Memory.{hidden_shr}
use denote.Opens.{unhide}
use denote.Param.{param, layouts}
use denote.RattleType.{RattleType, owns}
use denote.RawPtr.{Ptr, ptr_val}
use denote.Signature.{types_at, plain}
use denote.Steps.{nothing}
use denote.Struct.Lending as lending
use denote.Triple.Walked.{Stays, stay_dropped, walk_of, Goes-dropped}
use Rattle.std.proofs.RcSteps.{is_not, is_so, word-Good}
use Rattle.std.proofs.VecSteps.Shapes.{after}
use Rattle.std.proofs.raw_atomic.Walks.{leaves}
use Rattle.vx_shared.specs.Counted.{value_and_block, counted_shares}
use Rattle.vx_shared.specs.Saturating.{ticket, tally}
use Rattle.vx_shared.specs.contracts.counted.Counted as counted
use Rattle.vx_shared.proofs.CountedSteps.{word, Word, word_type, read_word, back_word}
use Rattle.vx_shared.proofs.CountedSteps as steps
use Rattle.vx_shared.proofs.Opening.{twice, enters, lent_out, owner_made}
use Rattle.vx_shared.proofs.Saturating.{more, stays}
use Rattle.vx_shared.proofs.Turns.{held, tables_held, proved_held}
use Rattle.vx_shared.specs.contracts.counted.Counted.share.{ended, clauses}
use Rattle.vx_shared.specs.contracts.counted.Counted.share.Key.{name as #self}
use Rattle.vx_shared.proofs.counted.Counted.share.Statement.{statement}
use Rattle.vx_shared.proofs.counted.Counted.share.Code as code
use Rattle.vx_shared.proofs.counted.Counted.share.Code.{code as code_of}

pub share_spec : {M : Type 1} → statement M
unfolding code_of
share_spec 𝓤 𝓛 𝓜 𝓡 wired T L =
    let H = 𝓛.H in let R : RattleType = param 0 T in let Row : RattleType = counted.the_row R in
    let En = ended T in let c = clauses T 𝓛 𝓜.mem 𝓡.returns in let args : Args = layouts (a_type ∷ []) (T, tt) in let fn : Fn = inst_fn args code.function in
    let self = RefOf (0 ∷ []) tt (plain (λ _. Row)) (λ _. tt) in let hs : Stays En.signature.params En.kept = (stay_dropped self yes, tt) in
    let c' = held 𝓛 En hs c 𝓜 𝓡 in let 𝓣 = tables_held 𝓛 En hs c 𝓜 𝓡 in
    proved_held 𝓛 En hs c 𝓜 𝓡 (Goes-dropped 𝓛 2 self yes (λ κs x f. refl), tt) (#self args) fn (wired.0.0 (#self args) refl) (λ z are.
    let κ : Lft = z.0.0.0 in let q : Share = z.0.1.0 in let b : ℕ = z.0.3.0.ref_ptr.0 in let o : ℕ = z.0.3.0.ref_ptr.1 in let p : Ptr = z.0.3.0.now.ptr in let x : T.Denot = z.0.3.0.now.value in
    let Post : Val → SProp 𝓤 = (walk_of 𝓛 En hs c').post z in let Run : List Val → SProp 𝓤 = λ ws. WpFn 𝓤 H 𝓣.C 𝓣.Λ fn ws Post in
    let others = ‵ (flft z.0.0.1.0 z.0.1.1.0) ⊛ ‵ ftrue in
    qed 𝓛 (((‵ (flft κ q) ⊛ others) ⊛ ‵ (owns (types_at En.signature.params z.0.0) z.0.3 z.0.4)) ∷ (‵ (ftok every) ⊛ raw ((c z.0.0 z.0.3).requires z.1)) ∷ []) ∵
    split ! $ split ! $ move ! (3 ∷ []) $ split ! $ move ! (4 ∷ []) $ fsplit ! $ fsplit ! $ keep ! (1 ∷ 5 ∷ 3 ∷ 6 ∷ []) $
    suffices ! (Run (vptr b o ∷ [])) (subst (λ (us : List Val). ent 𝓤 (Run (vptr b o ∷ [])) (Run us)) (sym (λ i. are.0.0 i ++ [])) (id⊢ 𝓤 (Run (vptr b o ∷ [])))) $
    enter ! 𝓣.C 𝓣.Λ fn (vptr b o ∷ []) Post $ alloc_all ! (λ l. pass_all ! refl ((tt, tt), tt) $ let Ev : Env 𝓤 H = env fn.locals l in
    use1 𝓛 (‵ (hidden_shr (Word R) κ (p, tt) b o) ⊛ ‵ (fhide (counted_shares R p x κ))) (lending.lent_out 𝓛 (counted.struct R) (counted.the_codes T.Denot R.coded) (counted.the_heap R) (counted.the_lent R) κ z.0.3.0.now b o) $ split ! $
    move ! (2 ∷ []) $ use1 𝓛 (‵ (flft κ (Share.left q)) ⊛ ‵ (flft κ (Share.right q))) (𝓛.lfts.lft_split κ q) $ split ! $ move ! (2 ∷ 0 ∷ []) $
    -- [the pointer; half of the token; the other half; what the `&` holds; the thread's token; the
    -- other tokens]
    read_word R p ! tt b o (λ r. move ! (3 ∷ 2 ∷ []) $ unhide ! $ lent_out R p x ! tt (λ a s. move ! (1 ∷ []) $ twice R p x a ! $ move ! (0 ∷ 2 ∷ 7 ∷ []) $
    enters R p x a ! tt s (λ y n pb po at fits some.
    -- [the count; what is beside it; the share; the right to shut; the invariant; what is seen; the
    -- loan; the pointer; the way back; the other tokens]
    sets ! (is ! (of_opd ! (load ! (through ! refl (fld ! refl (stop !))) (look_in ! 7 (sub ! 0 refl (whole !))))) (ap ptr_val at)) refl (tt, tt) $ sets ! (of_opd ! (get ! refl)) refl (tt, tt) $ first ! $ blocks ! $
    sets ! (of_opd ! (load ! (through ! refl (fld ! refl (stop !))) (look ! 0 refl))) refl (tt, record { fits = fits }) $ sets ! (bin ! (get ! refl) (neg_lit ! tt) tt) refl (tt, tt) $ branches ! (get ! refl)
    (λ room. let fits' : n + 1 < 2 ^ 64 = omega (arith, is_not n (2 ^ 64 - 1) room, fits) in
    sets ! (bin ! (get ! refl) (lit ! tt) (record { fits = fits' })) refl (tt, record { fits = fits' }) $ assigns_last ! (of_opd ! (get ! refl)) (through ! refl (fld ! refl (stop !))) (store ! 0 refl (tt, record { fits = fits' })) $
    exec ! 𝓣.C 𝓣.Λ Ev (after 3 fn.body) (at_ret Ev Post) $
    move ! (1 ∷ []) $ use1 𝓛 (‵ (tally (value_and_block R p x) a true (n + 1)) ⊛ ‵ (ticket a)) (more 𝓛 a (value_and_block R p x) y n (omega (arith, fits'))) $ split ! $
    owner_made R p x ! tt a s r true (n + 1) pb po b o at $ sets ! (is ! (agg ! (and_then ! (get ! refl) (no_more !))) (ap word (sym at))) refl (word-Good (steps.name R) p) $
    move ! (2 ∷ []) $ use0 𝓛 (‵ ((Word R).own_val (p, tt) (word p ∷ []))) (steps.made R 𝓛 p) $ fjoin ! $ use0 𝓛 (raw (fact 𝓤 (x ≡ x))) (fact_i 𝓤 (x ≡ x) (emp 𝓤) refl) $ move ! (3 ∷ 0 ∷ []) $ join ! $ nothing ! $ nothing ! $ fjoin ! $
    move ! (3 ∷ 4 ∷ []) $ join ! $ returns ! (look_at ! 0 refl) $ free_all ! refl $ keep ! (0 ∷ 1 ∷ 3 ∷ 2 ∷ []) $ by ! (leaves 𝓛 En hs c' z (word p) (record { ptr = p; value = x }) (tt, tt) (tt, tt)))
    (λ full. skips ! $ exec ! 𝓣.C 𝓣.Λ Ev (after 3 fn.body) (at_ret Ev Post) $
    move ! (1 ∷ []) $ use1 𝓛 (later (‵ (tally (value_and_block R p x) a false n) ⊛ ‵ (ticket a))) (stays 𝓛 a (value_and_block R p x) y n (is_so n (2 ^ 64 - 1) full)) $ await ! tt $ split ! $
    owner_made R p x ! tt a s r false n pb po b o at $ sets ! (is ! (agg ! (and_then ! (get ! refl) (no_more !))) (ap word (sym at))) refl (word-Good (steps.name R) p) $
    move ! (2 ∷ []) $ use0 𝓛 (‵ ((Word R).own_val (p, tt) (word p ∷ []))) (steps.made R 𝓛 p) $ fjoin ! $ use0 𝓛 (raw (fact 𝓤 (x ≡ x))) (fact_i 𝓤 (x ≡ x) (emp 𝓤) refl) $ move ! (3 ∷ 0 ∷ []) $ join ! $ nothing ! $ nothing ! $ fjoin ! $
    move ! (3 ∷ 4 ∷ []) $ join ! $ returns ! (look_at ! 0 refl) $ free_all ! refl $ keep ! (0 ∷ 1 ∷ 3 ∷ 2 ∷ []) $ by ! (leaves 𝓛 En hs c' z (word p) (record { ptr = p; value = x }) (tt, tt) (tt, tt))))))))
