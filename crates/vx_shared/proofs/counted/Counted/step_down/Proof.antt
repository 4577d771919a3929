-- `step_down` counts one owner less, leaves a full count, or has the block for the last owner.
use mathlib.Core.Path.{◌≡◌, refl, sym, ap, subst}
use mathlib.Core.Bool.{true}
use mathlib.Core.List.{List, [], ◌∷◌, ◌++◌}
use Prim.Native.Nat.{ℕ, ◌+◌, ◌-◌, ◌<◌, ◌^◌}
use native.Mathlib.Omega.{arith}
use lib.Dec.{lit<}
use mir.Syntax.{Args, Fn, a_type, w64}
use mir.Val.{Val, vptr, vcons, vnil}
use mir.MapTy.{inst_fn}
use base.Fraction.{full_share}
use base.Logic.{SProp, ent, emp, id⊢}
use base.Fml.{Fml, ftrue, fdead, flft, ftok}
use base.Mask.{every}
use prog.Wp.{Env, Wp, WpFn, after_block, after_seq, at_return}
use types.Kit.{‵, raw, ◌⊛◌, later, at_ret, any_q, ◌$◌, ◌∵◌, !, qed, by, move, keep, split, join, fsplit, fsplit3, fjoin, fpick, suffices, use0, use1, use2, use3, await, rewrite}
use types.Run.{look, store, stop, fld, load, lit, neg_lit, bin, of_opd, no_more, and_then, assigns, first, blocks, skips, branches, exec, returns, returns_within, enter}
use types.ByLocal.{alloc_all, pass_all, free_all, look_at, get, get_in, through, sets, is, env}
use types.Match.{live}
use types.Part.{agg, sub, whole}
use contract.Monad.{fact, fact_i}
use denote.Exit.{no, yes}
use denote.Laws.{Is, shows}
use denote.Memory.{part_at, lone}
use denote.Param.{param, layouts}
use denote.Plain.{uint_in}
use denote.RattleType.{RattleType, owns}
use denote.RawPtr.{Ptr, block_ptr, ptr_val}
use denote.Signature.{types_at, type_at, plain}
use denote.Steps.{nothing, peeks}
use denote.Triple.Walked.{Stays, stay_dropped, walk_of, Goes-dropped}
use Rattle.std.proofs.RcSteps.{Some-of, none_of, some_Good, is_not, is_so, word-Good}
use Rattle.std.proofs.VecSteps.Shapes.{after, head, inside}
use Rattle.std.proofs.alloc.Calls.{handle_tells}
use Rattle.std.proofs.alloc.Global.TheLaws as heap_laws
use Rattle.std.proofs.raw_atomic.Walks.{leaves}
use Rattle.std.specs.contracts.alloc.Global as heap
use Rattle.std.specs.contracts.impls.GlobalAllocator.TheImpl.{ghosts}
use Rattle.std.specs.declared.option.Option.TheVariants.{None, Some}
use Rattle.vx_shared.specs.Counted.{count_at, value_at, left_at, freeable, value_and_block}
use Rattle.vx_shared.specs.Saturating.{ν, ticket, tally}
use Rattle.vx_shared.specs.contracts.counted.Counted as counted
use Rattle.vx_shared.proofs.BlockSteps.{Block, block_in}
use Rattle.vx_shared.proofs.CountedSteps.{word, Word, name, told}
use Rattle.vx_shared.proofs.Opening.{cell, enters, shuts_at, ends}
use Rattle.vx_shared.proofs.Saturating.{ticket_of, less, last}
use Rattle.vx_shared.proofs.Turns.{held, tables_held, proved_held}
use Rattle.vx_shared.proofs.UnboxedSteps.{duo, Unboxed, allocator, duo_fits, unboxed_in}
use Rattle.vx_shared.specs.contracts.counted.Counted.step_down.{ended, clauses}
use Rattle.vx_shared.specs.contracts.counted.Counted.step_down.Key.{name as #self}
use Rattle.vx_shared.proofs.counted.Counted.step_down.Statement.{statement}
use Rattle.vx_shared.proofs.counted.Counted.step_down.Code as code
use Rattle.vx_shared.proofs.counted.Counted.step_down.Code.{code as code_of}

pub step_down_spec : {M : Type 1} → statement M
unfolding code_of
step_down_spec 𝓤 𝓛 𝓜 𝓡 wired T L =
    let H = 𝓛.H in let R : RattleType = param 0 T in let Row : RattleType = counted.the_row R in let B : RattleType = Block T L in let Z : RattleType = heap.the_row in let LZ = heap_laws.the_row_laws in let Out : RattleType = Unboxed B Z LZ ghosts in
    let En = ended T in let c = clauses T 𝓛 𝓜.mem 𝓡.returns in let args : Args = layouts (a_type ∷ []) (T, tt) in let fn : Fn = inst_fn args code.function in
    let hs : Stays En.signature.params En.kept = (stay_dropped (plain (λ _. Row)) no, (stay_dropped (plain (λ _. Z)) yes, tt)) in
    let c' = held 𝓛 En hs c 𝓜 𝓡 in let 𝓣 = tables_held 𝓛 En hs c 𝓜 𝓡 in
    proved_held 𝓛 En hs c 𝓜 𝓡 (Goes-dropped 𝓛 1 (plain (λ _. Row)) no (λ κs x f. refl), (Goes-dropped 𝓛 1 (plain (λ _. Z)) yes (λ κs x f. refl), tt)) (#self args) fn (wired.0.0 (#self args) refl) (λ z are.
    let p : Ptr = z.0.3.0.ptr in let x : T.Denot = z.0.3.0.value in let alloc = z.0.3.1.0 in let P : Fml = value_and_block R p x in let maybe : RattleType = type_at En.signature.result z.0.0 in
    let Post : Val → SProp 𝓤 = (walk_of 𝓛 En hs c').post z in let Run : List Val → SProp 𝓤 = λ ws. WpFn 𝓤 H 𝓣.C 𝓣.Λ fn ws Post in
    let tokens = ‵ (flft z.0.0.0 z.0.1.0) ⊛ ‵ ftrue in
    qed 𝓛 ((tokens ⊛ ‵ (owns (types_at En.signature.params z.0.0) z.0.3 z.0.4)) ∷ (‵ (ftok every) ⊛ raw ((c z.0.0 z.0.3).requires z.1)) ∷ []) ∵
    split ! $ move ! (1 ∷ []) $ fsplit ! $ fsplit ! $ peeks ! (Word R) (Is (Word R)) (shows 𝓛 (Word R)) (p, tt) z.0.4.0 (λ is₁. move ! (2 ∷ []) $ fsplit ! $
    handle_tells (allocator B Z LZ ghosts) ! alloc z.0.4.1.0 (λ h is₂ fits_h. move ! (5 ∷ []) $ split ! $ keep ! (5 ∷ 0 ∷ 2 ∷ 6 ∷ []) $
    -- [what the owner has; the thread's token; the allocator; the tokens]
    suffices ! (Run (word p ∷ h ∷ [])) (subst (λ (us : List Val). ent 𝓤 (Run (word p ∷ h ∷ [])) (Run us)) (sym (λ i. told R p z.0.4.0 is₁ i ++ (is₂ i ++ []))) (id⊢ 𝓤 (Run (word p ∷ h ∷ [])))) $
    enter ! 𝓣.C 𝓣.Λ fn (word p ∷ h ∷ []) Post $ alloc_all ! (λ l. pass_all ! refl (word-Good (name R) p, (fits_h, tt)) $ let Ev : Env 𝓤 H = env fn.locals l in
    fpick ! (λ a. fsplit3 ! $ fpick ! (λ e. fsplit ! $ move ! (2 ∷ 0 ∷ 4 ∷ []) $ enters R p x a ! tt e.0 (λ y n pb po at fits some. move ! (2 ∷ 4 ∷ []) $ use2 𝓛 (‵ (ticket a)) (ticket_of 𝓛 a e.0 e.1) $ move ! (1 ∷ []) $
    -- [the count; the ticket; what is beside the count; the right to shut; what is seen; the
    -- allocator; the tokens]
    sets ! (is ! (of_opd ! (get_in ! (fld ! refl (stop !)) (sub ! 0 refl (whole !)))) (ap ptr_val at)) refl (tt, tt) $ sets ! (of_opd ! (get ! refl)) refl (tt, tt) $ first ! $ blocks ! $
    sets ! (of_opd ! (load ! (through ! refl (fld ! refl (stop !))) (look ! 0 refl))) refl (tt, record { fits = fits }) $ sets ! (bin ! (get ! refl) (neg_lit ! tt) tt) refl (tt, tt) $ first ! $ branches ! (get ! refl)
    (λ full. sets ! (agg ! (and_then ! (lit ! tt) (no_more !))) refl (tt, (record { fits = lit< tt }, tt)) $ move ! (0 ∷ 2 ∷ 3 ∷ []) $ shuts_at R p x a ! tt y n pb po at $
    use0 𝓛 (raw (fact 𝓤 (Unit {0}))) (fact_i 𝓤 (Unit {0}) (emp 𝓤) tt) $ move ! (1 ∷ 0 ∷ []) $ join ! $ use0 𝓛 (‵ (maybe.own_val None (live 0 vnil ∷ []))) (none_of 𝓛 Out) $ nothing ! $ nothing ! $ fjoin ! $ nothing ! $ fjoin ! $
    returns_within ! Post refl (look_at ! 0 refl) $ free_all ! refl $ keep ! (6 ∷ 0 ∷ 1 ∷ 2 ∷ []) $ by ! (leaves 𝓛 En hs c' z (live 0 vnil) None (tt, (tt, tt)) (tt, (tt, tt))))
    (λ exact. skips ! $ exec ! 𝓣.C 𝓣.Λ Ev (after 3 (inside (head (after 2 fn.body)))) (any_q (after_block 𝓤 H (after_seq 𝓤 H (Wp 𝓤 H 𝓣.C 𝓣.Λ Ev (after 3 fn.body) (at_return 𝓤 H Ev Post)) (at_return 𝓤 H Ev Post)))) $
    sets ! (bin ! (get ! refl) (lit ! tt) tt) refl (tt, tt) $ branches ! (get ! refl)
    (λ many. let more : 1 < n = omega (arith, is_not n 1 many, some) in let room : n < 2 ^ 64 - 1 = omega (arith, is_not n (2 ^ 64 - 1) exact, fits) in let fits' : n - 1 < 2 ^ 64 = omega (arith, fits) in
    sets ! (bin ! (get ! refl) (lit ! tt) some) refl (tt, record { fits = fits' }) $ assigns ! (of_opd ! (get ! refl)) (through ! refl (fld ! refl (stop !))) (store ! 0 refl (tt, record { fits = fits' })) $
    sets ! (agg ! (and_then ! (lit ! tt) (no_more !))) refl (tt, (record { fits = lit< tt }, tt)) $
    move ! (2 ∷ 1 ∷ []) $ use2 𝓛 (‵ (tally P a true (n - 1))) (less 𝓛 a P y n more room) $ move ! (1 ∷ 0 ∷ 2 ∷ []) $ shuts_at R p x a ! tt true (n - 1) pb po at $
    use0 𝓛 (raw (fact 𝓤 (Unit {0}))) (fact_i 𝓤 (Unit {0}) (emp 𝓤) tt) $ move ! (1 ∷ 0 ∷ []) $ join ! $ use0 𝓛 (‵ (maybe.own_val None (live 0 vnil ∷ []))) (none_of 𝓛 Out) $ nothing ! $ nothing ! $ fjoin ! $ nothing ! $ fjoin ! $
    returns_within ! Post refl (look_at ! 0 refl) $ free_all ! refl $ keep ! (5 ∷ 0 ∷ 1 ∷ 2 ∷ []) $ by ! (leaves 𝓛 En hs c' z (live 0 vnil) None (tt, (tt, tt)) (tt, (tt, tt))))
    (λ one. skips ! $ exec ! 𝓣.C 𝓣.Λ Ev (after 3 fn.body) (at_ret Ev Post) $ let is_one : n ≡ 1 = is_so n 1 one in let block : B.Denot = record { count = 1; value = x } in
    rewrite ! 0 (λ (m : ℕ). ‵ (cell R p x m pb po)) is_one refl $ rewrite ! 2 (λ (m : ℕ). ‵ (tally P a y m)) is_one refl $
    move ! (2 ∷ 1 ∷ []) $ use2 𝓛 (later (‵ P ⊛ ‵ (fdead (ν a)))) (last 𝓛 a P y) $ await ! tt $ split ! $ move ! (1 ∷ 3 ∷ []) $ ends R p x a ! tt $
    -- [the thread's token; the value with its block; the count; what is seen; the allocator; the
    -- tokens]
    move ! (1 ∷ []) $ fsplit3 ! $ rewrite ! 0 (λ (r : Ptr). ‵ (value_at R r x)) at refl $ rewrite ! 1 (λ (r : Ptr). ‵ (left_at R r)) at refl $ rewrite ! 2 (λ (r : Ptr). ‵ (freeable R r)) at refl $
    move ! (4 ∷ []) $ use1 𝓛 (‵ (count_at (block_ptr pb po) 1)) (uint_in 𝓛 full_share w64 1 pb (po + 0)) $ use3 𝓛 (‵ (part_at B full_share block pb po)) (block_in T L 𝓛 1 x pb po) $
    move ! (1 ∷ []) $ fpick ! (λ _. move ! (1 ∷ 0 ∷ []) $ fjoin ! $ move ! (0 ∷ 3 ∷ []) $ unboxed_in B Z LZ ghosts ! pb po h alloc block $
    let v : Val = duo (vptr pb po) h in let typed = duo_fits B Z LZ ghosts pb po h fits_h in let whole' : Out.Denot = record { ptr = block_ptr pb po; alloc = alloc; value = block } in
    sets ! (agg ! (and_then ! (get ! refl) (and_then ! (get ! refl) (no_more !)))) refl typed $ sets ! (agg ! (and_then ! (lit ! tt) (and_then ! (get ! refl) (no_more !)))) refl (some_Good (lone Out.mir) v typed) $
    use1 𝓛 (‵ (maybe.own_val (Some whole') (live 1 (vcons v vnil) ∷ []))) (Some-of 𝓛 Out whole' v) $ use0 𝓛 (raw (fact 𝓤 (x ≡ x))) (fact_i 𝓤 (x ≡ x) (emp 𝓤) refl) $ move ! (2 ∷ 0 ∷ []) $ join ! $ nothing ! $ nothing ! $ fjoin ! $ nothing ! $ fjoin ! $
    returns ! (look_at ! 0 refl) $ free_all ! refl $ keep ! (4 ∷ 0 ∷ 2 ∷ 1 ∷ []) $ by ! (leaves 𝓛 En hs c' z (live 1 (vcons v vnil)) (Some whole') (tt, (tt, tt)) (tt, (tt, tt)))))))))))))
