use Rattle.std.proofs.Common.{◌≡◌, ◌+◌, ◌++◌, ◌∷◌, [], true, false, ℕ, List, get_or, length, refl, sym, ap, subst, ◌∙◌, arith}
use Rattle.std.specs.Prelude.{IfSome}
use Rattle.vx_file.specs.Blocks.{block_at}
use Rattle.vx_file.specs.Reading.{AreHeld, HasRoom, IsHeld}
use Rattle.vx_file.specs.Touched.{blocks_for}
use Rattle.vx_file.specs.declared.error.FileError.TheVariants.{NoMemory}
use Rattle.vx_file.proofs.Options.{for_all, if_both, under}
use Rattle.vx_file.proofs.ToldReads.{flag_of, names_touched, raised, read_nothing, told_after, told_nothing}
use Rattle.vx_file.proofs.TouchedLists.{held_more, room_more}
use Rattle.vx_file.proofs.reading.read_touched.Goals as goal
use Rattle.vx_lemmas.proofs.Results.{err_is}

pub returns-in_err-marks-clause-error : goal.returns-in_err-marks-clause-error
returns-in_err-marks-clause-error g c =
    let p = c.args.picks.now in
    err_is c.from_residual.result NoMemory _ c.from_residual.ensures.1 (λ t. read_nothing p.picks (g.R.BlockReader.reads c.args.reader.now) (blocks_for p.bound))

pub returns-in_err-starts-clause-error : goal.returns-in_err-starts-clause-error
returns-in_err-starts-clause-error g c =
    let p = c.args.picks.now in
    err_is c.from_residual-in_err-starts.result NoMemory _ c.from_residual-in_err-starts.ensures.1 (λ t. read_nothing p.picks (g.R.BlockReader.reads c.args.reader.now) (blocks_for p.bound))

pub loop-k-init : goal.loop-k-init
loop-k-init g c =
    let p = c.args.picks.now in
    record {
      capacity = omega (arith, c.in_ok-starts.ensures.capacity, c.len.ensures, ap length c.as_slice-flags.ensures.value, c.in_ok-marks.marks.ok.0);
      room = record { long = ap length c.in_ok-starts.ensures.items; inside = λ k h any. absurd (omega arith) };
      held = for_all (g.R.BlockReader.blocks c.args.reader.now) _ (λ all k h any. absurd (omega arith));
      told = λ t. told_nothing p.picks (g.R.BlockReader.reads c.args.reader.now);
      same = refl;
      cost = omega arith;
      never_falls = omega arith;
    }

pub loop-k-preserved : goal.loop-k-preserved
loop-k-preserved g c =
    let p = c.args.picks.now in
    let k = c.loop-k.k in
    let v = c.loop-k.invariant in
    let e = c.in_default.ensures in
    let flags = c.as_slice-flags.result.now in
    let picked = get_or flags k false in
    let numbers = c.loop-k.numbers.items in
    let new = c.keep_block.new.numbers.items in
    let starts = c.loop-k.starts.items in
    let blocks = g.R.BlockReader.blocks c.args.reader.now in
    let flag = flag_of flags _ p k c.as_slice-flags.ensures.value c.in_ok-marks.ensures (omega arith) in
    let starts_is : c.push_reserved.new.self.items ≡ starts ++ length numbers ∷ [] =
    c.push_reserved.ensures.items ∙ ap (λ n. starts ++ n ∷ []) (omega (arith, c.len-in-loop-k.ensures, c.loop-k.numbers.ok.0)) in
    let own = under picked (g.R.BlockReader.blocks c.loop-k.reader) (λ all. IsHeld c.args.width new (length numbers) (block_at all (k + 1))) e.held in
    let known = subst (λ o. IfSome o (λ all. picked ≡ true → IsHeld c.args.width new (length numbers) (block_at all (k + 1)))) v.same own in
    record {
      capacity = omega (arith, v.capacity, c.push_reserved.ensures.capacity);
      room = subst (λ (l : List ℕ). HasRoom new l p.picks (k + 1)) (sym starts_is) (room_more numbers new starts p.picks k picked flag.here e.grown v.room);
      held = subst (λ (l : List ℕ). IfSome blocks (AreHeld c.args.width new l p.picks (k + 1))) (sym starts_is)
          (if_both blocks (AreHeld c.args.width numbers starts p.picks k) (λ all. picked ≡ true → IsHeld c.args.width new (length numbers) (block_at all (k + 1))) (AreHeld c.args.width new (starts ++ length numbers ∷ []) p.picks (k + 1)) v.held known
          (λ all held last. held_more numbers new starts p.picks k picked c.args.width all flag.here e.front v.room held last));
      told = told_after flags p k (g.R.BlockReader.spare c.args.reader.now) (g.R.BlockReader.spare c.loop-k.reader) (g.R.BlockReader.reads c.args.reader.now) (g.R.BlockReader.reads c.loop-k.reader) (g.R.BlockReader.reads c.keep_block.new.reader) flag v.cost v.told e.told;
      same = e.same ∙ v.same;
      cost = omega (arith, v.cost, e.cost, flag.count);
      never_falls = omega (arith, v.never_falls, e.never_falls);
    }

pub returns-in-Err-clause-error : goal.returns-in-Err-clause-error
returns-in-Err-clause-error g c =
    let p = c.args.picks.now in
    let v = c.loop-k.invariant in
    let e = c.in-Err.ensures in
    let flags = c.as_slice-flags.result.now in
    let flag = flag_of flags _ p c.loop-k.k c.as_slice-flags.ensures.value c.in_ok-marks.ensures (omega arith) in
    raised c.args.width c.loop-k.k p (g.R.BlockReader.spare c.args.reader.now) (g.R.BlockReader.faults c.args.reader.now) (g.R.BlockReader.faults c.loop-k.reader) (g.R.BlockReader.faults c.keep_block.new.reader)
    (g.R.BlockReader.reads c.args.reader.now) (g.R.BlockReader.reads c.keep_block.new.reader) (g.R.BlockReader.blocks c.args.reader.now) (g.R.BlockReader.blocks c.loop-k.reader) c.in-Err.error
    v.never_falls (omega (arith, flag.long)) (sym flag.here ∙ e.asked) v.same
    (told_after flags p c.loop-k.k (g.R.BlockReader.spare c.args.reader.now) (g.R.BlockReader.spare c.loop-k.reader) (g.R.BlockReader.reads c.args.reader.now) (g.R.BlockReader.reads c.loop-k.reader) (g.R.BlockReader.reads c.keep_block.new.reader) flag v.cost v.told e.told)
    e.error

pub returns-in-Err-clause-cost : goal.returns-in-Err-clause-cost
returns-in-Err-clause-cost g c =
    let flag = flag_of c.as_slice-flags.result.now _ c.args.picks.now c.loop-k.k c.as_slice-flags.ensures.value c.in_ok-marks.ensures (omega arith) in
    omega (arith, flag.count, flag.most, c.loop-k.invariant.cost, c.in-Err.ensures.cost)

pub returns-in_err-marks-clause-touched : goal.returns-in_err-marks-clause-touched
returns-in_err-marks-clause-touched g c = err_is c.from_residual.result NoMemory _ c.from_residual.ensures.1 tt

pub returns-in_err-starts-clause-touched : goal.returns-in_err-starts-clause-touched
returns-in_err-starts-clause-touched g c = err_is c.from_residual-in_err-starts.result NoMemory _ c.from_residual-in_err-starts.ensures.1 tt

pub returns-in-Err-clause-touched : goal.returns-in-Err-clause-touched
returns-in-Err-clause-touched g c =
    let p = c.args.picks.now in
    let flag = flag_of c.as_slice-flags.result.now _ p c.loop-k.k c.as_slice-flags.ensures.value c.in_ok-marks.ensures (omega arith) in
    names_touched c.loop-k.k p _ _ _ c.in-Err.error (omega (arith, flag.long)) (sym flag.here ∙ c.in-Err.ensures.asked) c.in-Err.ensures.error
