use Rattle.std.proofs.Common.{◌+◌, arith}
use Rattle.std.specs.Int.RustNames.{count_ones}
use Rattle.std.proofs.lemmas.Nat.{ones_le_self}
use Rattle.vx_filter.proofs.Copies.{run_copied, run_within, word_all_copied}
use Rattle.vx_filter.proofs.Moves.{same_further}
use Rattle.vx_filter.proofs.compact.ByRunsCopyWord.copy.Goals as goal

pub overflow_add-base : goal.overflow_add-base
overflow_add-base g c =
    omega (arith, run_within _ _ _ _ _ _ c.args.base c.run.left _ _ _ c.lowest_run-run.ensures c.run.invariant.copying)

pub copy_run-requires-clause-from : goal.copy_run-requires-clause-from
copy_run-requires-clause-from g c =
    run_within _ _ _ _ _ _ c.args.base c.run.left _ _ _ c.lowest_run-run.ensures c.run.invariant.copying

pub run-preserved : goal.run-preserved
run-preserved g c = record {
  copying = run_copied _ _ _ _ _ _ _ c.args.base c.run.left _ _ _ c.lowest_run-run.ensures c.copy_run.ensures.front c.copy_run.ensures.rest c.run.invariant.copying;
  ones = omega (arith, c.run.invariant.ones, c.lowest_run-run.ensures.ones);
}

pub returns : goal.returns
returns g c =
    let v = c.run.invariant in
    record {
      count = omega (arith, v.ones, ones_le_self c.run.left);
      front = word_all_copied _ _ _ _ c.args.base c.run.left (omega (arith, ones_le_self c.run.left)) v.copying.whole;
      rest = same_further c.args.dst.now c.run.dst (c.args.kept + count_ones c.args.word) c.run.next (omega (arith, v.ones, ones_le_self c.run.left)) v.copying.after;
    }
