use Rattle.std.proofs.Common.{◌≡◌, arith}
use Rattle.vx_words.specs.Masks.{mask_fault}
use Rattle.vx_words.proofs.MaskWords.{is_mask}
use Rattle.vx_words.proofs.runs.list_runs.Goals as goal

pub count_runs-count-requires-clause-lengths : goal.count_runs-count-requires-clause-lengths
count_runs-count-requires-clause-lengths c =
    let whole : mask_fault c.args.rows c.args.words.now ≡ 0 = omega (arith, c.fault_of-fault.ensures, c.if-fault-ne-DONE.false) in
    (is_mask c.args.rows c.args.words.now whole).lengths

pub put_runs-requires-clause-lengths : goal.put_runs-requires-clause-lengths
put_runs-requires-clause-lengths c =
    let whole : mask_fault c.args.rows c.args.words.now ≡ 0 = omega (arith, c.fault_of-fault.ensures, c.if-fault-ne-DONE.false) in
    (is_mask c.args.rows c.args.words.now whole).lengths
