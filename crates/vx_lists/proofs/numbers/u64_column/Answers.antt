-- Each number fits.
use Rattle.std.proofs.Common.{arith, get_or}
use Rattle.std.proofs.lemmas.Bool.{le-leb}
use Rattle.std.proofs.lemmas.List.{get_or_default}
use Rattle.vx_lists.proofs.numbers.u64_column.Goals as goal

pub offset_column-requires-clause-small : goal.offset_column-requires-clause-small
offset_column-requires-clause-small c k d h =
    let fits = (c.type_inv.offsets k).fits in
    let same = get_or_default c.args.offsets.now k d 0 h in
    le-leb (get_or c.args.offsets.now k d) 18446744073709551615 (omega (arith, fits, same))
