use Rattle.std.proofs.Common.{length}
use Rattle.vx_mask.specs.Mask.{mask_bits}
use Rattle.vx_mask.specs.Positions.{set_of}
use Rattle.vx_chunked.proofs.Ascends.{ascending_of}
use Rattle.vx_chunked.proofs.Handed.{set_ascend}
use Rattle.rows_of_kernels.proofs.decoded.print_by_indices.Goals as goal

pub filter_chunked_by_indices-requires-clause-ascend : goal.filter_chunked_by_indices-requires-clause-ascend
filter_chunked_by_indices-requires-clause-ascend g c =
    let bits = mask_bits c.args.mask.now in
    rw (c.in-Some.ensures.set, c.len-len.ensures)
    (ascending_of 0 (length bits) (set_of bits) (set_ascend bits))
