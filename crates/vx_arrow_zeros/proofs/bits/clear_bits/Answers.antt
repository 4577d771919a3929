-- The bits of null rows.
use Rattle.std.proofs.Common.{◌≡◌, ◌<◌, length, arith}
use Rattle.vx_arrow_zeros.specs.Zeros.{byte_count}
use Rattle.vx_arrow_zeros.proofs.BitLemmas.{nulls_cleared}
use Rattle.vx_arrow_zeros.proofs.bits.clear_bits.Goals as goal

pub returns : goal.returns
returns c =
    let rows = c.args.rows in
    let some : 0 < length c.args.valid.now = grind arith in
    let count : c.byte_count.result ≡ byte_count rows = c.byte_count.ensures in
    nulls_cleared rows c.args.valid.now c.args.bits.now c.clear_past.new.bits c.keep_valid.new.bits some c.clear_past.ensures c.keep_valid.auto.bits
    (λ k h. c.keep_valid.ensures.kept k (omega arith)) (λ k h. c.keep_valid.ensures.behind k (omega arith))
