-- The mask of the last byte.
use Rattle.std.proofs.Common.{◌≢◌, ◌-◌, ◌%◌, ap, refl, arith}
use Rattle.std.proofs.lemmas.Nat.{one_shl}
use Rattle.vx_arrow_zeros.proofs.BitLemmas.{past_cleared}
use Rattle.vx_arrow_zeros.proofs.bits.clear_past.Goals as goal

pub returns : goal.returns
returns c =
    let part : c.args.rows % 8 ≢ 0 = omega arith in
    past_cleared c.args.rows _ c.args.bits.now _ part c.requires (ap (λ m. m - 1) (one_shl (c.args.rows % 8) 8 (omega arith))) refl
