use Rattle.std.proofs.Common.{◌≡◌, map}
use Rattle.std.specs.Prelude.{◌-◌, ◌&&◌, nat_le, nat_lt}
use Rattle.std.specs.List.{range_with_len}
use Rattle.rows_common.proofs.masks.mask_of_run.Given as goal

abbrev pub invariant-loop-n : goal.invariant-loop-n
invariant-loop-n l =
    l.bits.items ≡ map (λ n. nat_le l.start n && nat_lt (n - l.start) l.count) (range_with_len 0 l.n)
