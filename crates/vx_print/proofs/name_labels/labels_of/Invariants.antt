use Rattle.std.proofs.Common.{◌≡◌, map}
use Rattle.std.specs.List.{range_with_len}
use Rattle.vx_types.specs.Fields.{names_of}
use Rattle.vx_print.specs.Fields.{label_at}
use Rattle.vx_print.proofs.name_labels.labels_of.Given as goal

-- the first k are put together
abbrev pub invariant-loop-k : goal.invariant-loop-k
invariant-loop-k l = map (λ v. v.items) l.labels.items ≡ map (label_at (names_of l.names)) (range_with_len 0 l.k)
