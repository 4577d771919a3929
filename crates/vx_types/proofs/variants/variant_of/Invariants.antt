use Rattle.std.proofs.Common.{◌≡◌, ◌+◌, drop}
use Rattle.std.specs.Option.{option_map}
use Rattle.vx_types.specs.Variants.{index_of}
use Rattle.vx_types.proofs.variants.variant_of.Given as goal

abbrev pub invariant-loop-k : goal.invariant-loop-k
invariant-loop-k l = option_map (λ j. l.k + j) (index_of (drop l.k l.ids) l.id) ≡ index_of l.ids l.id
