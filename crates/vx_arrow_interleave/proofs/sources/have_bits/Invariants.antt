-- None of the nodes so far has bits of validity.
use Rattle.std.proofs.Common.{◌≡◌, false, take}
use Rattle.std.specs.List.{list_any}
use Rattle.vx_arrow_image.specs.Image.{Part, parts_of}
use Rattle.vx_arrow_columns.specs.Picks.{has_bits}
use Rattle.vx_arrow_interleave.proofs.sources.have_bits.Given as goal

abbrev pub invariant-loop-s : goal.invariant-loop-s
invariant-loop-s l = list_any (λ (p : Part). has_bits p.valid) (take l.s (parts_of l.sources)) ≡ false
