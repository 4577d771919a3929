-- What a walk to the storage counts down: how deep the type nests.
use Rattle.vx_types.specs.DType.{type_of}
use Rattle.vx_types.specs.TypeTree.{type_size}
use Rattle.vx_print.proofs.stored.+names_in.Given as goal

abbrev pub decreases-names_in : goal.decreases-names_in
decreases-names_in l = type_size (type_of l.dtype.now)
