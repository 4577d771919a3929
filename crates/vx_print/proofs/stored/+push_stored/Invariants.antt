-- What a walk to the storage counts down: how deep the type nests.
use Rattle.vx_types.specs.DType.{type_of}
use Rattle.vx_types.specs.TypeTree.{type_size}
use Rattle.vx_print.proofs.stored.+push_stored.Given as goal

abbrev pub decreases-push_stored : goal.decreases-push_stored
decreases-push_stored l = type_size (type_of l.dtype.now)
