use Rattle.vx_bits.proofs.BuiltLists.{built_none}
use Rattle.vx_bits.proofs.bit_builder.BitBuilder.with_capacity.Goals as goal

pub returns : goal.returns
returns c = built_none c.in_ok-with_capacity.field-0.items c.in_ok-with_capacity.ensures.items
