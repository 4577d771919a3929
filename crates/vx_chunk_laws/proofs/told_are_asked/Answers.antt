-- The chunks told are those asked for.
use Rattle.vx_chunk_plan.specs.Picks.{picks_of}
use Rattle.vx_chunk_laws.proofs.AskedFor.{are_asked}
use Rattle.vx_chunk_laws.proofs.told_are_asked.Goals as goal

pub returns : goal.returns
returns c = are_asked (picks_of c.args.places.now c.args.valid.now)
