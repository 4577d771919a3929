use Rattle.std.proofs.Common.{rules}
use Rattle.serde_json.specs.Errors.{IsMemory}
use Rattle.serde_json.specs.View.{view}
use Rattle.vx_rows.proofs.JsonValues.{value_read, value_refused}
use Rattle.vx_rows.proofs.reply.value_of.Goals as goal

pub returns-in-Ok : goal.returns-in-Ok
returns-in-Ok c = value_read c.args.bytes.now (view c.in-Ok.value) c.in-Ok.ensures.ok.0 c.in-Ok.ensures.ok.1

pub returns-else-is_memory : goal.returns-else-is_memory
returns-else-is_memory c =
    let other : IsMemory c.in-Err.e → ⊥ = search rules in
    value_refused c.args.bytes.now (c.in-Err.ensures.err other)
