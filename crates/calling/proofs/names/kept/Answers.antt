-- One filter by a mask that is as long breaks no rule.
use Rattle.std.proofs.Common.{Err, ap, ◌∙◌}
use Rattle.vortex_select.specs.Mask.{mask_bits}
use Rattle.calling.proofs.NameTables.{kept_rows, unbroken}
use Rattle.calling.proofs.names.kept.Goals as goal

pub unreachable-requires : goal.unreachable-requires
unreachable-requires c =
    let e = c.in-Err-Broken in
    unbroken c.args.table.now (mask_bits c.in_ok-mask.field-0) c.args.bits.now c.in_ok-mask.ensures c.requires c.select.result e.field-0-0 e.field-0-1 (e.is ∙ ap Err e.field-0-is) c.select.ensures

pub returns-in-Ok : goal.returns-in-Ok
returns-in-Ok c =
    kept_rows c.args.table.now (mask_bits c.in_ok-mask.field-0) c.args.bits.now c.in_ok-mask.ensures c.requires c.select.result c.in-Ok.answer c.in-Ok.is c.select.ensures
