use Rattle.std.proofs.Common.{◌+◌, ◌*◌, length, get_or, refl, ap, ◌∙◌, arith}
use Rattle.vx_bitfilter.proofs.PackedBytes.{entry_at, length-first_entries}
use Rattle.vx_bitfilter.proofs.table.PextTable.entry.Goals as goal

pub index-requires : goal.index-requires
index-requires c = omega (arith, ap length c.self.invariant, length-first_entries 65536, c.self.inside.entries.ok.0)

pub returns : goal.returns
returns c =
    let i = 256 * c.args.mask + c.args.src in
    c.from.ensures ∙ c.index.ensures ∙ ap (λ l. get_or l i c.index.result.now) c.self.invariant ∙ entry_at 65536 i c.args.src c.args.mask _ (omega arith) refl (omega arith)
