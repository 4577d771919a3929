-- The rows of each column at the picks are a table.
use Rattle.std.proofs.Common.{ap, sym, subst, ◌∙◌}
use Rattle.vx_types.specs.TypeTree.{also_nullable}
use Rattle.vx_pieces.specs.Indices.{index_nullability, index_picks, index_value}
use Rattle.vx_table.specs.Table.{TableValue, names_of}
use Rattle.vx_table.specs.Taken.{IsTaken}
use Rattle.vx_table.proofs.Tables.{taken_table}
use Rattle.vx_table.proofs.table.Table.take.Goals as goal
use Rattle.vx_bits.proofs.Results.{made, no_refusal}

pub unreachable-requires : goal.unreachable-requires
unreachable-requires c =
    let t = c.args.self.now in
    let known = taken_table t (index_value c.args.indices.now) (names_of c.append_names.new.to.items) (names_of c.new-names.result.items) (names_of c.names.result.now) c.columns.result.now c.in_ok-columns.columns c.len-2.result
    c.names.ensures.valid c.in_ok-append_names.ensures (ap names_of c.new-names.ensures.items) c.names.ensures.value c.columns.ensures.value c.in_ok-columns.ensures (c.len-2.ensures.picks t.len c.requires) in
    no_refusal _ _ c.in-Err.field-0 known.0 (sym c.in-Err.is ∙ c.try_new.ensures)

pub returns : goal.returns
returns c =
    let t = c.args.self.now in let v = index_value c.args.indices.now in
    let known = taken_table t v (names_of c.append_names.new.to.items) (names_of c.new-names.result.items) (names_of c.names.result.now) c.columns.result.now c.in_ok-columns.columns c.len-2.result
    c.names.ensures.valid c.in_ok-append_names.ensures (ap names_of c.new-names.ensures.items) c.names.ensures.value c.columns.ensures.value c.in_ok-columns.ensures (c.len-2.ensures.picks t.len c.requires) in
    let P : TableValue → Type 0 = λ p. IsTaken t (λ u. also_nullable u (index_nullability v)) (index_picks v) p in
    subst P (sym (made _ _ c.in-Ok.table (sym c.in-Ok.is ∙ c.try_new.ensures))) known.1
