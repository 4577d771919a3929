-- A table's columns are as long as it.
use Rattle.std.proofs.Common.{◌≡◌, None, subst}
use Rattle.vx_table.specs.Table.{TableValue, table_fault}
use Rattle.vx_table.proofs.Tables.{long_columns}
use Rattle.vx_table.proofs.table.Table.columns.Goals as goal

pub returns-clause-long : goal.returns-clause-long
returns-clause-long c =
    let P : TableValue → Type 0 = λ t. table_fault t ≡ None in
    long_columns c.args.self.now (subst P c.self.view_is c.self.invariant)
