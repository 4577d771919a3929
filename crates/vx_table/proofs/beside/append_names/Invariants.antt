-- The names before this one are appended.
use Rattle.std.proofs.Common.{◌≡◌, ◌++◌, take}
use Rattle.vx_table.specs.Table.{names_of}
use Rattle.vx_table.proofs.beside.append_names.Given as goal

abbrev pub invariant-loop-name : goal.invariant-loop-name
invariant-loop-name l = names_of l.to.items ≡ names_of l.fn.to.items ++ names_of (take l.name-index l.names)
