-- The names before the one at hand are others.
use Rattle.std.proofs.Common.{◌≡◌, drop}
use Rattle.vx_types.specs.Fields.{names_of}
use Rattle.vx_shorthand.specs.Named.{first_named}
use Rattle.vx_shorthand.proofs.named.field.Given as goal

abbrev pub invariant-loop-i : goal.invariant-loop-i
invariant-loop-i l =
    first_named l.name (names_of l.names) l.columns
    ≡ first_named l.name (drop l.i (names_of l.names)) (drop l.i l.columns)
