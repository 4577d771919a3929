-- A row of the list.
use Rattle.std.proofs.Common.{◌<◌, length, arith}
use Rattle.std.proofs.lemmas.Bool.Decides.{nat_tests}
use Rattle.vx_cuts.proofs.BitPlaces.{inside_is}
use Rattle.vx_cuts.proofs.bits.is_inside.Goals as goal

pub returns-in-Some : goal.returns-in-Some
returns-in-Some c =
    let found = c.in-Some.ensures.lookup in
    let here = found.0 in
    let below : c.args.part < length c.args.lists.now = grind (arith, nat_tests, here) in
    inside_is c.args.lists.now c.args.part c.args.row c.in-Some.list.now c.requires c.if-part-eq-NULL.false below found.1
