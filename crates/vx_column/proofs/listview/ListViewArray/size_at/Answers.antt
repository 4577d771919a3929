-- A size is a natural that isn't past the elements.
use Rattle.std.proofs.Common.{rules, ◌≡◌, ◌<◌, ◌^◌, arith, length, get_or}
use Rattle.std.specs.Prelude.{pos}
use Rattle.std.proofs.lemmas.Int.{ints, to_z-of_z}
use Rattle.vx_offsets.specs.Offsets.{offset_positions}
use Rattle.vx_model.specs.Numbers.{integers_of}
use Rattle.vx_model.proofs.ListRows.{many-listview, size-listview, spans-listview, within-listview}
use Rattle.vx_column.proofs.listview.ListViewArray.size_at.Goals as goal

pub overflow_cast-result : goal.overflow_cast-result
overflow_cast-result c =
    let p = c.args.self.now in
    let n = get_or (offset_positions (integers_of p.sizes)) c.args.i 0 in
    let valid = c.elements.ensures.valid in
    let row : c.args.i < length p.sizes.records = omega (arith, c.requires, spans-listview p valid, many-listview p valid) in
    let is : c.integer_at.result ≡ pos n = search (rules, size-listview) in
    let long : length p.elements.rows < 2 ^ 64 = search rules in
    let small : n < 2 ^ 64 = omega (arith, within-listview p valid c.args.i c.requires, long) in
    grind (arith, ints, to_z-of_z, is, small)
