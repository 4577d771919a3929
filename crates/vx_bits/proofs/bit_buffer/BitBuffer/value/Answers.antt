use Rattle.std.proofs.Common.{◌+◌, ◌/◌, ◌%◌, ◌<◌, eqb, length, get_or, false, rules, arith, ap, sym, ◌∙◌}
use Rattle.std.proofs.lemmas.Nat.Bits.{shr_and_one}
use Rattle.std.specs.Int.{bit_at}
use Rattle.vx_bits.proofs.BitLists.{AreFields, are_fields, bit_in}
use Rattle.vx_bits.proofs.bit_buffer.BitBuffer.value.Goals as goal
use Rattle.vx_bits.proofs.bit_buffer.BitBuffer.value.Goals.{After-self}

fields : (c : After-self) → AreFields c.self.inside.bytes c.self.inside.offset c.self.inside.len c.args.self.now
fields c = are_fields _ _ _ _ c.self.view_is c.self.invariant

pub overflow_add-place : goal.overflow_add-place
overflow_add-place c = search (rules, arith, (fields c).long, (fields c).counted)

pub bounds-bytes-place : goal.bounds-bytes-place
bounds-bytes-place c =
    let all = fields (goal.at.bounds-bytes-place c).After-self in
    omega (arith, all.long, all.within, ap length c.as_slice-bytes.ensures)

pub returns : goal.returns
returns c =
    let b = c.self.inside in
    let all = fields (goal.at.returns c).After-self in
    let j = b.offset + c.args.i in
    let below : c.args.i < b.len = omega (arith, all.long) in
    ap (λ x. eqb x 1) (shr_and_one (get_or c.as_slice-bytes.result.now (j / 8) 0) (j % 8))
    ∙ ap (λ l. eqb (bit_at (get_or l (j / 8) 0) (j % 8)) 1) c.as_slice-bytes.ensures
    ∙ sym (bit_in b.bytes b.offset b.len c.args.i false below)
    ∙ ap (λ l. get_or l c.args.i false) all.bits
