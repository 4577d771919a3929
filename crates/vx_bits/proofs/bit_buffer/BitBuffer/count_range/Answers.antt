use Rattle.std.proofs.Common.{◌≡◌, ◌+◌, ◌-◌, take, drop, ap, ap₂, ◌∙◌, rules, arith, length}
use Rattle.vx_bits.specs.BitBuffer.{bits_of, true_count_of}
use Rattle.vx_bits.proofs.BitLists.{AreFields, are_fields, bits_cut}
use Rattle.vx_bits.proofs.bit_buffer.BitBuffer.count_range.Goals as goal
use Rattle.vx_bits.proofs.bit_buffer.BitBuffer.count_range.Goals.{After-as_slice}

fields : (c : After-as_slice) → AreFields c.self.inside.bytes c.self.inside.offset c.self.inside.len c.args.self.now
fields c = are_fields _ _ _ _ c.self.view_is c.self.invariant

pub overflow_add-self-inside : goal.overflow_add-self-inside
overflow_add-self-inside c = search (rules, arith, (fields c).long, (fields c).counted)

pub overflow_add-self-inside-2 : goal.overflow_add-self-inside-2
overflow_add-self-inside-2 c = search (rules, arith, (fields c).long, (fields c).counted)

pub count_between-requires-clause-within : goal.count_between-requires-clause-within
count_between-requires-clause-within c = omega (arith, (fields c).long, (fields c).within, ap length c.as_slice.ensures)

pub returns : goal.returns
returns c =
    let b = c.self.inside in
    let all = fields (goal.at.returns c).After-as_slice in
    let s = c.args.start in
    let e = c.args.end in
    let long : b.offset + e - (b.offset + s) ≡ e - s = omega arith in
    c.count_between.ensures
    ∙ ap₂ (λ l n. true_count_of (bits_of l (b.offset + s) n)) c.as_slice.ensures long
    ∙ ap true_count_of (bits_cut b.bytes b.offset b.len s e c.requires.ordered (omega (arith, all.long)) ∙ ap (λ l. take (e - s) (drop s l)) all.bits)
