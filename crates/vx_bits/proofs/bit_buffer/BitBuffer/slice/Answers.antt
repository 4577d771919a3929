use Rattle.std.proofs.Common.{◌+◌, ◌/◌, ◌%◌, ◌-◌, ◌≤◌, length, ap, ◌∙◌, rules, arith, take, drop}
use Rattle.vx_bits.proofs.Cuts.{length_of_cut}
use Rattle.vx_bits.specs.BitBuffer.{bits_of}
use Rattle.vx_bits.proofs.BitLists.{AreFields, are_fields, bits_slice, no_fault-reaches}
use Rattle.vx_bits.proofs.bit_buffer.BitBuffer.slice.Goals as goal
use Rattle.vx_bits.proofs.bit_buffer.BitBuffer.slice.Goals.{After-self}

fields : (c : After-self) → AreFields c.self.inside.bytes c.self.inside.offset c.self.inside.len c.args.self.now
fields c = are_fields _ _ _ _ c.self.view_is c.self.invariant

pub overflow_add-first : goal.overflow_add-first
overflow_add-first c = search (rules, arith, (fields c).long, (fields c).counted)

pub slice-requires-clause-ordered : goal.slice-requires-clause-ordered
slice-requires-clause-ordered c =
    let all = fields (goal.at.slice-requires-clause-ordered c).After-self in
    omega (arith, all.long, all.within)

pub invariant_of-result : goal.invariant_of-result
invariant_of-result c =
    let b = c.self.inside in
    let all = fields (goal.at.invariant_of-result c).After-self in
    let first = b.offset + c.args.start in
    let held = ap length c.slice.ensures in
    let ordered : first / 8 ≤ length b.bytes = omega (arith, all.long, all.within) in
    let cut = length_of_cut b.bytes (first / 8) (c.len.result - first / 8) (omega arith) in
    no_fault-reaches (length c.slice.result) (first % 8) (c.args.end - c.args.start) (record {
      below = omega arith;
      counted = omega (arith, all.long, all.counted);
      within = omega (arith, all.long, all.within);
    })

pub returns-clause-bits : goal.returns-clause-bits
returns-clause-bits c =
    let b = c.self.inside in
    let all = fields (goal.at.returns-clause-bits c).After-self in
    let first = b.offset + c.args.start in
    ap (λ l. bits_of l (first % 8) (c.args.end - c.args.start)) (c.slice.ensures ∙ ap (λ n. take (n - first / 8) (drop (first / 8) b.bytes)) c.len.ensures)
    ∙ bits_slice b.bytes b.offset b.len c.args.start c.args.end c.requires.ordered (omega (arith, all.long))
    ∙ ap (λ l. take (c.args.end - c.args.start) (drop c.args.start l)) all.bits
