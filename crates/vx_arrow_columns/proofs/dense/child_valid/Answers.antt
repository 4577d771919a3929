-- One row more.
use Rattle.std.proofs.Common.{◌≡◌, ◌<◌, ◌/◌, ◌+◌, ℕ, List, ap, length, refl, subst, sym, arith, rules, ◌∙◌}
use Rattle.std.proofs.lemmas.Bool.{eqb-true}
use Rattle.vx_arrow_image.specs.Image.{part_of}
use Rattle.vx_arrow_columns.specs.Picks.{picks_of}
use Rattle.vx_arrow_columns.specs.Written.{PutsBit}
use Rattle.vx_arrow_columns.proofs.DenseItems.{count_few, front, none_shown_yet, other_bit, own_bit, shown_all, shown_bare}
use Rattle.vx_arrow_columns.proofs.PickReads.{length_picks}
use Rattle.vx_arrow_columns.proofs.Trees.{empty}
use Rattle.vx_arrow_columns.proofs.dense.child_valid.Goals as goal
use Rattle.vx_arrow_columns.proofs.dense.child_valid.Goals.{then-is_in, else-is_in}

pub returns-then-is_empty-clause-bits : goal.returns-then-is_empty-clause-bits
returns-then-is_empty-clause-bits c =
    let ps = c.args.picks.now in
    let none : length ps.valid.now ≡ 0 = search rules in
    shown_bare (part_of c.args.node.now) ps.places.now ps.valid.now ps.add c.args.j c.new.result.items (empty ps.valid.now none) c.new.ensures.items

pub loop-k-init : goal.loop-k-init
loop-k-init c =
    let ps = c.args.picks.now in
    let size : length c.in-Ok.bits.items ≡ length ps.places.now / 8 + 1 = search rules in
    (size, none_shown_yet (part_of c.args.node.now) (picks_of ps.places.now ps.valid.now ps.add) c.args.j 0 c.in-Ok.bits.items refl)

pub put_bit-requires : goal.put_bit-requires
put_bit-requires c =
    let ps = c.args.picks.now in
    let q = picks_of ps.places.now ps.valid.now ps.add in
    let few = count_few (part_of c.args.node.now) q c.args.j c.loop-k.k c.loop-k.count c.loop-k.bits.items (omega (arith, length_picks ps.places.now ps.valid.now ps.add, c.loop-k-test.true)) c.loop-k.invariant.1 in
    let size : length c.deref_mut.result.now ≡ length c.loop-k.bits.items = search rules in
    omega (arith, few, size, c.loop-k.invariant.0, c.loop-k-test.true)

pub overflow_add-count : goal.overflow_add-count
overflow_add-count c =
    let ps = c.args.picks.now in
    let q = picks_of ps.places.now ps.valid.now ps.add in
    let few = count_few (part_of c.args.node.now) q c.args.j c.loop-k.k c.loop-k.count c.loop-k.bits.items (omega (arith, length_picks ps.places.now ps.valid.now ps.add, c.loop-k-test.true)) c.loop-k.invariant.1 in
    omega (arith, few, c.loop-k-test.true)

pub loop-k-preserved : goal.loop-k-preserved
loop-k-preserved c =
    let p = part_of c.args.node.now in
    let ps = c.args.picks.now in
    let k = c.loop-k.k in
    let new = c.if-is_in in
    elim new.branch [
      | then-is_in w ↦
          let size : length new.bits.items ≡ length ps.places.now / 8 + 1 = search rules in
          let was : w.deref_mut.result.now ≡ c.loop-k.bits.items = search rules in
          let long : length w.put_bit.new.bytes ≡ c.loop-k.bits.len = search rules in
          let now : w.put_bit.new.bytes ≡ new.bits.items = sym (front c.loop-k.bits.len w.put_bit.new.bytes _ long) ∙ sym (ap (λ v. v.items) w.bits-is) in
          let put : PutsBit c.loop-k.bits.items new.bits.items c.loop-k.count w.is_there.result = subst (λ (l : List ℕ). PutsBit l new.bits.items c.loop-k.count w.is_there.result) was (subst (λ (l : List ℕ). PutsBit w.deref_mut.result.now l c.loop-k.count w.is_there.result) now w.put_bit.ensures) in (
            size,
            own_bit p ps.places.now ps.valid.now ps.add c.args.j k c.loop-k.count new.count c.loop-k.bits.items new.bits.items w.is_there.result c.loop-k-test.true
                (eqb-true _ _ (sym w.if-is_in.ensures)) w.is_there.ensures w.count-is put c.loop-k.invariant.1,
          )
      | else-is_in w ↦
          let same = ap (λ v. v.items) w.bits-is in (
            ap length same ∙ c.loop-k.invariant.0,
            other_bit p ps.places.now ps.valid.now ps.add c.args.j k c.loop-k.count new.count c.loop-k.bits.items new.bits.items c.loop-k-test.true
                (sym w.if-is_in.ensures) w.count-is same c.loop-k.invariant.1,
          )
    ]

pub returns-clause-bits : goal.returns-clause-bits
returns-clause-bits c =
    let ps = c.args.picks.now in
    let some : 0 < length ps.valid.now = search rules in
    shown_all (part_of c.args.node.now) ps.places.now ps.valid.now ps.add c.args.j c.loop-k.k c.loop-k.count c.loop-k.bits.items (omega arith) (omega (arith, c.loop-k.invariant.0)) some c.loop-k.invariant.1
