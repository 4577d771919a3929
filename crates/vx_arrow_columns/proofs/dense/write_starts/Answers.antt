-- One row more.
use Rattle.std.proofs.Common.{◌<◌, ℕ, ap, length, refl, subst, sym, arith, ◌∙◌}
use Rattle.vx_arrow_image.specs.Image.{part_of}
use Rattle.vx_arrow_columns.specs.Picks.{picks_of}
use Rattle.vx_arrow_columns.specs.Taken.{AreDense, id_at}
use Rattle.vx_arrow_columns.proofs.DenseSteps.{next_start, no_starts, start_few, start_is, zeros}
use Rattle.vx_arrow_columns.proofs.PickReads.{get_picks, length_picks}
use Rattle.vx_arrow_columns.proofs.dense.write_starts.Goals as goal

pub loop-k-init : goal.loop-k-init
loop-k-init c = no_starts _ _ _ _ refl (λ id h. zeros 256 id)

pub put_offset-requires-clause-small : goal.put_offset-requires-clause-small
put_offset-requires-clause-small c =
    let p = part_of c.args.node.now in
    let ps = c.args.picks.now in
    let q = picks_of ps.places.now ps.valid.now ps.add in
    let low : c.loop-k.k < length q = omega (arith, length_picks ps.places.now ps.valid.now ps.add) in
    let is = c.id_at-id.ensures ∙ sym (ap (id_at p) (get_picks ps.places.now ps.valid.now ps.add c.loop-k.k c.loop-k-test.true)) in
    let few = start_few p q c.loop-k.k _ _ low (start_is p q c.loop-k.k c.id_at-id.result c.loop-k.counts c.loop-k.out c.requires.held c.requires.tagged low (omega arith) is c.loop-k.invariant) in
    omega (arith, c.requires.few)

pub overflow_add-counts : goal.overflow_add-counts
overflow_add-counts c =
    let p = part_of c.args.node.now in
    let ps = c.args.picks.now in
    let q = picks_of ps.places.now ps.valid.now ps.add in
    let low : c.loop-k.k < length q = omega (arith, length_picks ps.places.now ps.valid.now ps.add) in
    let is = c.id_at-id.ensures ∙ sym (ap (id_at p) (get_picks ps.places.now ps.valid.now ps.add c.loop-k.k c.loop-k-test.true)) in
    let few = start_few p q c.loop-k.k _ _ low (start_is p q c.loop-k.k c.id_at-id.result c.loop-k.counts c.loop-k.out c.requires.held c.requires.tagged low (omega arith) is c.loop-k.invariant) in
    omega (arith, c.requires.few)

pub loop-k-preserved : goal.loop-k-preserved
loop-k-preserved c =
    let p = part_of c.args.node.now in
    let ps = c.args.picks.now in
    let q = picks_of ps.places.now ps.valid.now ps.add in
    let low : c.loop-k.k < length q = omega (arith, length_picks ps.places.now ps.valid.now ps.add) in
    let is = c.id_at-id.ensures ∙ sym (ap (id_at p) (get_picks ps.places.now ps.valid.now ps.add c.loop-k.k c.loop-k-test.true)) in
    next_start p q c.loop-k.k c.id_at-id.result c.loop-k.counts _ c.loop-k.out _ c.requires.held c.requires.tagged low (omega arith) is refl c.put_offset.ensures c.loop-k.invariant

pub returns : goal.returns
returns c = subst (λ (n : ℕ). AreDense (part_of c.args.node.now) (picks_of c.args.picks.now.places.now c.args.picks.now.valid.now c.args.picks.now.add) n c.loop-k.out) (omega arith) c.loop-k.invariant.dense
