-- One id more.
use Rattle.std.proofs.Common.{◌∙◌, ap, sym, refl, arith}
use Rattle.vx_arrow_image.specs.Image.{part_of}
use Rattle.vx_arrow_columns.specs.Picks.{picks_of}
use Rattle.vx_arrow_columns.specs.Taken.{id_at}
use Rattle.vx_arrow_columns.proofs.PickReads.{get_picks}
use Rattle.vx_arrow_columns.proofs.UnionRows.{id_put}
use Rattle.vx_arrow_columns.proofs.unions.write_ids.Goals as goal

pub loop-k-preserved : goal.loop-k-preserved
loop-k-preserved c =
    let p = part_of c.args.node.now in
    let ps = c.args.picks.now in
    let k = c.loop-k.k in
    id_put p (picks_of ps.places.now ps.valid.now ps.add) k _ c.loop-k.out _ (c.id_at.ensures ∙ ap (id_at p) (sym (get_picks ps.places.now ps.valid.now ps.add k (omega arith)))) (omega arith) refl c.loop-k.invariant
