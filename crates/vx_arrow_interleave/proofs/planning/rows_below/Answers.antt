-- All children of these formats have the same rows; views of texts list their own.
use Rattle.vx_arrow_image.specs.Image.{parts_of}
use Rattle.vx_arrow_interleave.proofs.PlannedRows.{items_same, rows_same}
use Rattle.vx_arrow_interleave.proofs.planning.rows_below.Goals as goal

pub returns-in-Struct : goal.returns-in-Struct
returns-in-Struct c = rows_same c.args.format (parts_of c.args.sources.now) c.args.job.now c.share.result c.in-Struct.is c.share.ensures

pub returns-in_default : goal.returns-in_default
returns-in_default c =
    let f = c.in_default in
    items_same c.args.format (parts_of c.args.sources.now) c.args.job.now c.share-in_default.result f.not-Struct f.not-TextView f.not-Union f.not-DenseUnion c.share-in_default.ensures
