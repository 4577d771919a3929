-- The sums fit, since the pick is within the rows and these have places.
use Rattle.std.proofs.Common.{◌≡◌, true, arith}
use Rattle.vx_arrow_image.specs.Image.{is_valid, part_of}
use Rattle.vx_arrow_columns.proofs.PickReads.{row_fits}
use Rattle.vx_arrow_columns.proofs.places.row.Goals as goal

pub overflow_add-result : goal.overflow_add-result
overflow_add-result c = let ps = c.args.picks.now in let f = row_fits (part_of c.args.node.now) ps.places.now ps.valid.now ps.add c.args.k c.requires.placed c.requires.within c.requires.index (let t : is_valid ps.valid.now c.args.k ≡ true = cc in t) in omega (arith, f.0, f.1)

pub overflow_add-result-2 : goal.overflow_add-result-2
overflow_add-result-2 c = let ps = c.args.picks.now in let f = row_fits (part_of c.args.node.now) ps.places.now ps.valid.now ps.add c.args.k c.requires.placed c.requires.within c.requires.index (let t : is_valid ps.valid.now c.args.k ≡ true = cc in t) in omega (arith, f.0, f.1)

pub returns-clause-below : goal.returns-clause-below
returns-clause-below c = let ps = c.args.picks.now in let f = row_fits (part_of c.args.node.now) ps.places.now ps.valid.now ps.add c.args.k c.requires.placed c.requires.within c.requires.index (let t : is_valid ps.valid.now c.args.k ≡ true = cc in t) in omega (arith, f.0, f.1)
