-- The sums fit, since the pick is within the rows and these have places.
use Rattle.std.proofs.Common.{◌≡◌, true, arith}
use Rattle.vx_arrow_image.specs.Image.{is_valid, part_of}
use Rattle.vx_arrow_columns.proofs.PickReads.{row_fits}
use Rattle.vx_arrow_columns.proofs.places.place.Goals as goal

pub overflow_add-row : goal.overflow_add-row
overflow_add-row c = let ps = c.args.picks.now in let f = row_fits (part_of c.args.node.now) ps.places.now ps.valid.now ps.add c.args.k c.requires.placed c.requires.within c.requires.index (let t : is_valid ps.valid.now c.args.k ≡ true = cc in t) in omega (arith, f.0, f.1)

pub overflow_add-row-2 : goal.overflow_add-row-2
overflow_add-row-2 c = let ps = c.args.picks.now in let f = row_fits (part_of c.args.node.now) ps.places.now ps.valid.now ps.add c.args.k c.requires.placed c.requires.within c.requires.index (let t : is_valid ps.valid.now c.args.k ≡ true = cc in t) in omega (arith, f.0, f.1)

pub returns-then-is_there-clause-below : goal.returns-then-is_there-clause-below
returns-then-is_there-clause-below c = let ps = c.args.picks.now in let f = row_fits (part_of c.args.node.now) ps.places.now ps.valid.now ps.add c.args.k c.requires.placed c.requires.within c.requires.index (let t : is_valid ps.valid.now c.args.k ≡ true = cc in t) in omega (arith, f.0, f.1)
