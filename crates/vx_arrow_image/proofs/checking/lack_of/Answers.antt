-- A node is sound where nothing is lacking, and else not.
use Rattle.std.proofs.Common.{◌≡◌, Some, None, refl, sym, rules}
use Rattle.vx_arrow_image.specs.Image.{format_in, part_of}
use Rattle.vx_arrow_image.proofs.Stacks.{sound_fit, sound_not_fit, sound_not_placed}
use Rattle.vx_arrow_image.proofs.checking.lack_of.Goals as goal

pub returns-in_default : goal.returns-in_default
returns-in_default c = let none : format_in c.args.node.now.format ≡ None = search rules in sound_not_fit (part_of c.args.node.now) c.args.lens.now None none refl

pub returns-then-not-placed : goal.returns-then-not-placed
returns-then-not-placed c = sound_not_placed (part_of c.args.node.now) c.args.lens.now (sym c.if-not-placed.ensures.placed)

pub returns-then-not-fits : goal.returns-then-not-fits
returns-then-not-fits c = let format : format_in c.args.node.now.format ≡ Some c.in-Some.format = search rules in sound_not_fit (part_of c.args.node.now) c.args.lens.now (Some c.in-Some.format) format (sym c.if-not-fits.ensures)

pub returns : goal.returns
returns c = let format : format_in c.args.node.now.format ≡ Some c.in-Some.format = search rules in sound_fit (part_of c.args.node.now) c.args.lens.now (Some c.in-Some.format) format (sym c.if-not-placed.ensures.placed) (sym c.if-not-fits.ensures)
