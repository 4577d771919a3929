-- The data buffers, and then the views.
use Rattle.std.proofs.Common.{sym, ◌∙◌, arith}
use Rattle.std.proofs.lemmas.List.{length-map}
use Rattle.vx_arrow_image.specs.Image.{part_of, parts_of}
use Rattle.vx_arrow_strict.proofs.Tables.{buffers_of, texts_last, texts_not_buffers}
use Rattle.vx_arrow_strict.proofs.texts.are_texts.Goals as goal

pub returns-then-not-are_buffers : goal.returns-then-not-are_buffers
returns-then-not-are_buffers c = texts_not_buffers (part_of c.args.node.now) (parts_of c.args.below.now) (buffers_of c.args.node.now.children c.args.below.now ∙ sym c.if-not-are_buffers.ensures)

pub all_texts-requires-clause-buffers : goal.all_texts-requires-clause-buffers
all_texts-requires-clause-buffers c = buffers_of c.args.node.now.children c.args.below.now ∙ sym c.if-not-are_buffers.ensures

pub returns : goal.returns
returns c =
    texts_last (part_of c.args.node.now) (parts_of c.args.below.now) _ (sym c.if-not-placed.ensures.placed) c.if-node.false (let n = length-map c.args.below.now part_of in omega (arith, c.if-node-below.false))
    (buffers_of c.args.node.now.children c.args.below.now ∙ sym c.if-not-are_buffers.ensures) c.all_texts.ensures
