use Rattle.vx_words.proofs.TakenItems.{four_more}
use Rattle.std.proofs.Common.{arith}
use Rattle.vx_words.proofs.gather.put_four.Goals as goal

pub returns-clause-items : goal.returns-clause-items
returns-clause-items g c = λ _ before.
    four_more c.args.fill c.args.src.now c.args.indices.now c.args.valid.now c.args.dst.now c.args.k _ _ _ _
    (omega (arith, c.requires.place, c.requires.room)) before c.in-Some.ensures.1 c.in-Some-item_inside.ensures.1
    c.in-Some-item_inside-2.ensures.1 c.in-Some-item_inside-3.ensures.1
