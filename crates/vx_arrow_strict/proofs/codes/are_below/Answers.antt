-- All rows were tested, or one has another code.
use Rattle.std.proofs.Common.{arith, sym, ◌∙◌}
use Rattle.std.specs.Prelude.{nat_lt}
use Rattle.std.proofs.lemmas.Bool.{cond-true, le-ltb}
use Rattle.vx_arrow_image.specs.Image.{part_of}
use Rattle.vx_arrow_image.proofs.Stacks.{valid_all, valid_falls}
use Rattle.vx_arrow_strict.specs.Codes.{code_of}
use Rattle.vx_arrow_strict.proofs.codes.are_below.Goals as goal

pub returns-then-is_there : goal.returns-then-is_there
returns-then-is_there c = valid_falls (part_of c.args.node.now) (λ j. nat_lt (code_of (part_of c.args.node.now) j) c.args.limit) c.loop-i.i c.loop-i.auto.i (omega arith)
    (cond-true _ _ _ (sym c.if-is_there.ensures) ∙ le-ltb _ _ (omega (arith, c.code_of.ensures, c.if-code_of-limit.true)))

pub returns : goal.returns
returns c = valid_all (part_of c.args.node.now) (λ j. nat_lt (code_of (part_of c.args.node.now) j) c.args.limit) (λ j low high. c.loop-i.invariant j low (omega arith))
