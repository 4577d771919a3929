use Rattle.std.proofs.Common.{◌∙◌, arith, refl}
use Rattle.vx_bitfilter.proofs.PackedHalves.{fewer_ones, flipped}
use Rattle.vx_bitfilter.proofs.PickRanks.{single_pick}
use Rattle.vx_bitfilter.proofs.pext.pext_fallback.Goals.{else-set-clear-via-then-set-clear+else-set-rest, else-set-clear-via-else-set-clear}
use Rattle.vx_bitfilter.proofs.pext.pext_fallback.Goals as goal

pub returns-then-picks-le1 : goal.returns-then-picks-le1
returns-then-picks-le1 c = c.from.ensures ∙ single_pick c.args.src c.args.mask c.ranges.mask.fits c.if-picks-le1.true

pub overflow_sub-clear : goal.overflow_sub-clear
overflow_sub-clear c = fewer_ones 64 c.args.src c.args.mask c.ranges.mask.fits

pub overflow_shr-result : goal.overflow_shr-result
overflow_shr-result c =
    let fewer = fewer_ones 64 c.args.src c.args.mask c.ranges.mask.fits in
    elim c.else-set-clear.branch [
      | else-set-clear-via-then-set-clear+else-set-rest w ↦ omega (arith, w.if-set-clear.true, w.if-set-rest.false, c.if-clear-rest.true, fewer)
      | else-set-clear-via-else-set-clear w ↦ omega (arith, w.if-set-clear.false, fewer)
    ]

pub overflow_sub-result : goal.overflow_sub-result
overflow_sub-result c = (flipped c.args.src c.args.mask _ c.by_ranks-then-clear-rest.result c.ranges.src.fits c.ranges.mask.fits refl c.by_ranks-then-clear-rest.ensures).less

pub returns-then-clear-rest : goal.returns-then-clear-rest
returns-then-clear-rest c = (flipped c.args.src c.args.mask _ c.by_ranks-then-clear-rest.result c.ranges.src.fits c.ranges.mask.fits refl c.by_ranks-then-clear-rest.ensures).value
