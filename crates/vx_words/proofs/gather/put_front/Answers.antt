use Rattle.std.proofs.Common.{◌+◌, ◌<◌, length, below_more, ◌∙◌, arith}
use Rattle.std.proofs.lemmas.List.{drop-set-lt}
use Rattle.vx_filter.proofs.Moves.{same_further}
use Rattle.vx_words.proofs.TakenItems.{gathered_more}
use Rattle.vx_words.proofs.gather.put_front.Goals as goal

pub loop-k-init : goal.loop-k-init
loop-k-init g c = c.put_fours-from.ensures

pub loop-k-preserved : goal.loop-k-preserved
loop-k-preserved g c =
    let v = c.loop-k.invariant in
    let k = c.loop-k.k in
    let dst = c.loop-k.dst in
    let room : k < length dst = omega (arith, c.requires.room) in
    record {
      within = omega arith;
      inside = below_more _ _ v.inside c.in-Some.ensures.0;
      items = gathered_more c.args.fill c.args.src.now c.args.indices.now c.args.valid.now dst k _ room v.items c.in-Some.ensures.1;
      rest = drop-set-lt (k + 1) dst k _ (omega arith) ∙ same_further c.args.dst.now dst k (k + 1) (omega arith) v.rest;
    }
