-- One span more.
use Rattle.std.proofs.Common.{length, get_or, ap, sym, ◌∙◌, refl, arith}
use Rattle.vx_arrow_interleave.proofs.SpotLists.{no_span, spots_all, spots_len, spots_none}
use Rattle.vx_arrow_interleave.proofs.spans.rows_of.Goals as goal

pub loop-k-init : goal.loop-k-init
loop-k-init c = record { len = sym (ap length (spots_none c.args.spans.now)); few = omega arith }

pub loop-k-preserved : goal.loop-k-preserved
loop-k-preserved c =
    let ss = c.args.spans.now in
    let k = c.loop-k.k in
    record {
      len = omega (arith, c.in_ok-rows.ensures.1, c.loop-k.invariant.len, spots_len ss k (get_or ss k no_span) c.loop-k-test.true refl);
      few = c.if-rows.false;
    }

pub returns-clause-len : goal.returns-clause-len
returns-clause-len c = c.loop-k.invariant.len ∙ ap length (spots_all c.args.spans.now c.loop-k.k (omega arith))
