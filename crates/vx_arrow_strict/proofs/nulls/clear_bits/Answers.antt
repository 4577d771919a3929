-- One row more was tested.
use Rattle.std.proofs.Common.{not, sym, refl, ap, ◌∙◌, arith}
use Rattle.vx_arrow_image.specs.Image.{is_valid}
use Rattle.vx_arrow_strict.proofs.Counts.{count_end, count_no, count_none, count_yes}
use Rattle.vx_arrow_strict.proofs.nulls.clear_bits.Goals as goal
use Rattle.vx_arrow_strict.proofs.nulls.clear_bits.Goals.{then-not-is_there, else-not-is_there}

pub loop-i-init : goal.loop-i-init
loop-i-init c = record {
  few = omega arith;
  counted = count_none (λ j. not (is_valid c.args.valid.now j)) c.args.start c.args.len c.args.start refl;
}

pub loop-i-preserved : goal.loop-i-preserved
loop-i-preserved c =
    let few = c.loop-i.invariant.few in
    record {
      few = elim c.if-not-is_there.branch [ then-not-is_there w ↦ omega arith | else-not-is_there w ↦ omega arith ];
      counted = elim c.if-not-is_there.branch [
        | then-not-is_there w ↦ w.count-is ∙ count_yes (λ j. not (is_valid c.args.valid.now j)) c.args.start c.args.len c.loop-i.i c.loop-i.count c.loop-i.auto.i (omega arith) c.loop-i.invariant.counted (ap not (sym c.is_there.ensures ∙ w.if-not-is_there.true))
        | else-not-is_there w ↦ w.count-is ∙ count_no (λ j. not (is_valid c.args.valid.now j)) c.args.start c.args.len c.loop-i.i c.loop-i.count c.loop-i.auto.i (omega arith) c.loop-i.invariant.counted (ap not (sym c.is_there.ensures ∙ w.if-not-is_there.false))
      ];
    }

pub returns : goal.returns
returns c = count_end (λ j. not (is_valid c.args.valid.now j)) c.args.start c.args.len c.loop-i.i c.loop-i.count (omega arith) c.loop-i.invariant.counted
