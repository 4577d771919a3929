use Rattle.std.proofs.Common.{◌≡◌, ◌-◌, ◌∙◌, sym, arith, eq-eqb, eqb-true}
use Rattle.vx_mask.proofs.AgreeingLists.{run_begins, run_counts, run_starts}
use Rattle.vx_mask.proofs.agreement.is_next_run.Goals as goal

pub returns-then-next_with-start : goal.returns-then-next_with-start
returns-then-next_with-start c =
    let n = c.next_with.ensures in (
      λ yes. cc,
      λ begins. absurd (c.if-next_with-start.true (run_starts c.args.bits.now.bits c.args.low c.args.start c.args.end c.next_with.result n.from n.within n.passed n.found begins)),
    )

pub returns : goal.returns
returns c =
    let bits = c.args.bits.now.bits in
    let n = c.next_with.ensures in
    let same : c.next_with.result ≡ c.args.start = omega (arith, c.if-next_with-start.false) in
    let count = c.count_range.ensures in (
      λ yes.
          let all = eqb-true c.count_range.result (c.args.end - c.args.start) yes in
          run_begins bits c.args.low c.args.start c.args.end (omega (arith, c.if-start-low.false)) (omega (arith, c.if-end-start.false)) (omega (arith, c.if-end-len.false, c.len.ensures))
          (λ k p q. n.passed k p (omega arith)) (sym count ∙ all),
      λ begins. eq-eqb c.count_range.result (c.args.end - c.args.start) (count ∙ run_counts bits c.args.low c.args.start c.args.end begins),
    )
