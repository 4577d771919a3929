use Rattle.std.proofs.Common.{◌≡◌, ℕ, ◌+◌, ◌*◌, ◌/◌, ◌^◌, subst, ap, ◌∙◌, arith}
use Rattle.std.proofs.lemmas.Nat.{shr-shr}
use Rattle.vx_words.specs.Filters.{AreRowsPut}
use Rattle.vx_words.proofs.PutRows.{no_rows, rows_joined, rows_within}
use Rattle.vx_words.proofs.rows.put_rows.Goals as goal

pub loop-eight-init : goal.loop-eight-init
loop-eight-init g c = record {
  rows = no_rows c.args.src.now c.args.from c.args.word c.args.dst.now c.args.to;
  left = omega arith;
}

pub put_eight-next-requires-clause-to : goal.put_eight-next-requires-clause-to
put_eight-next-requires-clause-to g c =
    omega (arith, rows_within c.args.src.now c.args.from c.args.word _ c.args.dst.now _ c.args.to _ c.loop-eight.invariant.rows, c.requires.to)

pub loop-eight-preserved : goal.loop-eight-preserved
loop-eight-preserved g c =
    let v = c.loop-eight.invariant in
    let n = 8 * c.loop-eight.eight in
    let src = c.args.src.now in
    let word = c.args.word in
    let next : n + 8 ≡ 8 * (c.loop-eight.eight + 1) = omega arith in
    let step = subst (λ (x : ℕ). AreRowsPut src (c.args.from + n) x 8 c.loop-eight.dst c.put_eight-next.new.dst c.loop-eight.next c.put_eight-next.result) v.left c.put_eight-next.ensures in
    record {
      rows = subst (λ (k : ℕ). AreRowsPut src c.args.from word k c.args.dst.now c.put_eight-next.new.dst c.args.to c.put_eight-next.result) next (rows_joined src c.args.from word n 8 c.args.dst.now c.loop-eight.dst c.put_eight-next.new.dst c.args.to c.loop-eight.next c.put_eight-next.result v.rows step);
      left = ap (λ x. x / 2 ^ 8) v.left ∙ shr-shr word n 8 ∙ ap (λ k. word / 2 ^ k) next;
    }
