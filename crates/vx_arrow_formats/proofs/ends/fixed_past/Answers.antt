-- Rows that can't be counted are past any number of items, if a row has items.
use Rattle.std.proofs.Common.{zero, suc, ◌≡◌, ℕ, ◌+◌, ◌*◌, ◌<◌, not, ap, sym, ◌∙◌, arith, eqb, ltb}
use Rattle.std.proofs.lemmas.Bool.{le-ltb, lt-ltb}
use Rattle.std.proofs.Math.Dec.{eqb-suc-zero}
use Rattle.vx_arrow_formats.proofs.ends.fixed_past.Goals as goal

past_far : (e w rows : ℕ) → rows < e → not (eqb w 0) ≡ ltb rows (e * w)
past_far e zero rows far = sym (le-ltb rows (e * zero) (omega arith))
past_far e (suc w) rows far = ap not (eqb-suc-zero w) ∙ sym (lt-ltb rows (e * suc w) (omega (arith, far)))

pub returns-in_default : goal.returns-in_default
returns-in_default c =
    past_far (c.args.node.now.offset + c.args.node.now.len) c.args.node.now.width c.args.rows (omega (arith, c.in_default.ensures))
