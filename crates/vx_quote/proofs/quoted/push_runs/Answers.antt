use Rattle.std.proofs.Common.{refl, ℕ, ◌+◌, ◌-◌, ◌++◌, ◌∙◌, ap, ap₂, sym, take, drop, get_or, arith}
use Rattle.vx_quote.specs.Quoted.{quoted_byte}
use Rattle.vx_quote.proofs.Quotes.{run_on, run_over}
use Rattle.vx_quote.proofs.quoted.push_runs.Goals.{then-not-is_plain+in_ok-push_run+in_ok-push_escape, else-not-is_plain}
use Rattle.vx_quote.proofs.quoted.push_runs.Goals as goal

pub loop-i-preserved : goal.loop-i-preserved
loop-i-preserved c =
    let s = c.loop-i in
    let xs = c.args.bytes.now in
    let init = c.args.text.now.items in
    elim c.if-not-is_plain.branch [
      | then-not-is_plain+in_ok-push_run+in_ok-push_escape w ↦ record {
        within = omega (arith, w.start-is);
        put = ap₂ (λ t (n : ℕ). t ++ take (s.i + 1 - n) (drop n xs)) (ap (λ t. t.items) w.text-is ∙ w.in_ok-push_escape.ensures refl ∙ ap (λ t. t ++ quoted_byte (get_or xs s.i 0)) (w.in_ok-push_run.ensures refl)) w.start-is
            ∙ run_over s.text.items init xs s.start s.i (omega arith) s.invariant.put;
      }
      | else-not-is_plain w ↦ record {
        within = omega (arith, w.start-is);
        put = ap₂ (λ t (n : ℕ). t ++ take (s.i + 1 - n) (drop n xs)) (ap (λ t. t.items) w.text-is) w.start-is
            ∙ run_on s.text.items init xs s.start s.i s.invariant.within (omega arith) (sym c.is_plain.ensures ∙ w.if-not-is_plain.false) s.invariant.put;
      }
    ]
