use Rattle.std.proofs.Common.{◌≡◌, ◌-◌, ◌++◌, ◌∙◌, ℕ, ap, sym, map, take, drop, eqb, length, arith}
use Rattle.std.proofs.lemmas.List.{drop_all, length-take-le, take_all}
use Rattle.vx_print.specs.Records.{record_text}
use Rattle.vx_print.specs.Text.{gap, comma_list}
use Rattle.vx_print.proofs.Gaps.{element_in_front}
use Rattle.vx_print.proofs.record_lists.put_each.Goals as goal

pub loop-k-init : goal.loop-k-init
loop-k-init g c =
    let rs = c.args.records.now in
    let n = length rs in
    let long : length (take n rs) ≡ n = length-take-le n rs (omega arith) in
    record {
      room = omega arith;
      within = omega arith;
      put = drop_all 4352 c.args.dst.now (omega arith) ∙ sym (ap (λ l. comma_list (map (record_text c.args.form) l)) (drop_all (n - 0) (take n rs) (omega arith)));
    }

pub loop-k-preserved : goal.loop-k-preserved
loop-k-preserved g c =
    let s = c.loop-k in
    let v = s.invariant in
    let f = record_text c.args.form in
    let rs = c.args.records.now in
    let n = length rs in
    let r = c.index-records-i.result in
    record {
      room = omega arith;
      within = omega arith;
      put = c.put_record-at.ensures.put
          ∙ ap (λ l. f r ++ l) (c.put_gap-at.ensures.put ∙ ap (λ l. gap (eqb s.k 0) ++ l) v.put)
          ∙ element_in_front f rs n s.k r r (omega arith) (omega arith) c.index-records-i.is;
    }

pub returns-clause-put : goal.returns-clause-put
returns-clause-put g c =
    let s = c.loop-k in
    let f = record_text c.args.form in
    let rs = c.args.records.now in
    let n = length rs in
    let first : n - s.k ≡ 0 = omega arith in
    s.invariant.put ∙ ap (λ (m : ℕ). comma_list (map f (drop m (take n rs)))) first
    ∙ ap (λ l. comma_list (map f l)) (take_all n rs (omega arith))
