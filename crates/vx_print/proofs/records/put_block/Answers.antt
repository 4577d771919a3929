use Rattle.std.proofs.Common.{◌≡◌, ◌+◌, ◌-◌, ◌++◌, ◌∷◌, ◌∙◌, ◌<◌, ◌≤◌, ℕ, Bool, false, Some, get_or, ap, sym, take, drop, length, set, arith}
use Rattle.std.specs.Prelude.{if◌then◌else◌}
use Rattle.std.proofs.lemmas.List.{drop-set, drop_all, length-take-le, take_all}
use Rattle.vx_bits.specs.Words.{word_bits}
use Rattle.vx_bits.proofs.WordBits.{length-word_bits, get_or-word_bits}
use Rattle.vx_types.specs.RowValue.{RowValue, null, bytes}
use Rattle.vx_print.specs.Text.{lines, row_text_by}
use Rattle.vx_print.specs.Records.{record_text, record_rows}
use Rattle.vx_print.proofs.Blocks.{row_more}
use Rattle.vx_print.proofs.Lines.{length-record_rows, get_or-record_rows}
use Rattle.vx_print.proofs.records.put_block.Goals as goal

pub loop-k-init : goal.loop-k-init
loop-k-init g c =
    let rs = c.args.records.now in
    let n = length rs in
    let rows = record_rows (Some (word_bits c.args.word n)) rs in
    let long : length (take n rows) ≡ n = length-take-le n rows (omega (arith, length-record_rows (Some (word_bits c.args.word n)) rs (length-word_bits c.args.word n))) in
    record {
      room = omega arith;
      within = omega arith;
      put = drop_all 4352 c.args.dst.now (omega arith) ∙ sym (ap (lines (row_text_by (record_text c.args.form))) (drop_all (n - 0) (take n rows) (omega arith)));
    }

pub loop-k-preserved : goal.loop-k-preserved
loop-k-preserved g c =
    let s = c.loop-k in
    let v = s.invariant in
    let f = row_text_by (record_text c.args.form) in
    let rs = c.args.records.now in
    let n = length rs in
    let bits = word_bits c.args.word n in
    let rows = record_rows (Some bits) rs in
    let i = n - 1 - s.k in
    let r = c.index-records-i.result in
    let long = length-word_bits c.args.word n in
    let within : n ≤ length rows = omega (arith, length-record_rows (Some bits) rs long) in
    let x : RowValue = if c.is_there.result then bytes r else null in
    let bit : c.is_there.result ≡ get_or bits i false =
    c.is_there.ensures ∙ get_or-word_bits c.args.word 64 i false (omega arith) ∙ sym (get_or-word_bits c.args.word n i false (omega arith)) in
    let is : x ≡ get_or rows i null = ap (λ (b : Bool). if b then bytes r else null) bit ∙ get_or-record_rows bits rs i r long (omega arith) c.index-records-i.is in
    let there : s.at - 1 + 1 ≡ s.at = omega arith in
    let below : s.at - 1 < length s.dst = omega arith in
    let feed : drop (s.at - 1) (set s.dst (s.at - 1) 10) ≡ 10 ∷ lines f (drop (n - s.k) (take n rows)) = drop-set s.dst (s.at - 1) 10 below ∙ ap (λ (m : ℕ). 10 ∷ drop m s.dst) there ∙ ap (λ l. 10 ∷ l) v.put in
    record {
      room = omega arith;
      within = omega arith;
      put = c.put_row-at.ensures.put ∙ ap (λ l. f x ++ l) feed ∙ row_more f rows n s.k x null (omega arith) within is;
    }

pub returns-clause-put : goal.returns-clause-put
returns-clause-put g c =
    let s = c.loop-k in
    let f = row_text_by (record_text c.args.form) in
    let rs = c.args.records.now in
    let n = length rs in
    let rows = record_rows (Some (word_bits c.args.word n)) rs in
    let first : n - s.k ≡ 0 = omega arith in
    s.invariant.put ∙ ap (λ (m : ℕ). lines f (drop m (take n rows))) first
    ∙ ap (lines f) (take_all n rows (omega (arith, length-record_rows (Some (word_bits c.args.word n)) rs (length-word_bits c.args.word n))))
