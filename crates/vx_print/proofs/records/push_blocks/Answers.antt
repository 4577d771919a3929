use Rattle.std.proofs.Common.{rules, min, Some, sym, ◌≡◌, ◌+◌, ◌-◌, ◌*◌, ◌++◌, ◌∙◌, ◌≤◌, ℕ, length, length-drop, ap, take, drop, arith}
use Rattle.std.proofs.lemmas.List.{take_all, length-take-le}
use Rattle.vx_print.specs.Text.{lines, row_text_by}
use Rattle.vx_print.specs.Records.{record_text, record_rows, bits_in}
use Rattle.vx_print.proofs.Blocks.{block_more}
use Rattle.vx_bits.specs.Words.{word_bits}
use Rattle.vx_print.proofs.Lines.{length-record_rows, block_rows}
use Rattle.vx_print.proofs.records.push_blocks.Goals as goal

pub loop-k-preserved : goal.loop-k-preserved
loop-k-preserved g c =
    let s = c.loop-k in
    let f = row_text_by (record_text c.args.form) in
    let bits = bits_in c.args.bits in
    let rows = record_rows bits c.args.records.now in
    let long : length rows ≡ length c.args.records.now = length-record_rows bits c.args.records.now c.requires.long in
    let next : 64 * s.k + 64 ≡ 64 * (s.k + 1) = omega arith in
    let at = c.put_block-at.result in
    let dst = c.put_block-at.new.dst in
    let end = 64 * s.k + c.min.result in
    let n : c.min.result ≡ min (length c.args.records.now - 64 * s.k) 64 = search rules in
    let part = take (end - 64 * s.k) (drop (64 * s.k) c.args.records.now) in
    let many : length part ≡ c.min.result = length-take-le (end - 64 * s.k) (drop (64 * s.k) c.args.records.now) (omega (arith, length-drop (64 * s.k) c.args.records.now)) ∙ omega arith in
    let count : c.min.result ≡ end - 64 * s.k = omega arith in
    let block : record_rows (Some (word_bits c.block_word.result (length part))) part ≡ take (end - 64 * s.k) (drop (64 * s.k) rows) =
    ap (λ (m : ℕ). record_rows (Some (word_bits c.block_word.result m)) part) (many ∙ count)
    ∙ ap (λ w. record_rows (Some (word_bits w (end - 64 * s.k))) part) c.block_word.ensures
    ∙ block_rows bits c.args.records.now s.k (end - 64 * s.k) c.requires.long (sym count ∙ n) in
    let put : drop at dst ≡ lines f (take (end - 64 * s.k) (drop (64 * s.k) rows)) = c.put_block-at.ensures.put ∙ ap (lines f) block in
    let short : length (drop at dst) ≤ 4352 - at = omega (arith, length-drop at dst) in
    c.in_ok-extend_from_slice.ensures.items
    ∙ ap (λ l. s.text.items ++ l) (take_all (4352 - at) (drop at dst) short ∙ put)
    ∙ ap (λ l. l ++ lines f (take (end - 64 * s.k) (drop (64 * s.k) rows))) s.invariant
    ∙ block_more f c.args.text.now.items rows (64 * s.k) end (omega arith) (omega arith)
    ∙ ap (λ (n : ℕ). c.args.text.now.items ++ lines f (take n rows)) next

pub returns : goal.returns
returns g c =
    let f = row_text_by (record_text c.args.form) in
    let bits = bits_in c.args.bits in
    let rows = record_rows bits c.args.records.now in
    let long : length rows ≡ length c.args.records.now = length-record_rows bits c.args.records.now c.requires.long in
    λ _. c.loop-k.invariant ∙ ap (λ l. c.args.text.now.items ++ lines f l) (take_all (64 * c.loop-k.k) rows (omega arith))
