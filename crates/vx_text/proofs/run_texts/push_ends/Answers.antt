-- All ends at once are the ends one by one, and else one row more is put out.
use Rattle.std.proofs.Common.{◌≡◌, ℕ, ◌+◌, ◌-◌, ◌<◌, ◌≤◌, ◌++◌, List, length, get_or, slice_range, sym, ap, ap₂, subst, ◌∙◌, arith}
use Rattle.std.proofs.lemmas.List.{length-map}
use Rattle.vx_offsets.specs.Offsets.{lists_at, offset_positions, record_numbers}
use Rattle.vx_positions.specs.Positions.{position_of}
use Rattle.vx_offsets.proofs.Ascending.{length-numbers}
use Rattle.vx_text.specs.Building.{AddsTexts}
use Rattle.vx_text.specs.OffsetList.{greatest_offset, with_offset}
use Rattle.vx_offsets.proofs.ReadOffsets.{read_within, run_ordered}
use Rattle.vx_text.proofs.RunTexts.{no_row, one_row, run_added}
use Rattle.vx_text.proofs.run_texts.push_ends.Goals as goal

pub returns-then-base-last : goal.returns-then-base-last
returns-then-base-last g c =
    let run = c.args.run in
    let os = offset_positions (record_numbers run.ptype run.records.now) in
    let s = run.rows.0 in let e = run.rows.1 in
    let fits : c.args.base + (get_or os e 0 - get_or os s 0) ≤ greatest_offset c.args.ends.now.ptype =
    omega (arith, c.if-base-last.true, c.greatest.ensures, c.bounds-first.ensures.start, c.bounds-first.ensures.end) in
    run_added c.push_run.result run.bytes.now run.ptype run.records.now c.args.ends.now c.push_run.new.self c.args.base s e run.offsets run.ordered run.within c.requires.short fits c.push_run.ensures

pub loop-row-init : goal.loop-row-init
loop-row-init g c =
    let run = c.args.run in
    let os = offset_positions (record_numbers run.ptype run.records.now) in
    λ front is p left are. no_row run.bytes.now os run.rows.0 c.args.ends.now front p left are

pub loop-row-preserved : goal.loop-row-preserved
loop-row-preserved g c =
    let run = c.args.run in
    let p = run.ptype in let xs = run.records.now in let b = run.bytes.now in
    let os = offset_positions (record_numbers p xs) in let s = run.rows.0 in let i = c.loop-row.row in
    let next : i + 1 < length xs = omega (arith, c.loop-row-test.true, run.within) in
    let row : i + 1 < length os = omega (arith, next, length-map (record_numbers p xs) position_of, length-numbers p xs) in
    let up = run_ordered p xs (length b) s i run.offsets c.loop-row.auto.row (omega (arith, next)) in
    let on = run_ordered p xs (length b) i (i + 1) run.offsets (omega arith) next in
    let last = run_ordered p xs (length b) (i + 1) run.rows.1 run.offsets (omega (arith, c.loop-row-test.true)) run.within in
    let within = read_within p xs (i + 1) (length b) run.offsets next in
    λ front is q left are.
    one_row b os s i c.loop-row.auto.row row q c.loop-row.ends c.push.new.self front left up on within
    (omega (arith, is, last, c.requires.short))
    (c.in_ok-push.ensures.ok ∙ ap (with_offset c.loop-row.ends) (ap₂ ◌+◌ (sym is) c.end_behind.ensures.value))
    (c.loop-row.invariant front is q left are)

pub returns : goal.returns
returns g c =
    let run = c.args.run in
    let os = offset_positions (record_numbers run.ptype run.records.now) in let b = run.bytes.now in
    let low : c.loop-row.row ≤ run.rows.1 = c.loop-row.auto.row-end run.ordered in
    let ended : c.loop-row.row ≡ run.rows.1 = omega (arith, low, c.loop-row-test.false) in
    subst (λ (k : ℕ). (front : List ℕ) → length front ≡ c.args.base → AddsTexts c.args.ends.now front c.loop-row.ends (front ++ slice_range b (get_or os run.rows.0 0) (get_or os k 0)) (slice_range (lists_at os b) run.rows.0 k)) ended c.loop-row.invariant
