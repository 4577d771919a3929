-- The run's bytes stand behind those that were there.
use Rattle.std.proofs.Common.{◌++◌, ap, ◌∙◌, arith}
use Rattle.std.specs.Prelude.{slice_index, slice_range}
use Rattle.vx_offsets.specs.Offsets.{lists_at, offset_positions, record_numbers}
use Rattle.vx_text.proofs.RunTexts.{add_run}
use Rattle.vx_text.proofs.run_texts.push_run.Goals as goal

pub returns : goal.returns
returns g c =
    let run = c.args.run in
    let os = offset_positions (record_numbers run.ptype run.records.now) in let b = run.bytes.now in
    let old = c.args.texts.now in let from = run.rows.0 in let to = run.rows.1 in
    add_run c.push_ends.result old.offsets old.bytes.items c.len-base.result c.push_ends.new.ends c.extend_from_slice.new.self.items (slice_range b (slice_index os from) (slice_index os to)) (slice_range (lists_at os b) from to)
    (omega (arith, c.len-base.ensures, old.bytes.ok.0))
    (c.in_ok-extend_from_slice.ensures.items ∙ ap (λ l. old.bytes.items ++ l) c.bytes.ensures.value)
    c.push_ends.ensures
