-- One run more is put out.
use Rattle.std.proofs.Common.{ℕ, List, take, slice_range, subst}
use Rattle.std.specs.List.{flat_map}
use Rattle.std.proofs.lemmas.List.{take_all}
use Rattle.vx_offsets.specs.Offsets.{lists_at, offset_positions, record_numbers}
use Rattle.vx_text.specs.Building.{AreTexts}
use Rattle.vx_text.proofs.RunTexts.{one_run}
use Rattle.vx_text.proofs.run_texts.texts_by_runs.Goals as goal

pub loop-rows-preserved : goal.loop-rows-preserved
loop-rows-preserved g c =
    let lists = lists_at (offset_positions (record_numbers c.args.ptype c.args.records.now)) c.args.bytes.now in
    let f = λ (run : ℕ × ℕ). slice_range lists run.0 run.1 in
    let runs = c.args.runs.now in let i = c.loop-rows.rows-index in
    subst (λ (l : List (List ℕ)). AreTexts c.args.ptype c.push_run.new.texts.offsets c.push_run.new.texts.bytes.items l)
    (one_run f runs i (0, 0) c.loop-rows-test.true)
    (c.in_ok-push_run.ensures c.args.ptype (flat_map f (take i runs)) c.loop-rows.invariant)

pub returns : goal.returns
returns g c =
    let lists = lists_at (offset_positions (record_numbers c.args.ptype c.args.records.now)) c.args.bytes.now in
    let f = λ (run : ℕ × ℕ). slice_range lists run.0 run.1 in
    let runs = c.args.runs.now in let i = c.loop-rows.rows-index in
    subst (λ (l : List (ℕ × ℕ)). AreTexts c.args.ptype c.loop-rows.texts.offsets c.loop-rows.texts.bytes.items (flat_map f l)) (take_all i runs c.loop-rows-test.false) c.loop-rows.invariant
