-- The answer to a run, by what the run says.
use Rattle.std.proofs.Common.{◌≡◌, map, string_bytes, ap, rules}
use Rattle.vortex_rows_c.proofs.Ran.{of_answer, ran_of}
use Rattle.vortex_rows_c.proofs.WordParts.{are_texts}
use Rattle.vortex_rows_c.specs.Running.{TextState}
use Rattle.vortex_rows_c.proofs.running.run_words.Goals as goal

pub returns : goal.returns
returns c =
    let said = map string_bytes c.args.words.now in
    let run = c.run-status in
    let is = run.ensures in
    let answer = c.answer_to in
    let does = answer.ensures in
    let text = c.text.result.now in
    let sink = c.new-sink in
    let held : text ≡ run.new.sink.held = search (rules, c.text.ensures) in
    let ran = ran_of said c.args.document.now c.new-source.result sink.result.held run.new.sink.held text run.result sink.result.faults run.new.sink.faults
    c.new-source.ensures (ap (λ (s : TextState). s.held) sink.ensures) held (ap (λ (s : TextState). s.faults) sink.ensures)
    is.words.0 is.done is.broken is.malformed is.too_long is.sink_fault_told is.complete
    (are_texts c.args.words.now) in
    of_answer said c.args.document.now text c.args.dst.now answer.new.dst run.result answer.result.status answer.result.value ran
    does.fits does.put does.small does.wanted does.too_small does.told does.other does.untold does.refused
