use Rattle.std.proofs.Common.{◌≡◌, ◌+◌, ◌-◌, ◌^◌, ◌<◌, ◌∷◌, ◌++◌, length, map, take, bit_and, sym, ap, ◌∙◌, arith}
use Rattle.std.proofs.Math.ListN.{length-set}
use Rattle.vx_bits.specs.Words.{word_bits}
use Rattle.vx_bits.proofs.WordLists.{one_less}
use Rattle.vx_mask.specs.Positions.{positions}
use Rattle.vx_mask.proofs.LowestBit.{lowest_position, no_positions}
use Rattle.vx_words.specs.Runs.{open_start, pairs, run_of}
use Rattle.vx_words.proofs.RunMarks.{run_put}
use Rattle.vx_words.proofs.runs.put_word.Goals as goal

pub returns-then-marks-eq0-clause-told : goal.returns-then-marks-eq0-clause-told
returns-then-marks-eq0-clause-told c = λ end more.
    let told = c.args.told in
    let base = c.args.base in
    let none : c.args.marks ≡ 0 = omega (arith, c.if-marks-eq0.true) in
    ap (λ l. take told.count c.args.dst.now ++ map run_of (pairs end (open_start told.begun ++ (l ++ more)))) (sym (no_positions base) ∙ ap (λ x. positions base (word_bits x 64)) (sym none))

pub bounds-dst-told : goal.bounds-dst-told
bounds-dst-told c =
    let marks = c.args.marks in
    let some : 0 < marks = omega (arith, c.if-marks-eq0.false) in
    omega (arith, ap (λ o. length (open_start o)) c.in-Some.is, one_less 64 marks some (omega arith), c.requires.room)

pub put_pairs-requires-2-clause-room : goal.put_pairs-requires-2-clause-room
put_pairs-requires-2-clause-room c =
    let marks = c.args.marks in
    let some : 0 < marks = omega (arith, c.if-marks-eq0.false) in
    omega (arith, ap (λ o. length (open_start o)) c.in-Some.is, one_less 64 marks some (omega arith), c.requires.room, length-set c.args.dst.now c.args.told.count (run_of (c.in-Some.start, c.args.base + c.from.result)))

pub returns-clause-told : goal.returns-clause-told
returns-clause-told c = λ end more.
    let marks = c.args.marks in
    let base = c.args.base in
    let dst = c.args.dst.now in
    let count = c.args.told.count in
    let start = c.in-Some.start in
    let some : 0 < marks = omega (arith, c.if-marks-eq0.false) in
    let fits : marks < 2 ^ 64 = omega arith in
    let room : count < length dst = omega (arith, ap (λ o. length (open_start o)) c.in-Some.is, one_less 64 marks some fits, c.requires.room) in
    let places = positions base (word_bits (bit_and marks (marks - 1)) 64) in
    c.put_pairs-2.ensures.told end more
    ∙ run_put dst count start (base + c.from.result) end (places ++ more) room
    ∙ ap (λ l. take count dst ++ map run_of (pairs end (start ∷ (l ++ more)))) (ap (λ p. (base + p) ∷ places) c.from.ensures ∙ sym (lowest_position base marks some fits))
    ∙ ap (λ o. take count dst ++ map run_of (pairs end (open_start o ++ (positions base (word_bits marks 64) ++ more)))) (sym c.in-Some.is)

pub returns-clause-count : goal.returns-clause-count
returns-clause-count c =
    let marks = c.args.marks in
    let some : 0 < marks = omega (arith, c.if-marks-eq0.false) in
    omega (arith, ap (λ o. length (open_start o)) c.in-Some.is, one_less 64 marks some (omega arith), c.put_pairs-2.ensures.count)
