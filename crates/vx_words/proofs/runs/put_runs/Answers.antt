use Rattle.std.proofs.Common.{◌≡◌, ◌+◌, ◌<◌, ◌≤◌, [], ◌++◌, get_or, length, map, take, drop, set, refl, sym, ap, ◌∙◌, arith}
use Rattle.std.proofs.Math.ListN.{length-set}
use Rattle.std.proofs.lemmas.List.{drop-set-lt, length-append, length-map, length-take-le, take_more_set}
use Rattle.vx_filter.proofs.Moves.{same_further}
use Rattle.vx_mask.specs.Positions.{maximal_runs}
use Rattle.vx_words.specs.Runs.{open_start, pairs, rows_of, run_of}
use Rattle.vx_words.proofs.FilterFaults.{front_and_rest}
use Rattle.vx_words.proofs.MaskWords.{is_mask}
use Rattle.vx_words.proofs.RunMarks.{ahead, all_told, marks_ahead, marks_fit, none_ahead, one_begun, room_ahead}
use Rattle.vx_words.proofs.runs.put_runs.Goals as goal

pub loop-w-init : goal.loop-w-init
loop-w-init c = record {
  told = ap (map run_of) (sym (all_told c.args.rows c.args.words.now (is_mask c.args.rows c.args.words.now c.requires.mask)));
  within = omega arith;
  before = omega arith;
  rest = refl;
}

pub put_word-told-requires-clause-room : goal.put_word-told-requires-clause-room
put_word-told-requires-clause-room c =
    let v = c.loop-w.invariant in
    let words = c.args.words.now in
    let told = c.loop-w.told in
    let others = ahead words c.loop-w.w c.loop-w.before in
    let room = room_ahead c.loop-w.dst (maximal_runs (rows_of words c.args.rows)) told.count c.args.rows (open_start told.begun ++ others) v.told v.within (omega (arith, c.requires.room)) in
    omega (arith, room, length-append (open_start told.begun) others, marks_fit words c.loop-w.w c.loop-w.before c.marks_in-marks.result (omega arith) v.before (omega arith) c.marks_in-marks.ensures)

pub loop-w-preserved : goal.loop-w-preserved
loop-w-preserved c =
    let v = c.loop-w.invariant in
    let words = c.args.words.now in
    let rows = c.args.rows in
    let w = c.loop-w.w in
    let told = c.loop-w.told in
    let dst = c.loop-w.dst in
    let before = c.loop-w.before in
    let marks = c.marks_in-marks.result in
    let after = c.put_word-told.result in
    let step = c.put_word-told.ensures in
    let others = ahead words w before in
    let room = room_ahead dst (maximal_runs (rows_of words rows)) told.count rows (open_start told.begun ++ others) v.told v.within (omega (arith, c.requires.room)) in
    let fit = marks_fit words w before marks (omega arith) v.before (omega arith) c.marks_in-marks.ensures in
    let further : told.count ≤ after.count = omega (arith, step.count, one_begun after.begun) in
    record {
      told = step.told rows (ahead words (w + 1) (get_or words w 0))
          ∙ ap (λ l. take told.count dst ++ map run_of (pairs rows (open_start told.begun ++ l))) (sym (marks_ahead words w before marks (omega arith) v.before c.marks_in-marks.ensures))
          ∙ v.told;
      within = omega (arith, step.count, room, length-append (open_start told.begun) others, fit);
      before = omega arith;
      rest = step.rest ∙ same_further c.args.dst.now dst told.count after.count further v.rest;
    }

pub returns-in-Some : goal.returns-in-Some
returns-in-Some c =
    let v = c.loop-w.invariant in
    let words = c.args.words.now in
    let rows = c.args.rows in
    let told = c.loop-w.told in
    let dst = c.loop-w.dst in
    let all = maximal_runs (rows_of words rows) in
    let last = run_of (c.in-Some.start, rows) in
    let none : ahead words c.loop-w.w c.loop-w.before ≡ [] = none_ahead words c.loop-w.w c.loop-w.before (omega (arith, c.requires.lengths)) in
    let whole : take told.count dst ++ map run_of (pairs rows (open_start told.begun ++ [])) ≡ map run_of all =
    ap (λ l. take told.count dst ++ map run_of (pairs rows (open_start told.begun ++ l))) (sym none) ∙ v.told in
    let room = room_ahead dst all told.count rows (open_start told.begun ++ []) whole v.within (omega (arith, c.requires.room)) in
    let some : told.count < length dst = omega (arith, room, length-append (open_start told.begun) [], ap (λ o. length (open_start o)) c.in-Some.is) in
    let front : take (told.count + 1) (set dst told.count last) ≡ map run_of all =
    take_more_set dst told.count last some
    ∙ ap (λ o. take told.count dst ++ map run_of (pairs rows (open_start o ++ []))) (sym c.in-Some.is) ∙ whole in
    let long : told.count + 1 ≡ length all =
    sym (length-take-le (told.count + 1) (set dst told.count last) (omega (arith, length-set dst told.count last)))
    ∙ ap length front ∙ length-map all run_of in
    front_and_rest (told.count + 1) (set dst told.count last) _ _ front
    (drop-set-lt (told.count + 1) dst told.count last (omega arith)
    ∙ same_further c.args.dst.now dst told.count (told.count + 1) (omega arith) v.rest
    ∙ ap (λ n. drop n c.args.dst.now) long)
