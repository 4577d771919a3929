use Rattle.std.proofs.Common.{◌≡◌, ◌∙◌, map, refl, sym, ap, subst}
use Rattle.std.specs.Prelude.{IfErr, IfSome}
use Rattle.vx_io.specs.Bytes.{Rose}
use Rattle.vx_types.specs.PType.{width}
use Rattle.vx_types.specs.RowValue.{null}
use Rattle.vx_types.specs.TypeTree.{also_nullable}
use Rattle.vx_take.specs.Picks.{BoundedPicks, at}
use Rattle.vx_model.specs.Column.{Column}
use Rattle.vx_steps.specs.Answer.{answer_of, answer_rows}
use Rattle.vx_steps.specs.Step.{step_value}
use Rattle.vx_select.proofs.ChunkRows.{answered_rows}
use Rattle.vx_file.specs.File.{file_rows}
use Rattle.vx_file.specs.Reading.{IsReadError, NamesTouched}
use Rattle.vx_file.specs.Shape.{row_type}
use Rattle.vx_file.specs.Touched.{blocks_for, picks_of_steps}
use Rattle.vx_file.proofs.FileAnswers.{length-file_rows, read_err, same_picks, select_err, walk_same}
use Rattle.vx_file.proofs.Options.{if_err, if_some, ok_both}
use Rattle.vx_file.proofs.ToldReads.{read_nothing}
use Rattle.vx_file.proofs.select.select_file.Goals as goal
use Rattle.vx_lemmas.proofs.Results.{if_ok}
use Rattle.vx_steps.proofs.StepTypes.{type_after-takes}

pub returns-in-Err-clause-error : goal.returns-in-Err-clause-error
returns-in-Err-clause-error g c =
    let s = c.args.shape.now in
    let p = picks_of_steps s.len (map step_value c.args.steps.now) in
    let spare = g.R.BlockReader.spare c.args.reader.now in
    let faults = g.R.BlockReader.faults c.args.reader.now in
    let reads = g.R.BlockReader.reads c.args.reader.now in
    let blocks = g.R.BlockReader.blocks c.args.reader.now in
    select_err (c.args.reader.now ≡ c.args.reader.now) (IsReadError (width s.ptype) p spare (Rose faults faults) reads reads blocks) c.in-Err.error c.from.result c.from.ensures refl
    (λ t. read_nothing p.picks reads (blocks_for p.bound))

pub returns-clause-answer : goal.returns-clause-answer
returns-clause-answer g c =
    let s = c.args.shape.now in
    let steps = map step_value c.args.steps.now in
    let picks = c.in-Ok.picks in
    let blocks = g.R.BlockReader.blocks c.args.reader.now in
    let w = walk_same picks c.len.result s.len steps c.in-Ok.ensures.picks c.len.ensures.value in
    ok_both c.take_file.result (λ (a : Column). a.dtype ≡ also_nullable (row_type s) c.takes_nullability-nullability.result) (λ (a : Column). IfSome blocks (λ all. a.rows ≡ at null (file_rows all s) picks.picks))
    (λ (a : Column). IfSome blocks (λ all. answer_of (row_type s) (file_rows all s) steps ≡ answer_rows a.dtype a.rows))
    c.take_file.ensures.dtype c.take_file.ensures.rows
    (λ a dtype rows. if_some blocks (λ all. a.rows ≡ at null (file_rows all s) picks.picks) (λ all. answer_of (row_type s) (file_rows all s) steps ≡ answer_rows a.dtype a.rows) rows
    (λ all same. answered_rows (row_type s) (file_rows all s) steps s.len (length-file_rows all s) picks.picks a.dtype a.rows w (dtype ∙ ap (also_nullable (row_type s)) c.takes_nullability-nullability.ensures) same))

pub returns-clause-dtype : goal.returns-clause-dtype
returns-clause-dtype g c =
    let s = c.args.shape.now in
    let steps = map step_value c.args.steps.now in
    if_ok c.take_file.result c.take_file.ensures.dtype
    (λ a dtype. dtype ∙ ap (also_nullable (row_type s)) c.takes_nullability-nullability.ensures ∙ sym (type_after-takes (row_type s) steps))

pub returns-clause-error : goal.returns-clause-error
returns-clause-error g c =
    let s = c.args.shape.now in
    let steps = map step_value c.args.steps.now in
    let same = same_picks c.in-Ok.picks c.len.result s.len steps c.in-Ok.ensures.picks c.in-Ok.ensures.bound c.len.ensures.value in
    let spare = g.R.BlockReader.spare c.args.reader.now in
    let raised = Rose (g.R.BlockReader.faults c.args.reader.now) (g.R.BlockReader.faults c.take_file.new.reader) in
    let before = g.R.BlockReader.reads c.args.reader.now in
    let after = g.R.BlockReader.reads c.take_file.new.reader in
    let blocks = g.R.BlockReader.blocks c.args.reader.now in
    if_err c.take_file.result (IsReadError (width s.ptype) c.in-Ok.picks spare raised before after blocks) _ c.take_file.ensures.error
    (λ e m. read_err _ (width s.ptype) (picks_of_steps s.len steps) spare raised before after blocks e (subst (λ (q : BoundedPicks). IsReadError (width s.ptype) q spare raised before after blocks e) same m))

pub returns-clause-touched : goal.returns-clause-touched
returns-clause-touched g c =
    let s = c.args.shape.now in
    let steps = map step_value c.args.steps.now in
    let same = same_picks c.in-Ok.picks c.len.result s.len steps c.in-Ok.ensures.picks c.in-Ok.ensures.bound c.len.ensures.value in
    subst (λ (q : BoundedPicks). IfErr c.take_file.result (NamesTouched q)) same c.take_file.ensures.touched
