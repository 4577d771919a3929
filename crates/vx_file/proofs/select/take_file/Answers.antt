use Rattle.std.proofs.Common.{◌≡◌, ◌∙◌, ℕ, ap, subst}
use Rattle.vx_bits.specs.Records.{records_of}
use Rattle.vx_types.specs.PType.{width}
use Rattle.vx_types.specs.RowValue.{null}
use Rattle.vx_types.specs.Nullability.{either_nullable}
use Rattle.vx_types.specs.declared.nullability.Nullability.TheVariants.{NonNullable}
use Rattle.vx_take.specs.Picks.{AreBelow, at}
use Rattle.vx_column.specs.Validity.{valid_of}
use Rattle.vx_file.specs.File.{file_rows}
use Rattle.vx_file.specs.Reading.{AreHeld}
use Rattle.vx_file.specs.Touched.{blocks_for}
use Rattle.vx_file.specs.declared.error.FileError.TheVariants.{NoMemory}
use Rattle.vx_file.proofs.HeldRows.{held_rows}
use Rattle.vx_file.proofs.Options.{if_some}
use Rattle.vx_file.proofs.ToldReads.{read_nothing}
use Rattle.vx_file.proofs.select.take_file.Goals as goal
use Rattle.vx_lemmas.proofs.Results.{err_is}

pub returns-in_err-validity-clause-error : goal.returns-in_err-validity-clause-error
returns-in_err-validity-clause-error g c =
    let p = c.args.picks.now in
    err_is c.from_residual.result NoMemory _ c.from_residual.ensures.1 (λ t. read_nothing p.picks (g.R.BlockReader.reads c.args.reader.now) (blocks_for p.bound))

pub returns-clause-rows : goal.returns-clause-rows
returns-clause-rows g c =
    let p = c.args.picks.now in
    let s = c.args.shape.now in
    let numbers = c.in-Ok.held.numbers.items in
    let starts = c.in-Ok.held.starts.items in
    if_some (g.R.BlockReader.blocks c.args.reader.now) (AreHeld c.width-width.result numbers starts p.picks (blocks_for p.bound)) (λ all. c.column_of.result.rows ≡ at null (file_rows all s) p.picks) c.in-Ok.ensures.held
    (λ all held. c.column_of.ensures.rows
    ∙ held_rows s p numbers starts all (records_of c.in_ok-values.values) (valid_of c.in_ok-validity.validity) (either_nullable NonNullable c.args.nullability) c.width-width.result (c.width-width.ensures ∙ ap width c.ptype-ptype.ensures.value) c.requires.bound
    (subst (λ (n : ℕ). AreBelow p.picks n) c.bound.ensures.value c.bound.ensures.below) c.in_ok-validity.ensures.left c.in_ok-values.ensures.records held)

pub returns-in_err-validity-clause-touched : goal.returns-in_err-validity-clause-touched
returns-in_err-validity-clause-touched g c = err_is c.from_residual.result NoMemory _ c.from_residual.ensures.1 tt
