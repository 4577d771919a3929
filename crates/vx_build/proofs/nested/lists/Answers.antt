-- Each row is the list of its elements.
use Rattle.std.proofs.Common.{◌≡◌, map, ap, ◌∙◌}
use Rattle.std.specs.Prelude.{pos}
use Rattle.vx_offsets.specs.Offsets.{lists_at}
use Rattle.vx_model.specs.Column.{Column}
use Rattle.vx_model.specs.List.{ListParts, list_column}
use Rattle.vx_model.specs.Lists.{list_row}
use Rattle.vx_model.specs.Numbers.{integers_of}
use Rattle.vx_model.specs.Records.{RecordParts}
use Rattle.vx_build.proofs.Parts.{list_rows}
use Rattle.vx_build.proofs.nested.lists.Goals as goal
use Rattle.std.proofs.lemmas.Result.{IfOk-at_ok}

pub returns-clause-rows : goal.returns-clause-rows
returns-clause-rows c =
    let offsets = c.args.offsets.now in
    let read = IfOk-at_ok (λ (a : RecordParts). integers_of a ≡ map pos c.args.offsets.now) c.in_ok-ends.ensures.ok c.offset_column.ensures.numbers in
    let same = IfOk-at_ok (λ (r : Column). r ≡ c.args.elements) c.in_ok-parent.ensures.ok c.into_ref.ensures in
    ap (λ (k : Column). k.rows) c.into_array.ensures
    ∙ ap (λ (p : ListParts). (list_column p).rows) c.in_ok-lists.ensures.made
    ∙ list_rows c.in_ok-parent.parent c.in_ok-ends.ends offsets read
    ∙ ap (λ (e : Column). map list_row (lists_at c.args.offsets.now e.rows)) same
