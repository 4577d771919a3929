-- The records in the runs are those at their numbers, and the validity stays what it is.
use Rattle.std.proofs.Common.{◌≡◌, ◌+◌, ◌≤◌, length, map, Some, false, true, ap, ap₂, ◌∙◌, rules}
use Rattle.std.specs.Prelude.{All}
use Rattle.vx_types.specs.Nullability.{either_nullable}
use Rattle.vx_types.specs.declared.nullability.Nullability.TheVariants.{NonNullable}
use Rattle.vx_take.specs.Picks.{at, in_runs, run_places}
use Rattle.vx_model.specs.Records.{records_column, records_with, stored_records}
use Rattle.vx_model.specs.Valid.{cover_by, is_constant_form, nullability_by, present_bits, IsLeft}
use Rattle.vx_model.proofs.Layouts.{items-records, length-records}
use Rattle.vx_model.proofs.Takes.{is_take-records}
use Rattle.vx_column.specs.Validity.{valid_of}
use Rattle.vx_stored.specs.Records.{zero_record}
use Rattle.vx_pieces.proofs.RunLists.{in_runs-within}
use Rattle.vx_pieces.proofs.RunPlaces.{below_runs}
use Rattle.vx_dispatch.proofs.RunTakes.{left-constant}
use Rattle.vx_dispatch.proofs.stored.take_record_runs.Goals as goal

pub take_array_runs-requires-clause-within : goal.take_array_runs-requires-clause-within
take_array_runs-requires-clause-within c =
    let p = c.args.array.now in
    let within : All (λ run. run.0 + run.1 ≤ length p.records) c.args.runs.now = rw (← length-records p c.validity-validity.ensures.valid) c.requires in
    rw c.as_slice.ensures within

pub returns : goal.returns
returns c =
    let p = c.args.array.now in let runs = c.args.runs.now in let missing = zero_record p.width in
    let sound = c.validity-validity.ensures.valid in
    let within : All (λ run. run.0 + run.1 ≤ length p.records) runs = rw (← length-records p sound) c.requires in
    let constant : is_constant_form (cover_by p.valid) ≡ true = search rules in
    let left : IsLeft p.valid (either_nullable (nullability_by p.valid) NonNullable) (at false (present_bits p.valid (length (stored_records p).items)) (map (λ x. Some x) (run_places runs))) p.valid =
    rw (items-records p) (left-constant p.valid (length p.records) (run_places runs) constant (below_runs (length p.records) runs within)) in
    let records = ap (in_runs p.records) c.as_slice.ensures ∙ in_runs-within missing p.records runs within in
    let same = ap valid_of c.share.ensures ∙ c.validity-validity.ensures.value in
    rw (c.into_array.ensures ∙ ap records_column (c.in_ok-taken.ensures ∙ ap₂ (records_with p) records same))
    (is_take-records p.valid (map (λ x. Some x) (run_places runs)) (either_nullable (nullability_by p.valid) NonNullable) p missing sound left)
