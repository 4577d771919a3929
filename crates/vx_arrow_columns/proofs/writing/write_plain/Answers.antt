-- No bits are needed, and the values are written.
use Rattle.std.proofs.Common.{◌≡◌, ◌*◌, ℕ, Bool, cond, List, [], Option, Some, true, false, ap, ap₂, sym, ◌∙◌, subst, arith}
use Rattle.std.specs.Prelude.{◌||◌}
use Rattle.vx_runs.specs.Runs.{run_places}
use Rattle.vx_arrow_image.specs.declared.format.Format.{Format}
use Rattle.vx_arrow_image.specs.declared.format.Format.TheVariants.{Fixed}
use Rattle.vx_arrow_image.specs.Image.{part_of}
use Rattle.vx_arrow_columns.specs.Asked.{the_run_picking}
use Rattle.vx_arrow_columns.specs.Picks.{has_bits, shows_by, shows_valid}
use Rattle.vx_arrow_columns.specs.Taken.{ShowsRows}
use Rattle.vx_arrow_columns.proofs.OwnTaken.{held_by}
use Rattle.vx_arrow_columns.proofs.PickReads.{length_picks}
use Rattle.vx_arrow_columns.proofs.Rooms.{none_shown, nullable_by, values_as}
use Rattle.vx_arrow_columns.proofs.RowBytes.{bytes_by, rows_full}
use Rattle.vx_arrow_columns.proofs.writing.write_plain.Goals as goal

pub write_runs-requires-clause-values : goal.write_runs-requires-clause-values
write_runs-requires-clause-values c = (held_by (part_of c.args.node.now) _ (Some Fixed) c.requires.plain.0 c.requires.readable).1

pub write_runs-requires-clause-room : goal.write_runs-requires-clause-room
write_runs-requires-clause-room c =
    let node = c.args.node.now in
    let all = c.args.picks.now in
    let long = values_as (part_of node) (the_run_picking all) (Some Fixed) _ c.requires.plain.0 c.requires.values in
    omega (arith, long, ap (λ (n : ℕ). n * node.width) (length_picks (run_places all.runs.now) [] all.add))

pub returns : goal.returns
returns c v o s =
    let node = c.args.node.now in
    let p = part_of node in
    let all = c.args.picks.now in
    let ps = run_places all.runs.now in
    let q = the_run_picking all in
    let plain = c.requires.plain in
    let bare : shows_valid p q ≡ false = ap₂ (λ (f : Option Format) (v : List ℕ). shows_by f (has_bits v || false)) plain.0 plain.1 in
    let shows = none_shown p ps [] all.add [] (nullable_by p.format (Some Fixed) plain.0 tt) bare in
    let full : ShowsRows p q.picks [] = subst (λ (b : Bool). ShowsRows p q.picks (cond b [] [])) bare shows in
    bytes_by (Some Fixed) p q v o _ s plain.0 (λ e. absurd (let f : true ≡ false = sym e ∙ bare in cc)) tt
    (rows_full node.width node.values.now p q.picks _ _ (sym (length_picks ps [] all.add)) full c.write_runs.ensures) tt
