-- The picks of a call, and what is asked of a node at them.
use Rattle.std.specs.Prelude.{ℕ, ◌+◌, ◌*◌, ◌<◌, ◌≤◌, ◌^◌, ◌≡◌, true, List, [], length, slice_index, Option, Some}
use Rattle.vx_arrow_image.specs.declared.format.Format.{Format}
use Rattle.vx_arrow_image.specs.declared.image.Node as image
use Rattle.vx_arrow_columns.specs.declared.places.Picks as places
use Rattle.vx_arrow_columns.specs.declared.places.RunPicks as run_picks
use Rattle.vx_arrow_image.specs.Image.{format_in, is_placed, part_of}
use Rattle.vx_arrow_columns.specs.Picks.{Picking, picking_of, picks_of}
use Rattle.vx_arrow_columns.specs.Taken.{AreWithin}
use Rattle.vx_runs.specs.Runs.{run_places}

abbrev pub the_picks : places.Picks → List (Option ℕ)
the_picks q = picks_of q.places.now q.valid.now q.add

abbrev pub the_picking : places.Picks → Picking
the_picking q = picking_of q.places.now q.valid.now q.add

abbrev pub the_run_picks : run_picks.RunPicks → List (Option ℕ)
the_run_picks q = picks_of (run_places q.runs.now) [] q.add

abbrev pub the_run_picking : run_picks.RunPicks → Picking
the_run_picking q = picking_of (run_places q.runs.now) [] q.add

-- the rows of a node at picks have places
pub record IsAsked (f : Format) (n : image.Node) (q : places.Picks) : Type 0 where
  pub format : format_in n.format ≡ Some f
  pub few : length q.places.now < 2 ^ 60
  pub placed : is_placed (part_of n) ≡ true
  pub within : AreWithin (the_picks q) n.len

-- each place is one of the rows, also under a null pick; there are w bytes for each row, and room
-- for those at the picks
pub record AreRows (w : ℕ) (src : List ℕ) (n : image.Node) (q : places.Picks) (out : List ℕ)
    : Type 0 where
  pub below : (k : ℕ) → k < length q.places.now → q.add + slice_index q.places.now k < n.len
  pub placed : is_placed (part_of n) ≡ true
  pub source : (n.offset + n.len) * w ≤ length src
  pub room : length q.places.now * w ≤ length out
