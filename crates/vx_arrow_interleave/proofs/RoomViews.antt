-- What the lists of list views hold for the rows of a job.
use Rattle.std.proofs.Common.{◌≡◌, ℕ, ◌*◌, ◌<◌, ◌≤◌, List, length, Option, Some, ap, sym, ◌∙◌, subst, arith}
use Rattle.vx_arrow_image.specs.declared.format.Format.{Format}
use Rattle.vx_arrow_image.specs.declared.format.Format.TheVariants.{ListView}
use Rattle.vx_arrow_image.specs.declared.format.Offsets.{Offsets}
use Rattle.vx_arrow_image.specs.Image.{Part, limit_of, size_of}
use Rattle.vx_arrow_columns.specs.Picks.{offsets_len, sizes_len}
use Rattle.vx_arrow_interleave.specs.declared.planning.Job as job_type
use Rattle.vx_arrow_interleave.specs.Given.{places, view_items}
use Rattle.vx_arrow_interleave.specs.Planned.{given_by}
use Rattle.vx_arrow_interleave.specs.Sources.{part_at}
use Rattle.vx_arrow_interleave.specs.Spots.{Spot}
use Rattle.vx_arrow_interleave.specs.Taken.{IsWritable}
use Rattle.vx_arrow_interleave.specs.Views.{HoldSizes}
use Rattle.vx_arrow_interleave.proofs.JoinedNodes.{held_by}

-- there are sizes, and the items can be counted
pub record HasViews (z : Offsets) (ps : List Part) (rows : List Spot) : Type 0 where
  pub sizes : HoldSizes z ps rows
  pub counted : length (view_items z ps rows) < limit_of z

pub job_views : (ps : List Part) (job : job_type.Job) (f : Format) (z : Offsets) (rows : List Spot) → f ≡ ListView z → (part_at ps 0).format ≡ Some f → rows ≡ places ps (given_by job) → IsWritable ps job → HasViews z ps rows
job_views ps job f z rows is format e w =
    let held = held_by ps (given_by job) (Some (ListView z)) (format ∙ ap Some is) w.readable in
    subst (HasViews z ps) (sym e) (record { sizes = held.1.1.0; counted = held.1.1.1 })

pub starts_room : (ps : List Part) (f : Format) (z : Offsets) (n m len : ℕ) → f ≡ ListView z → (part_at ps 0).format ≡ Some f → len ≡ offsets_len (part_at ps 0).format n → m ≡ n → size_of z * m ≤ len
starts_room ps f z n m len is format e same =
    let all : len ≡ size_of z * m = e ∙ ap (λ (g : Option Format). offsets_len g n) (format ∙ ap Some is) ∙ ap (λ k. size_of z * k) (sym same) in
    omega (arith, all)

pub sizes_room : (ps : List Part) (f : Format) (z : Offsets) (n m len : ℕ) → f ≡ ListView z → (part_at ps 0).format ≡ Some f → len ≡ sizes_len (part_at ps 0).format (part_at ps 0) n → m ≡ n → size_of z * m ≤ len
sizes_room ps f z n m len is format e same =
    let all : len ≡ size_of z * m = e ∙ ap (λ (g : Option Format). sizes_len g (part_at ps 0) n) (format ∙ ap Some is) ∙ ap (λ k. size_of z * k) (sym same) in
    omega (arith, all)
