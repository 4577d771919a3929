-- The rows of a job, and what the lists of their nodes hold.
use Rattle.std.proofs.Common.{◌≡◌, ℕ, ◌+◌, ◌-◌, ◌*◌, ◌<◌, ◌≤◌, suc, Bool, true, false, cond, List, [], ◌∷◌, ◌++◌, length, Option, Some, Vec, Global, ap, sym, ◌∙◌, refl, subst, inl, inr, arith}
use Rattle.std.specs.Prelude.{◌⊎◌}
use Rattle.std.specs.List.{flat_map}
use Rattle.vx_arrow_image.specs.declared.format.Format.{Format}
use Rattle.vx_arrow_image.specs.declared.format.Format.TheVariants.{Text, List as Lists, Union}
use Rattle.vx_arrow_image.specs.declared.format.Offsets.{Offsets}
use Rattle.vx_arrow_image.specs.Image.{Part, offset_at, size_of}
use Rattle.vx_arrow_image.proofs.CutRows.{cut_end, cut_up}
use Rattle.vx_arrow_columns.specs.Picks.{bytes_for, offsets_len}
use Rattle.vx_arrow_interleave.specs.declared.planning.Job as job_type
use Rattle.vx_arrow_interleave.specs.declared.spans.Span.{Span}
use Rattle.vx_arrow_interleave.specs.Bytes.{HoldRecords}
use Rattle.vx_arrow_interleave.specs.Cuts.{AreCut, AreOrdered}
use Rattle.vx_arrow_interleave.specs.Given.{items, places, row_items}
use Rattle.vx_arrow_interleave.specs.Planned.{given_by, items_by}
use Rattle.vx_arrow_interleave.specs.Sources.{ArePlaces, is_there, part_at, shows_valid}
use Rattle.vx_arrow_interleave.specs.Spots.{Spot, run_of, spot, spot_at, spots}
use Rattle.vx_arrow_interleave.specs.Taken.{IsWritable}
use Rattle.vx_arrow_interleave.proofs.JoinedItems.{there_items}
use Rattle.vx_arrow_interleave.proofs.JoinedNodes.{held_by, place_source}
use Rattle.vx_arrow_interleave.proofs.JoinedRows.{length_places}
use Rattle.vx_arrow_interleave.proofs.JoinedUnions.{ids_there}
use Rattle.vx_arrow_interleave.proofs.SourceRows.{Each, each_append, each_none, each_run, rows_placed}

-- ---- the rows

pub job_rows : (ps : List Part) (job : job_type.Job) (v : Vec Span Global) (rows : List Span) → rows ≡ v.items → v ≡ job.rows → IsWritable ps job → spots rows ≡ places ps (given_by job)
job_rows ps job v rows e f w = ap spots e ∙ ap (λ (l : Vec Span Global). spots l.items) f ∙ w.rows

pub job_places : (ps : List Part) (job : job_type.Job) (rows : List Spot) → rows ≡ places ps (given_by job) → IsWritable ps job → ArePlaces ps rows
job_places ps job rows e w = rows_placed ps (given_by job) rows e w.readable.rows

pub job_len : (ps : List Part) (job : job_type.Job) (rows : List Spot) → rows ≡ places ps (given_by job) → length rows ≡ length (given_by job)
job_len ps job rows e = ap length e ∙ length_places ps (given_by job)

-- ---- validity

-- there is a bit for each row where validity is written
pub bits_room : (ps : List Part) (n m len : ℕ) → shows_valid ps ≡ true → len ≡ cond (shows_valid ps) (bytes_for n) 0 → m ≡ n → m ≤ 8 * len
bits_room ps n m len shown e same =
    let all : len ≡ bytes_for n = e ∙ ap (λ (b : Bool). cond b (bytes_for n) 0) shown in
    omega (arith, all, same)

-- ---- offsets

pub ordered : (texts : Bool) (z : Offsets) (ps : List Part) (ss : List Spot) → AreCut texts z ps ss → AreOrdered z ps ss
ordered texts z ps ss c = record {
  held = c.held;
  ordered = λ k h there. cut_up z (part_at ps (spot_at ss k).source) _ (spot_at ss k).row (c.cut k h there);
}

-- the items of texts and of lists stand in order
pub job_ordered : (ps : List Part) (job : job_type.Job) (f : Format) (z : Offsets) (rows : List Spot) → (f ≡ Text z) ⊎ (f ≡ Lists z) → (part_at ps 0).format ≡ Some f → rows ≡ places ps (given_by job) → IsWritable ps job → AreOrdered z ps rows
job_ordered ps job f z rows is format e w =
    let S = places ps (given_by job) in
    subst (AreOrdered z ps) (sym e) (elim is as (λ _. AreOrdered z ps S) [
      | inl a ↦ let held = held_by ps (given_by job) (Some (Text z)) (format ∙ ap Some a) w.readable in ordered true z ps S held.1.0
      | inr b ↦ let held = held_by ps (given_by job) (Some (Lists z)) (format ∙ ap Some b) w.readable in ordered false z ps S held.1.0
    ])

pub offsets_room : (ps : List Part) (f : Format) (z : Offsets) (n m len : ℕ) → (f ≡ Text z) ⊎ (f ≡ Lists z) → (part_at ps 0).format ≡ Some f → len ≡ offsets_len (part_at ps 0).format n → m ≡ n → size_of z * (m + 1) ≤ len
offsets_room ps f z n m len is format e same =
    let all : len ≡ size_of z * (m + 1) = e ∙ ap (λ (g : Option Format). offsets_len g n) format ∙ by is ∙ ap (λ k. size_of z * (k + 1)) (sym same) in
    omega (arith, all)
  where
    by : (f ≡ Text z) ⊎ (f ≡ Lists z) → offsets_len (Some f) n ≡ size_of z * (n + 1)
    by (inl a) = ap (λ (g : Format). offsets_len (Some g) n) a
    by (inr b) = ap (λ (g : Format). offsets_len (Some g) n) b

-- ---- values

each_flat : (P : Spot → Type 0) (g : Spot → List Spot) (ss : List Spot) → ((k : ℕ) → k < length ss → Each P (g (spot_at ss k))) → Each P (flat_map g ss)
each_flat P g [] h = each_none P [] refl
each_flat P g (s ∷ ss) h = each_append P (g s) (flat_map g ss) (g s ++ flat_map g ss) refl (h 0 (omega arith)) (each_flat P g ss (λ k l. h (suc k) (omega arith)))

-- each item of a row, of which there are some only where the row is there
each_item : (P : Spot → Type 0) (z : Offsets) (ps : List Part) (t : Spot)
    → (is_there ps t ≡ true → (i : ℕ) → offset_at z (part_at ps t.source).offsets t.row ≤ i → i < offset_at z (part_at ps t.source).offsets t.row + (offset_at z (part_at ps t.source).offsets (t.row + 1) - offset_at z (part_at ps t.source).offsets t.row) → P (spot t.source i))
    → Each P (row_items z ps t)
each_item P z ps t h = go (is_there ps t) refl
  where
    go : (b : Bool) → is_there ps t ≡ b → Each P (row_items z ps t)
    go true e =
        let p = part_at ps t.source in
        let a = offset_at z p.offsets t.row in
        subst (Each P) (sym (there_items z ps t e)) (each_run P t.source a (offset_at z p.offsets (t.row + 1) - a) (h e))
    go false e =
        let p = part_at ps t.source in
        let a = offset_at z p.offsets t.row in
        each_none P (row_items z ps t) (ap (λ (b : Bool). cond b (run_of t.source a (offset_at z p.offsets (t.row + 1) - a)) []) e)

-- each byte of a text is one of its node's
pub texts_held : (z : Offsets) (ps : List Part) (ss : List Spot) → ((k : ℕ) → k < length ss → (spot_at ss k).source < length ps) → AreCut true z ps ss → HoldRecords 1 ps (items z ps ss)
unfolding items
texts_held z ps ss there c =
    let sources = each_flat (λ (s : Spot). s.source < length ps) (row_items z ps) ss (λ k h. each_item (λ (s : Spot). s.source < length ps) z ps (spot_at ss k) (λ e i low high. there k h)) in
    let bytes = each_flat (λ (s : Spot). s.row * 1 + 1 ≤ length (part_at ps s.source).values) (row_items z ps) ss (λ k h.
    let t = spot_at ss k in
    let p = part_at ps t.source in
    each_item (λ (s : Spot). s.row * 1 + 1 ≤ length (part_at ps s.source).values) z ps t (λ e i low high.
    let up = cut_up z p (length p.values) t.row (c.cut k h e) in
    let end = cut_end z p (length p.values) t.row (c.cut k h e) in
    let in_values : i * 1 + 1 ≤ length p.values = omega arith in in_values)) in
    record { source = sources.at; held = bytes.at }

pub job_texts : (ps : List Part) (job : job_type.Job) (z : Offsets) (v : Vec Span Global) (l : List Span) → (part_at ps 0).format ≡ Some (Text z) → l ≡ v.items → v ≡ job.items → IsWritable ps job → HoldRecords 1 ps (spots l)
job_texts ps job z v l format e f w =
    let S = places ps (given_by job) in
    let are : spots l ≡ items z ps S = ap spots e ∙ ap (λ (x : Vec Span Global). spots x.items) f ∙ w.items ∙ ap (λ (g : Option Format). items_by g ps S) format in
    let held = held_by ps (given_by job) (Some (Text z)) format w.readable in
    subst (HoldRecords 1 ps) (sym are) (texts_held z ps S (λ k h. place_source ps (given_by job) k w.readable.rows (let same = length_places ps (given_by job) in omega arith)) held.1.0)

pub job_ids : (ps : List Part) (job : job_type.Job) (rows : List Spot) → (part_at ps 0).format ≡ Some Union → rows ≡ places ps (given_by job) → IsWritable ps job → HoldRecords 1 ps rows
job_ids ps job rows format e w = subst (HoldRecords 1 ps) (sym e) (ids_there ps (given_by job) w.readable.rows (held_by ps (given_by job) (Some Union) format w.readable))
