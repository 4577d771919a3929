-- Texts and unions among joined rows.
use Rattle.std.proofs.Common.{zero, suc, ◌≡◌, ℕ, ◌+◌, ◌-◌, ◌*◌, ◌<◌, ◌≤◌, Bool, true, false, cond, List, [], ◌∷◌, ◌++◌, length, get_or, take, drop, Some, ap, ap₂, sym, ◌∙◌, refl, subst, arith}
use Rattle.std.specs.Prelude.{slice_range}
use Rattle.std.specs.List.{flat_map}
use Rattle.std.proofs.lemmas.Bool.{and_from, eq-eqb}
use Rattle.std.proofs.lemmas.Grind.{flat_map-append}
use Rattle.std.proofs.lemmas.List.{get_or-take, length-drop, length-take-le, take_all}
use Rattle.std.proofs.lemmas.List.FromFn.{length-map-range_with_len}
use Rattle.vx_arrow_image.specs.declared.format.Format.TheVariants.{Text}
use Rattle.vx_arrow_image.specs.declared.format.Offsets.{Offsets}
use Rattle.vx_arrow_image.specs.Rows.{bytes}
use Rattle.vx_arrow_image.specs.Image.{Part, is_cut, offset_at, size_of}
use Rattle.vx_arrow_image.proofs.CutRows.{cut_end, cut_up}
use Rattle.vx_arrow_columns.specs.Picks.{bytes_for}
use Rattle.vx_arrow_columns.proofs.Cuts.{joined_len}
use Rattle.vx_arrow_interleave.specs.declared.writing.BitsOf.TheVariants.{Validity}
use Rattle.vx_arrow_interleave.specs.Bytes.{AreBits, AreOffsets, bit_in, record_in, records}
use Rattle.vx_arrow_interleave.specs.Cuts.{AreCut}
use Rattle.vx_arrow_interleave.specs.Given.{items, places, row_items}
use Rattle.vx_arrow_interleave.specs.Joined.{IsJoined, joined_part}
use Rattle.vx_arrow_interleave.specs.Sources.{is_there, part_at, shows_valid}
use Rattle.vx_arrow_interleave.specs.Spots.{Spot, run_of, spot, spot_at}
use Rattle.vx_arrow_interleave.specs.Tested.{AreReadable}
use Rattle.vx_arrow_interleave.proofs.JoinedItems.{new_cuts, there_items}
use Rattle.vx_arrow_interleave.proofs.JoinedNodes.{held_by, node_from, nullable_rows}
use Rattle.vx_arrow_interleave.proofs.JoinedRows.{cell, length_places}

-- ---- texts

flat_flat : {X Y A : Type 0} (f : Y → List A) (g : X → List Y) (xs : List X) → flat_map f (flat_map g xs) ≡ flat_map (λ x. flat_map f (g x)) xs
flat_flat f g [] = refl
flat_flat f g (x ∷ xs) = flat_map-append f (g x) (flat_map g xs) ∙ ap (λ l. flat_map f (g x) ++ l) (flat_flat f g xs)

take_next : {X : Type 0} (xs : List X) (a n : ℕ) → a < length xs → take 1 (drop a xs) ++ take n (drop (a + 1) xs) ≡ take (suc n) (drop a xs)
take_next [] a n h = absurd (omega arith)
take_next (x ∷ xs) zero n h = ap (λ m. x ∷ take n (drop m (x ∷ xs))) (let e : 0 + 1 ≡ suc 0 = omega arith in e)
take_next (x ∷ xs) (suc a) n h = ap (λ m. take 1 (drop a xs) ++ take n (drop m (x ∷ xs))) (let e : suc a + 1 ≡ suc (a + 1) = omega arith in e) ∙ take_next xs a n (omega arith)

-- the bytes at consecutive places
run_bytes : (ps : List Part) (s a n : ℕ) → a + n ≤ length (part_at ps s).values → records 1 ps (run_of s a n) ≡ take n (drop a (part_at ps s).values)
unfolding records
run_bytes ps s a zero h = refl
run_bytes ps s a (suc n) h =
    let xs = (part_at ps s).values in
    ap₂ ◌++◌ (ap (λ m. take 1 (drop m xs)) (let e : a * 1 ≡ a = omega arith in e)) (run_bytes ps s (a + 1) n (omega arith))
    ∙ take_next xs a n (omega arith)

-- the bytes of one text
text_of : Offsets → List Part → Spot → List ℕ
text_of z ps t = records 1 ps (row_items z ps t)

text_there : (z : Offsets) (ps : List Part) (t : Spot) → is_there ps t ≡ true → is_cut z (part_at ps t.source) (length (part_at ps t.source).values) t.row ≡ true
    → text_of z ps t ≡ slice_range (part_at ps t.source).values (offset_at z (part_at ps t.source).offsets t.row) (offset_at z (part_at ps t.source).offsets (t.row + 1))
unfolding text_of
text_there z ps t h cut =
    let p = part_at ps t.source in
    let a = offset_at z p.offsets t.row in
    let b = offset_at z p.offsets (t.row + 1) in
    let end = cut_end z p (length p.values) t.row cut in
    let up = cut_up z p (length p.values) t.row cut in
    ap (records 1 ps) (there_items z ps t h) ∙ run_bytes ps t.source a (b - a) (omega arith)

text_absent : (z : Offsets) (ps : List Part) (t : Spot) → is_there ps t ≡ false → row_items z ps t ≡ []
text_absent z ps t h =
    let p = part_at ps t.source in
    ap (λ b. cond b (run_of t.source (offset_at z p.offsets t.row) (offset_at z p.offsets (t.row + 1) - offset_at z p.offsets t.row)) []) h

no_records : (ps : List Part) → records 1 ps [] ≡ []
unfolding records
no_records ps = refl

-- a text has as many bytes as items
text_len : (z : Offsets) (ps : List Part) (t : Spot) → (is_there ps t ≡ true → is_cut z (part_at ps t.source) (length (part_at ps t.source).values) t.row ≡ true) → length (text_of z ps t) ≡ length (row_items z ps t)
unfolding text_of
text_len z ps t cut = go (is_there ps t) refl
  where
    go : (b : Bool) → is_there ps t ≡ b → length (records 1 ps (row_items z ps t)) ≡ length (row_items z ps t)
    go true e =
        let p = part_at ps t.source in
        let a = offset_at z p.offsets t.row in
        let b = offset_at z p.offsets (t.row + 1) in
        let end = cut_end z p (length p.values) t.row (cut e) in
        let up = cut_up z p (length p.values) t.row (cut e) in
        ap (λ (l : List Spot). length (records 1 ps l)) (there_items z ps t e)
        ∙ ap length (run_bytes ps t.source a (b - a) (omega arith))
        ∙ length-take-le (b - a) (drop a p.values) (omega (arith, length-drop a p.values))
        ∙ sym (length-map-range_with_len (spot t.source) a (b - a))
        ∙ sym (ap length (there_items z ps t e))
    go false e = ap (λ (l : List Spot). length (records 1 ps l)) (text_absent z ps t e) ∙ ap length (no_records ps) ∙ sym (ap length (text_absent z ps t e))

-- all texts, and the first ones
texts_are : (z : Offsets) (ps : List Part) (ss : List Spot) → records 1 ps (items z ps ss) ≡ flat_map (text_of z ps) ss
unfolding records items text_of
texts_are z ps ss = flat_flat (record_in 1 ps) (row_items z ps) ss

texts_len : (z : Offsets) (ps : List Part) (ss : List Spot) (n : ℕ) → AreCut true z ps ss → n ≤ length ss → length (flat_map (text_of z ps) (take n ss)) ≡ length (items z ps (take n ss))
unfolding items
texts_len z ps ss n cut h =
    let f = λ (t : Spot). length (row_items z ps t) in
    joined_len (text_of z ps) f (take n ss) (spot 0 0) (λ k b.
    let low : k < n = omega (arith, length-take-le n ss h) in
    let at : get_or (take n ss) k (spot 0 0) ≡ spot_at ss k = get_or-take n ss k (spot 0 0) low in
    ap (λ (t : Spot). length (text_of z ps t)) at ∙ text_len z ps (spot_at ss k) (cut.cut k (omega arith)) ∙ sym (ap f at))
    ∙ sym (joined_len (row_items z ps) f (take n ss) (spot 0 0) (λ k b. refl))

pub text_joined : (z : Offsets) (ps : List Part) (ss : List Spot) (v o x s : List ℕ) → (part_at ps 0).format ≡ Some (Text z) → AreReadable ps ss → (shows_valid ps ≡ true → bytes_for (length ss) ≤ length v) → (shows_valid ps ≡ true → AreBits (bit_in Validity ps) (places ps ss) v)
    → size_of z * (length ss + 1) ≤ length o → AreOffsets z ps (places ps ss) o → length (items z ps (places ps ss)) ≤ length x → take (length (items z ps (places ps ss))) x ≡ records 1 ps (items z ps (places ps ss))
    → IsJoined ps ss (joined_part ps ss v o x s)
text_joined z ps ss v o x s format r room shows long offs far are =
    let w = joined_part ps ss v o x s in
    let S = places ps ss in
    let count = length_places ps ss in
    let held = held_by ps ss (Some (Text z)) format r in
    let cut = held.1.0 in
    let ends : size_of z * (length S + 1) ≤ length o = subst (λ (m : ℕ). size_of z * (m + 1) ≤ length o) (sym count) long in
    let g = text_of z ps in
    let whole : length (flat_map g S) ≡ length (items z ps S) =
    ap (λ l. length (flat_map g l)) (sym (take_all (length S) S (omega arith))) ∙ texts_len z ps S (length S) cut (omega arith) ∙ ap (λ l. length (items z ps l)) (take_all (length S) S (omega arith)) in
    node_from ps ss v o x s (Text z) format refl r room
    (and_from _ _ (eq-eqb _ _ held.0) (new_cuts z ps S w (length x) refl (sym count) ends offs held.1.1 far))
    (λ css ds a. nullable_rows ps ss v o x s (Text z) format r tt room shows css ds (λ k h there.
    let low : k < length S = omega (arith, count) in
    let t = spot_at S k in
    ap bytes (cell g S x k (offset_at z o k) (offset_at z o (k + 1)) (spot 0 0) (ap (λ n. take n x) whole ∙ are ∙ texts_are z ps S) low
    (offs.ends k (omega arith) ∙ sym (texts_len z ps S k cut (omega arith)))
    (offs.ends (k + 1) (omega arith) ∙ sym (texts_len z ps S (k + 1) cut (omega arith)))
    ∙ text_there z ps t there (cut.cut k low there))))
