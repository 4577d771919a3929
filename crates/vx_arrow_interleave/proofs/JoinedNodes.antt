-- One node of joined rows, format by format.
use Rattle.std.proofs.Common.{zero, suc, ◌≡◌, ℕ, ◌+◌, ◌-◌, ◌*◌, ◌<◌, ◌≤◌, Bool, true, false, cond, ◌&&◌, List, [], length, get_or, take, drop, map, Option, Some, ap, sym, ◌∙◌, refl, subst, arith}
use Rattle.std.specs.Prelude.{replicate}
use Rattle.std.specs.List.{flat_map}
use Rattle.std.proofs.lemmas.Bool.{and_from, eq-eqb, le-leb, lt-ltb}
use Rattle.std.proofs.lemmas.List.{ext_get_or, get_or-map, length-drop, length-map, length-replicate, length-take-le, take_all}
use Rattle.std.proofs.lemmas.List.FromFn.{length-map-range_with_len}
use Rattle.vx_lemmas.proofs.Lists.{map-replicate}
use Rattle.vx_arrow_image.specs.declared.format.Format.{Format}
use Rattle.vx_arrow_image.specs.declared.format.Format.TheVariants.{Nulls, Bits, Fixed, Struct, TextView, DenseUnion}
use Rattle.vx_arrow_image.specs.Rows.{RowValue, null, bit, bytes, fields, row_values}
use Rattle.vx_arrow_image.specs.Image.{Part, fits, is_valid, row_of, value_at}
use Rattle.vx_arrow_image.proofs.SoundNodes.{sound_from}
use Rattle.vx_arrow_columns.specs.Picks.{bytes_for}
use Rattle.vx_arrow_columns.specs.Taken.{IsNullable}
use Rattle.vx_arrow_columns.proofs.Columns.{placed}
use Rattle.vx_arrow_columns.proofs.OwnTaken.{long_all, valid_holds}
use Rattle.vx_arrow_interleave.specs.declared.writing.BitsOf.TheVariants.{Validity, Values}
use Rattle.vx_arrow_interleave.specs.Bytes.{AreBits, HoldRecords, bit_in, record_in, records}
use Rattle.vx_arrow_interleave.specs.Given.{below, belows, below_by, belows_by, dense_items, places, splits, viewed_items}
use Rattle.vx_arrow_interleave.specs.Joined.{AreChildren, IsJoined, joined_part}
use Rattle.vx_arrow_interleave.specs.Sources.{AreAlike, AreRows, is_there, part_at, shows_valid}
use Rattle.vx_arrow_interleave.specs.Spots.{Spot, gathered, spot, spot_at}
use Rattle.vx_arrow_interleave.specs.Tested.{AreReadable, Holds}
use Rattle.vx_arrow_interleave.proofs.JoinedRows.{AreRowsOf, cell, column_joined, even_front, get_place, length_places, row_same, valid_joined}
use Rattle.vx_arrow_interleave.proofs.JoinedTrees.{get_gathered}

-- ---- any format

pub same_format : (ps : List Part) (s : ℕ) (f : Option Format) → AreAlike ps → s < length ps → (part_at ps 0).format ≡ f → (part_at ps s).format ≡ f
same_format ps s f a h e = let like = a.like s h in like.format ∙ e

pub held_by : (ps : List Part) (ss : List Spot) (f : Option Format) → (part_at ps 0).format ≡ f → AreReadable ps ss → Holds f ps (places ps ss)
held_by ps ss f e r = subst (λ (g : Option Format). Holds g ps (places ps ss)) e r.held

-- the rows of children of this format
pub below_is : (ps : List Part) (ss : List Spot) (f : Option Format) → (part_at ps 0).format ≡ f → below ps ss ≡ below_by f ps (places ps ss)
below_is ps ss f e = ap (λ (g : Option Format). below_by g ps (places ps ss)) e

pub belows_len : (ps : List Part) (ss : List Spot) → length (belows ps ss) ≡ (part_at ps 0).children
belows_len ps ss = go (part_at ps 0).format
  where
    go : (f : Option Format) → length (belows_by f ps (places ps ss)) ≡ (part_at ps 0).children
    go (Some TextView) = length-map-range_with_len (viewed_items ps (places ps ss)) 0 (part_at ps 0).children
    go (Some DenseUnion) = length-map-range_with_len (dense_items ps (places ps ss)) 0 (part_at ps 0).children
    go f = length-replicate (part_at ps 0).children (below_by f ps (places ps ss))

-- all children have the same rows but those of dense unions and of views of texts
pub belows_same : (ps : List Part) (ss : List Spot) (f : Option Format) → (part_at ps 0).format ≡ f → splits f ≡ false → belows ps ss ≡ replicate (part_at ps 0).children (below ps ss)
belows_same ps ss f e one =
    ap (λ (g : Option Format). belows_by g ps (places ps ss)) e ∙ go f one ∙ ap (λ (g : Option Format). replicate (part_at ps 0).children (below_by g ps (places ps ss))) (sym e)
  where
    go : (f : Option Format) → splits f ≡ false → belows_by f ps (places ps ss) ≡ replicate (part_at ps 0).children (below_by f ps (places ps ss))
    go (Some TextView) e = absurd (let g : true ≡ false = e in cc)
    go (Some DenseUnion) e = absurd (let g : true ≡ false = e in cc)
    go f e = refl

same_at : (n j : ℕ) (b : List Spot) → j < n → get_or (replicate n b) j [] ≡ b
same_at zero j b h = absurd (omega arith)
same_at (suc n) zero b h = refl
same_at (suc n) (suc j) b h = same_at n j b (omega arith)

pub below_at : (ps : List Part) (ss : List Spot) (j : ℕ) (f : Option Format) → (part_at ps 0).format ≡ f → splits f ≡ false → j < (part_at ps 0).children → get_or (belows ps ss) j [] ≡ below ps ss
below_at ps ss j f e one h = ap (λ (l : List (List Spot)). get_or l j []) (belows_same ps ss f e one) ∙ same_at (part_at ps 0).children j (below ps ss) h

pub place_source : (ps : List Part) (ss : List Spot) (k : ℕ) → AreRows ps ss → k < length ss → (spot_at (places ps ss) k).source < length ps
place_source ps ss k rows h = subst (λ (t : Spot). t.source < length ps) (sym (get_place ps ss k h)) (rows.source k h)

-- from what it is over any children
pub node_over : (ps : List Part) (ss : List Spot) (v o x s : List ℕ) (f : Format) → (part_at ps 0).format ≡ Some f → AreReadable ps ss → (shows_valid ps ≡ true → bytes_for (length ss) ≤ length v)
    → fits (Some f) (joined_part ps ss v o x s) (map length (belows ps ss)) ≡ true
    → ((css : ℕ → List (List RowValue)) (ds : List (List RowValue)) → AreChildren (length ps) (belows ps ss) css ds → AreRowsOf ps ss (joined_part ps ss v o x s) css ds)
    → IsJoined ps ss (joined_part ps ss v o x s)
node_over ps ss v o x s f format r room fit rows =
    let w = joined_part ps ss v o x s in
    record {
      children = sym (belows_len ps ss);
      alike = λ s h. let like = r.alike.like s h in like.children ∙ sym (belows_len ps ss);
      rows = r.rows;
      len = refl;
      sound = sound_from w (map length (belows ps ss)) (Some f) format (placed w refl r.few (valid_holds (shows_valid ps) v (length ss) room)) fit;
      column = λ css ds a. column_joined ps ss w css ds refl refl r.rows (rows css ds a);
    }

-- and over children with the same rows
pub node_from : (ps : List Part) (ss : List Spot) (v o x s : List ℕ) (f : Format) → (part_at ps 0).format ≡ Some f → splits (Some f) ≡ false → AreReadable ps ss → (shows_valid ps ≡ true → bytes_for (length ss) ≤ length v)
    → fits (Some f) (joined_part ps ss v o x s) (replicate (part_at ps 0).children (length (below ps ss))) ≡ true
    → ((css : ℕ → List (List RowValue)) (ds : List (List RowValue)) → AreChildren (length ps) (belows ps ss) css ds → AreRowsOf ps ss (joined_part ps ss v o x s) css ds)
    → IsJoined ps ss (joined_part ps ss v o x s)
node_from ps ss v o x s f format one r room fit rows =
    node_over ps ss v o x s f format r room
    (ap (λ (l : List (List Spot)). fits (Some f) (joined_part ps ss v o x s) (map length l)) (belows_same ps ss (Some f) format one)
    ∙ ap (fits (Some f) (joined_part ps ss v o x s)) (map-replicate length (part_at ps 0).children (below ps ss)) ∙ fit) rows

-- where the values of the rows that are there are the sources'
pub nullable_rows : (ps : List Part) (ss : List Spot) (v o x s : List ℕ) (f : Format) → (part_at ps 0).format ≡ Some f → AreReadable ps ss → IsNullable (Some f) → (shows_valid ps ≡ true → bytes_for (length ss) ≤ length v)
    → (shows_valid ps ≡ true → AreBits (bit_in Validity ps) (places ps ss) v) → (css : ℕ → List (List RowValue)) (ds : List (List RowValue))
    → ((k : ℕ) → k < length ss → is_there ps (spot_at (places ps ss) k) ≡ true
    → value_at (Some f) (joined_part ps ss v o x s) ds k ≡ value_at (Some f) (part_at ps (spot_at (places ps ss) k).source) (css (spot_at (places ps ss) k).source) (spot_at (places ps ss) k).row)
    → AreRowsOf ps ss (joined_part ps ss v o x s) css ds
nullable_rows ps ss v o x s f format r nullable room bits css ds values =
    let w = joined_part ps ss v o x s in
    let count = length_places ps ss in
    record {
      rows = λ k h.
          let t = spot_at (places ps ss) k in
          let source = place_source ps ss k r.rows h in
          let own = subst (λ (g : Option Format). IsNullable g) (sym format) nullable in
          row_same (part_at ps t.source) w (css t.source) ds t.row k
          (valid_joined ps (places ps ss) v (shows_valid ps) k refl own (λ e. let l = room e in omega (arith, count)) bits (omega (arith, count)) source)
          (λ there. ap (λ (g : Option Format). value_at g w ds k) format ∙ values k h there ∙ sym (ap (λ (g : Option Format). value_at g (part_at ps t.source) (css t.source) t.row) (same_format ps t.source (Some f) r.alike source format)));
    }

-- ---- nulls

null_row : (p : Part) (cs : List (List RowValue)) (i : ℕ) → p.format ≡ Some Nulls → row_of p cs i ≡ null
null_row p cs i format = go (is_valid p.valid i) refl
  where
    go : (b : Bool) → is_valid p.valid i ≡ b → row_of p cs i ≡ null
    go true e = ap (λ b. cond b (value_at p.format p cs i) null) e ∙ ap (λ (y : Option Format). value_at y p cs i) format
    go false e = ap (λ b. cond b (value_at p.format p cs i) null) e

pub nulls_joined : (ps : List Part) (ss : List Spot) (v o x s : List ℕ) → (part_at ps 0).format ≡ Some Nulls → AreReadable ps ss → (shows_valid ps ≡ true → bytes_for (length ss) ≤ length v) → IsJoined ps ss (joined_part ps ss v o x s)
nulls_joined ps ss v o x s format r room =
    let w = joined_part ps ss v o x s in
    let leaf : (part_at ps 0).children ≡ 0 = held_by ps ss (Some Nulls) format r in
    node_from ps ss v o x s Nulls format refl r room (eq-eqb _ _ leaf) (λ css ds a. record {
      rows = λ k h.
          let t = spot_at (places ps ss) k in
          null_row w ds k format ∙ sym (null_row (part_at ps t.source) (css t.source) t.row (same_format ps t.source (Some Nulls) r.alike (place_source ps ss k r.rows h) format));
    })

-- ---- bits

pub bits_joined : (ps : List Part) (ss : List Spot) (v o x s : List ℕ) → (part_at ps 0).format ≡ Some Bits → AreReadable ps ss → (shows_valid ps ≡ true → bytes_for (length ss) ≤ length v) → (shows_valid ps ≡ true → AreBits (bit_in Validity ps) (places ps ss) v)
    → bytes_for (length ss) ≤ length x → AreBits (bit_in Values ps) (places ps ss) x → IsJoined ps ss (joined_part ps ss v o x s)
bits_joined ps ss v o x s format r room shows long are =
    let leaf : (part_at ps 0).children ≡ 0 = held_by ps ss (Some Bits) format r in
    let count = length_places ps ss in
    node_from ps ss v o x s Bits format refl r room (and_from _ _ (eq-eqb _ _ leaf) (le-leb _ _ (omega arith))) (λ css ds a.
    nullable_rows ps ss v o x s Bits format r tt room shows css ds (λ k h there.
    let low : k < length (places ps ss) = omega (arith, count) in
    ap bit (are.bits k (omega (arith, low)) ∙ ap (λ c. c && bit_in Values ps (spot_at (places ps ss) k)) (lt-ltb k (length (places ps ss)) low))))

-- ---- values of a fixed width

record_len : (w : ℕ) (ps : List Part) (ss : List Spot) (k : ℕ) → HoldRecords w ps ss → k < length ss → length (record_in w ps (spot_at ss k)) ≡ w
record_len w ps ss k held h =
    let t = spot_at ss k in
    let far = held.held k h in
    length-take-le w (drop (t.row * w) (part_at ps t.source).values) (omega (arith, length-drop (t.row * w) (part_at ps t.source).values))

-- the bytes of row k among those of all
pub record_at : (w : ℕ) (ps : List Part) (ss : List Spot) (x : List ℕ) (k : ℕ) → HoldRecords w ps ss → take (length ss * w) x ≡ records w ps ss → k < length ss → take w (drop (k * w) x) ≡ record_in w ps (spot_at ss k)
unfolding records
record_at w ps ss x k held are h =
    let g = record_in w ps in
    let each : (j : ℕ) → j < length ss → length (g (get_or ss j (spot 0 0))) ≡ w = λ j l. record_len w ps ss j held l in
    let total : length (flat_map g ss) ≡ length ss * w = ap (λ l. length (flat_map g l)) (sym (take_all (length ss) ss (omega arith))) ∙ even_front g ss w (length ss) (spot 0 0) each (omega arith) in
    let next : (k + 1) * w ≡ k * w + w = omega arith in
    let size : (k + 1) * w - k * w ≡ w = omega arith in
    ap (λ n. take n (drop (k * w) x)) (sym size)
    ∙ cell g ss x k (k * w) ((k + 1) * w) (spot 0 0) (ap (λ n. take n x) total ∙ are) h
    (sym (even_front g ss w k (spot 0 0) each (omega arith))) (sym (even_front g ss w (k + 1) (spot 0 0) each (omega arith)))

pub fixed_joined : (ps : List Part) (ss : List Spot) (v o x s : List ℕ) → (part_at ps 0).format ≡ Some Fixed → AreReadable ps ss → (shows_valid ps ≡ true → bytes_for (length ss) ≤ length v) → (shows_valid ps ≡ true → AreBits (bit_in Validity ps) (places ps ss) v)
    → length ss * (part_at ps 0).width ≤ length x → take (length (places ps ss) * (part_at ps 0).width) x ≡ records (part_at ps 0).width ps (places ps ss) → IsJoined ps ss (joined_part ps ss v o x s)
fixed_joined ps ss v o x s format r room shows long are =
    let held = held_by ps ss (Some Fixed) format r in
    let n = (part_at ps 0).width in
    let count = length_places ps ss in
    let far : (0 + length ss) * n ≤ length x = subst (λ (m : ℕ). m * n ≤ length x) (let e : length ss ≡ 0 + length ss = omega arith in e) long in
    node_from ps ss v o x s Fixed format refl r room (and_from _ _ (eq-eqb _ _ held.0) (le-leb _ _ far)) (λ css ds a.
    nullable_rows ps ss v o x s Fixed format r tt room shows css ds (λ k h there.
    let t = spot_at (places ps ss) k in
    let like = r.alike.like t.source (place_source ps ss k r.rows h) in
    ap bytes (record_at n ps (places ps ss) x k held.1.0 are (omega (arith, count)) ∙ ap (λ m. take m (drop (t.row * m) (part_at ps t.source).values)) (sym like.width))))

-- ---- structs

-- each child's rows at the places of its parent's
pub child_row : (ps : List Part) (ss : List Spot) (css : ℕ → List (List RowValue)) (ds : List (List RowValue)) (j k : ℕ) (f : Option Format) → (part_at ps 0).format ≡ f → splits f ≡ false → below ps ss ≡ places ps ss → AreChildren (length ps) (belows ps ss) css ds → j < (part_at ps 0).children → k < length ss
    → get_or (get_or ds j []) k null ≡ get_or (get_or (css (spot_at (places ps ss) k).source) j []) (spot_at (places ps ss) k).row null
child_row ps ss css ds j k f e one is a low h =
    let at : get_or (belows ps ss) j [] ≡ places ps ss = below_at ps ss j f e one low ∙ is in
    ap (λ (l : List RowValue). get_or l k null) (a.at j (omega (arith, belows_len ps ss)) ∙ ap (λ (l : List Spot). gathered l (λ s. get_or (css s) j [])) at)
    ∙ get_gathered (places ps ss) (λ s. get_or (css s) j []) k (omega (arith, length_places ps ss))

pub struct_joined : (ps : List Part) (ss : List Spot) (v o x s : List ℕ) → (part_at ps 0).format ≡ Some Struct → AreReadable ps ss → (shows_valid ps ≡ true → bytes_for (length ss) ≤ length v) → (shows_valid ps ≡ true → AreBits (bit_in Validity ps) (places ps ss) v)
    → IsJoined ps ss (joined_part ps ss v o x s)
struct_joined ps ss v o x s format r room shows =
    let n = (part_at ps 0).children in
    let is : below ps ss ≡ places ps ss = below_is ps ss (Some Struct) format in
    let count : length (below ps ss) ≡ length ss = ap length is ∙ length_places ps ss in
    node_from ps ss v o x s Struct format refl r room (long_all (0 + length ss) (length (below ps ss)) n (omega (arith, count))) (λ css ds a.
    nullable_rows ps ss v o x s Struct format r tt room shows css ds (λ k h there.
    let t = spot_at (places ps ss) k in
    let f = λ (c : List RowValue). get_or c k null in
    let g = λ (c : List RowValue). get_or c t.row null in
    let new : length ds ≡ n = a.new_len ∙ belows_len ps ss in
    let old : length (css t.source) ≡ n = a.old_len t.source (place_source ps ss k r.rows h) ∙ belows_len ps ss in
    ap (λ l. fields (row_values l)) (ext_get_or null (map f ds) (map g (css t.source)) (length-map ds f ∙ new ∙ sym old ∙ sym (length-map (css t.source) g)) (λ j b.
    let low : j < n = omega (arith, length-map ds f, new) in
    get_or-map f ds j [] null (omega (arith, new)) ∙ child_row ps ss css ds j k (Some Struct) format refl is a low h ∙ sym (get_or-map g (css t.source) j [] null (omega (arith, old)))))))
