-- Views of texts among joined rows.
use Rattle.std.proofs.Common.{◌≡◌, ℕ, ◌+◌, ◌-◌, ◌*◌, ◌^◌, ◌<◌, ◌≤◌, Bool, true, false, cond, List, [], ◌++◌, length, map, get_or, take, drop, Option, Some, ap, ap₂, sym, ◌∙◌, refl, subst, inl, inr, arith, length-drop}
use Rattle.std.specs.Prelude.{slice_range}
use Rattle.std.specs.Int.{from_le_bytes, to_le_bytes, w32}
use Rattle.std.specs.List.{flat_map}
use Rattle.std.proofs.lemmas.Bool.{and_from, cases_lt, le-leb, lt-leb, lt-ltb, or_left, or_right}
use Rattle.std.proofs.lemmas.List.{drop_at, get_or-map, length-map, length-take-le, take-take, take_at}
use Rattle.std.proofs.lemmas.List.FromFn.{get_or-map-range_with_len}
use Rattle.std.proofs.lemmas.Nat.{from_le_bytes-to_le_bytes_4}
use Rattle.vx_arrow_image.specs.declared.format.Format.{Format}
use Rattle.vx_arrow_image.specs.declared.format.Format.TheVariants.{TextView}
use Rattle.vx_arrow_image.specs.declared.format.Offsets.TheVariants.{Short}
use Rattle.vx_arrow_image.specs.Rows.{RowValue, bytes}
use Rattle.vx_arrow_image.specs.Image.{Part, all_valid, if_valid, is_valid, is_view, offset_at, row_bytes, view_buffer, view_len, view_start, view_text}
use Rattle.vx_arrow_image.proofs.CutRows.{range_all}
use Rattle.vx_arrow_columns.specs.Picks.{bytes_for}
use Rattle.vx_arrow_columns.specs.Taken.{IsNullable}
use Rattle.vx_arrow_columns.proofs.Bytes.{cut_within}
use Rattle.vx_arrow_interleave.specs.declared.writing.BitsOf.TheVariants.{Validity}
use Rattle.vx_arrow_interleave.specs.Bytes.{AreBits, bit_in}
use Rattle.vx_arrow_interleave.specs.Given.{belows, belows_by, places, row_viewed_item, viewed_items}
use Rattle.vx_arrow_interleave.specs.Joined.{AreChildren, IsJoined, joined_part}
use Rattle.vx_arrow_interleave.specs.Sources.{is_there, part_at, shows_valid}
use Rattle.vx_arrow_interleave.specs.Spots.{Spot, gathered, run_of, spot, spot_at}
use Rattle.vx_arrow_interleave.specs.Tested.{AreReadable}
use Rattle.vx_arrow_interleave.specs.TextViews.{AreViews, ShowViews, view_row}
use Rattle.vx_arrow_interleave.proofs.JoinedItems.{rows_cell}
use Rattle.vx_arrow_interleave.proofs.JoinedNodes.{belows_len, node_over, nullable_rows, place_source}
use Rattle.vx_arrow_interleave.proofs.JoinedRows.{front_more, front_within, length_places, valid_joined}
use Rattle.vx_arrow_interleave.proofs.ShownViews.{viewed_there}
use Rattle.vx_arrow_interleave.proofs.SpotLists.{run_len}
use Rattle.vx_arrow_interleave.proofs.ViewPuts.{row_long, row_short}

-- ---- one view

-- number q of views that begin alike
number_in : (xs ys : List ℕ) (k i q n : ℕ) → 4 * q + 4 ≤ n → take n (drop (16 * k) xs) ≡ take n (drop (16 * i) ys) → offset_at Short xs (4 * k + q) ≡ offset_at Short ys (4 * i + q)
unfolding offset_at
number_in xs ys k i q n h e =
    let here : (j : ℕ) → 4 * (4 * j + q) ≡ 16 * j + 4 * q = λ j. omega arith in
    ap (λ m. from_le_bytes w32 (take 4 (drop m xs))) (here k)
    ∙ ap (from_le_bytes w32) (sym (cut_within xs (16 * k) (4 * q) 4 n h) ∙ ap (λ (l : List ℕ). take 4 (drop (4 * q) l)) e ∙ cut_within ys (16 * i) (4 * q) 4 n h)
    ∙ sym (ap (λ m. from_le_bytes w32 (take 4 (drop m ys))) (here i))

-- the last number of sixteen bytes
last_number : (xs front : List ℕ) (k n : ℕ) → length front ≡ 12 → n < 2 ^ 32 → take 16 (drop (16 * k) xs) ≡ front ++ to_le_bytes w32 n → offset_at Short xs (4 * k + 3) ≡ n
unfolding offset_at
last_number xs front k n twelve small e =
    let here : 4 * (4 * k + 3) ≡ 16 * k + 12 = omega arith in
    ap (λ m. from_le_bytes w32 (take 4 (drop m xs))) here
    ∙ ap (from_le_bytes w32) (sym (cut_within xs (16 * k) 12 4 16 (omega arith)) ∙ ap (λ (l : List ℕ). take 4 (drop 12 l)) e ∙ ap (take 4) (drop_at front (to_le_bytes w32 n) 12 twelve))
    ∙ from_le_bytes-to_le_bytes_4 n small

-- view k of one node is view i of another, with another start
record IsShown (p w : Part) (i k start : ℕ) : Type 0 where
  len : view_len w k ≡ view_len p i
  buffer : view_buffer w k ≡ view_buffer p i
  short : view_len p i ≤ 12 → take 16 (drop (16 * k) w.values) ≡ take 16 (drop (16 * i) p.values)
  long : 12 < view_len p i → view_start w k ≡ start

is_shown : (p w : Part) (i k start : ℕ) → is_valid p.valid i ≡ true → 16 * i + 16 ≤ length p.values → (12 < view_len p i → start < 2 ^ 31) → take 16 (drop (16 * k) w.values) ≡ view_row p i start → IsShown p w i k start
is_shown p w i k start there held few e =
    let own = take 12 (drop (16 * i) p.values) in
    let twelve : length own ≡ 12 = length-take-le 12 (drop (16 * i) p.values) (omega (arith, length-drop (16 * i) p.values)) in
    let first : take 12 (drop (16 * k) w.values) ≡ take 12 (take 16 (drop (16 * k) w.values)) = sym (take-take 12 16 (drop (16 * k) w.values) (omega arith)) in
    let front : take 12 (drop (16 * k) w.values) ≡ own = elim (cases_lt 12 (view_len p i)) [
      | inl long ↦ first ∙ ap (take 12) (e ∙ row_long p i start there long) ∙ take_at own (to_le_bytes w32 start) 12 twelve
      | inr low ↦ first ∙ ap (take 12) (e ∙ row_short p i start there low) ∙ take-take 12 16 (drop (16 * i) p.values) (omega arith)
    ] in
    let at : (j : ℕ) → 4 * j + 0 ≡ 4 * j = λ j. omega arith in
    record {
      len = ap (offset_at Short w.values) (sym (at k)) ∙ number_in w.values p.values k i 0 12 (omega arith) front ∙ ap (offset_at Short p.values) (at i);
      buffer = number_in w.values p.values k i 2 12 (omega arith) front;
      short = λ low. e ∙ row_short p i start there low;
      long = λ long. let small = few long in last_number w.values own k start twelve (omega arith) (e ∙ row_long p i start there long);
    }

-- it has the same text, where the child has the same bytes at its start
text_same : (p w : Part) (cs ds : List (List RowValue)) (i k start : ℕ) → IsShown p w i k start
    → (12 < view_len p i → slice_range (get_or ds (view_buffer p i) []) start (start + view_len p i) ≡ slice_range (get_or cs (view_buffer p i) []) (view_start p i) (view_start p i + view_len p i))
    → view_text w ds k ≡ view_text p cs i
text_same p w cs ds i k start t same = elim (cases_lt 12 (view_len p i)) as (λ _. view_text w ds k ≡ view_text p cs i) [
  | inl long ↦
      let far : 12 < view_len w k = omega (arith, t.len) in
      ap (λ (b : Bool). cond b (take (view_len w k) (drop (16 * k + 4) w.values)) (flat_map row_bytes (slice_range (get_or ds (view_buffer w k) []) (view_start w k) (view_start w k + view_len w k)))) (lt-leb _ _ far)
      ∙ ap (λ (n : ℕ). flat_map row_bytes (slice_range (get_or ds (view_buffer w k) []) (view_start w k) (view_start w k + n))) t.len
      ∙ ap₂ (λ (b : ℕ) (a : ℕ). flat_map row_bytes (slice_range (get_or ds b []) a (a + view_len p i))) t.buffer (t.long long)
      ∙ ap (flat_map row_bytes) (same long)
      ∙ sym (ap (λ (b : Bool). cond b (take (view_len p i) (drop (16 * i + 4) p.values)) (flat_map row_bytes (slice_range (get_or cs (view_buffer p i) []) (view_start p i) (view_start p i + view_len p i)))) (lt-leb _ _ long))
  | inr low ↦
      let near : view_len w k ≤ 12 = omega (arith, t.len) in
      ap (λ (b : Bool). cond b (take (view_len w k) (drop (16 * k + 4) w.values)) (flat_map row_bytes (slice_range (get_or ds (view_buffer w k) []) (view_start w k) (view_start w k + view_len w k)))) (le-leb _ _ near)
      ∙ ap (λ (n : ℕ). take n (drop (16 * k + 4) w.values)) t.len
      ∙ sym (cut_within w.values (16 * k) 4 (view_len p i) 16 (omega arith))
      ∙ ap (λ (l : List ℕ). take (view_len p i) (drop 4 l)) (t.short low)
      ∙ cut_within p.values (16 * i) 4 (view_len p i) 16 (omega arith)
      ∙ sym (ap (λ (b : Bool). cond b (take (view_len p i) (drop (16 * i + 4) p.values)) (flat_map row_bytes (slice_range (get_or cs (view_buffer p i) []) (view_start p i) (view_start p i + view_len p i)))) (le-leb _ _ low))
]

-- a view within children that have so many rows
view_from : (w : Part) (lens : List ℕ) (k : ℕ) → view_len w k < 2 ^ 31
    → (12 < view_len w k → (view_buffer w k < length lens) × ((view_start w k < 2 ^ 31) × (view_start w k + view_len w k ≤ get_or lens (view_buffer w k) 0))) → is_view w lens k ≡ true
unfolding is_view
view_from w lens k small within = and_from _ _ (lt-ltb _ _ small) (elim (cases_lt 12 (view_len w k)) [
  | inl long ↦ let f = within long in or_right _ _ (and_from _ _ (lt-ltb _ _ f.0) (and_from _ _ (lt-ltb _ _ f.1.0) (le-leb _ _ f.1.1)))
  | inr low ↦ or_left _ _ (le-leb _ _ low)
])

if_there : (w : Part) (f : ℕ → Bool) (k : ℕ) → (is_valid w.valid k ≡ true → f k ≡ true) → if_valid w f k ≡ true
if_there w f k h = go (is_valid w.valid k) refl
  where
    go : (b : Bool) → is_valid w.valid k ≡ b → cond (is_valid w.valid k) (f k) true ≡ true
    go true e = ap (λ (b : Bool). cond b (f k) true) e ∙ h e
    go false e = ap (λ (b : Bool). cond b (f k) true) e

-- ---- the children

child_at : (ps : List Part) (ss : List Spot) (j : ℕ) → (part_at ps 0).format ≡ Some TextView → j < (part_at ps 0).children → get_or (belows ps ss) j [] ≡ viewed_items ps (places ps ss) j
child_at ps ss j format h =
    ap (λ (g : Option Format). get_or (belows_by g ps (places ps ss)) j []) format
    ∙ get_or-map-range_with_len (viewed_items ps (places ps ss)) 0 (part_at ps 0).children j j [] h (omega arith)

child_len : (ps : List Part) (ss : List Spot) (j : ℕ) → (part_at ps 0).format ≡ Some TextView → j < (part_at ps 0).children → get_or (map length (belows ps ss)) j 0 ≡ length (viewed_items ps (places ps ss) j)
child_len ps ss j format h = get_or-map length (belows ps ss) j [] 0 (omega (arith, belows_len ps ss)) ∙ ap length (child_at ps ss j format h)

-- where a long text stands among what rows show of its buffer
record IsLong (ps : List Part) (S : List Spot) (p : Part) (i k : ℕ) : Type 0 where
  buffer : view_buffer p i < (part_at ps 0).children
  few : length (viewed_items ps (take k S) (view_buffer p i)) < 2 ^ 31
  item : row_viewed_item (view_buffer p i) ps (spot_at S k) ≡ run_of (spot_at S k).source (view_start p i) (view_len p i)
  end : length (viewed_items ps (take (k + 1) S) (view_buffer p i)) ≡ length (viewed_items ps (take k S) (view_buffer p i)) + view_len p i
  within : length (viewed_items ps (take (k + 1) S) (view_buffer p i)) ≤ length (viewed_items ps S (view_buffer p i))

is_long : (ps : List Part) (S : List Spot) (k : ℕ) → k < length S → is_there ps (spot_at S k) ≡ true → ShowViews (part_at ps 0).children ps S → 12 < view_len (part_at ps (spot_at S k).source) (spot_at S k).row
    → IsLong ps S (part_at ps (spot_at S k).source) (spot_at S k).row k
unfolding viewed_items
is_long ps S k h there show long =
    let t = spot_at S k in
    let p = part_at ps t.source in
    let j = view_buffer p t.row in
    let g = row_viewed_item j ps in
    let view = show.views k h in
    let low : j < (part_at ps 0).children = view.buffer there long in
    let few = show.few j low in
    let front = front_within g S k in
    let item : g t ≡ run_of t.source (view_start p t.row) (view_len p t.row) = viewed_there p t.source t.row j there long refl in
    record {
      buffer = low;
      few = omega (arith, few, front);
      item = item;
      end = front_more g S k (spot 0 0) h ∙ ap (λ (l : List Spot). length (flat_map g (take k S)) + length l) item ∙ ap (λ m. length (flat_map g (take k S)) + m) (run_len t.source (view_start p t.row) (view_len p t.row));
      within = front_within g S (k + 1);
    }

-- its bytes among those of the child are those among its source's child's
long_text : (ps : List Part) (ss : List Spot) (css : ℕ → List (List RowValue)) (ds : List (List RowValue)) (k : ℕ) (p : Part) (i : ℕ) → (part_at ps 0).format ≡ Some TextView → k < length (places ps ss) → AreChildren (length ps) (belows ps ss) css ds
    → IsLong ps (places ps ss) p i k
    → slice_range (get_or ds (view_buffer p i) []) (length (viewed_items ps (take k (places ps ss)) (view_buffer p i))) (length (viewed_items ps (take k (places ps ss)) (view_buffer p i)) + view_len p i)
    ≡ slice_range (get_or (css (spot_at (places ps ss) k).source) (view_buffer p i) []) (view_start p i) (view_start p i + view_len p i)
unfolding viewed_items
long_text ps ss css ds k p i format h a t =
    let S = places ps ss in
    let s = (spot_at S k).source in
    let j = view_buffer p i in
    let f = λ (s : ℕ). get_or (css s) j [] in
    let g = row_viewed_item j ps in
    let start = length (flat_map g (take k S)) in
    let there : j < length (belows ps ss) = omega (arith, belows_len ps ss, t.buffer) in
    let at : get_or (belows ps ss) j [] ≡ flat_map g S = child_at ps ss j format t.buffer in
    let rows : get_or ds j [] ≡ gathered (flat_map g S) f = a.at j there ∙ ap (λ (l : List Spot). gathered l f) at in
    let size : view_start p i + view_len p i - view_start p i ≡ view_len p i = omega arith in
    ap (λ (l : List RowValue). slice_range l start (start + view_len p i)) rows
    ∙ rows_cell g S f k start (start + view_len p i) s (view_start p i) (view_len p i) h t.item refl (sym t.end)
    (subst (λ (l : List Spot). (m : ℕ) → m < length l → (spot_at l m).row < length (f (spot_at l m).source)) at (λ m b. a.within j m there b))
    ∙ ap (λ m. take m (drop (view_start p i) (f s))) (sym size)

-- ---- the node

pub text_view_joined : (ps : List Part) (ss : List Spot) (v o x s : List ℕ) → (part_at ps 0).format ≡ Some TextView → AreReadable ps ss → (shows_valid ps ≡ true → bytes_for (length ss) ≤ length v) → (shows_valid ps ≡ true → AreBits (bit_in Validity ps) (places ps ss) v)
    → ShowViews (part_at ps 0).children ps (places ps ss) → 16 * length ss ≤ length x → AreViews ps (places ps ss) x → IsJoined ps ss (joined_part ps ss v o x s)
unfolding all_valid
text_view_joined ps ss v o x s format r room shows show far are =
    let w = joined_part ps ss v o x s in
    let S = places ps ss in
    let count = length_places ps ss in
    let lens = map length (belows ps ss) in
    let many : length lens ≡ (part_at ps 0).children = length-map (belows ps ss) length ∙ belows_len ps ss in
    let nullable : IsNullable (part_at ps 0).format = subst (λ (g : Option Format). IsNullable g) (sym format) tt in
    let own : (k : ℕ) → k < length ss → is_there ps (spot_at S k) ≡ true
    → IsShown (part_at ps (spot_at S k).source) w (spot_at S k).row k (length (viewed_items ps (take k S) (view_buffer (part_at ps (spot_at S k).source) (spot_at S k).row))) =
    λ k h there.
    let low : k < length S = omega (arith, count) in
    let t = spot_at S k in
    let p = part_at ps t.source in
    is_shown p w t.row k (length (viewed_items ps (take k S) (view_buffer p t.row))) there (show.views k low).held (λ long. (is_long ps S k low there show long).few) (are.bytes k low) in
    let all : 16 * (0 + length ss) ≤ length x = omega arith in
    node_over ps ss v o x s TextView format r room
    (and_from _ _ (le-leb _ _ all) (range_all (if_valid w (is_view w lens)) 0 (length ss) (λ k from to. if_there w (is_view w lens) k (λ valid.
    let h : k < length ss = omega arith in
    let low : k < length S = omega (arith, count) in
    let t = spot_at S k in
    let p = part_at ps t.source in
    let there : is_there ps t ≡ true = sym (valid_joined ps S v (shows_valid ps) k refl nullable (λ e. let l = room e in omega (arith, count)) shows low (place_source ps ss k r.rows h)) ∙ valid in
    let shown = own k h there in
    let small = (show.views k low).small there in
    view_from w lens k (omega (arith, shown.len, small)) (λ wide.
    let long : 12 < view_len p t.row = omega (arith, shown.len) in
    let l = is_long ps S k low there show long in
    let j = view_buffer p t.row in
    let size : get_or lens (view_buffer w k) 0 ≡ length (viewed_items ps S j) = ap (λ b. get_or lens b 0) shown.buffer ∙ child_len ps ss j format l.buffer in
    (omega (arith, shown.buffer, l.buffer, many), (omega (arith, shown.long long, l.few), omega (arith, shown.long long, shown.len, l.end, l.within, size))))))))
    (λ css ds a. nullable_rows ps ss v o x s TextView format r tt room shows css ds (λ k h there.
    let low : k < length S = omega (arith, count) in
    let t = spot_at S k in
    let p = part_at ps t.source in
    ap bytes (text_same p w (css t.source) ds t.row k (length (viewed_items ps (take k S) (view_buffer p t.row))) (own k h there)
    (λ long. long_text ps ss css ds k p t.row format low a (is_long ps S k low there show long)))))
