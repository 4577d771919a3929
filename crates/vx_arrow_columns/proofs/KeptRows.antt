-- Rows of nodes whose children are kept.
use Rattle.std.proofs.Common.{◌≡◌, ℕ, ◌+◌, ◌*◌, ◌<◌, ◌≤◌, Bool, true, false, cond, List, [], length, get_or, take, drop, Option, Some, None, ap, ap₂, sym, ◌∙◌, refl, subst, arith, leb}
use Rattle.std.specs.Prelude.{is_some, slice_range}
use Rattle.std.specs.Int.{from_le_bytes, w32, w64}
use Rattle.std.specs.List.{flat_map}
use Rattle.std.proofs.lemmas.Bool.{and_from, eq-eqb, le-leb, leb-true}
use Rattle.std.proofs.lemmas.List.{drop-drop}
use Rattle.vx_arrow_image.specs.declared.format.Format.{Format}
use Rattle.vx_arrow_image.specs.declared.format.Format.TheVariants.{TextView, ListView}
use Rattle.vx_arrow_image.specs.declared.format.Offsets.{Offsets}
use Rattle.vx_arrow_image.specs.declared.format.Offsets.TheVariants.{Short, Long}
use Rattle.vx_arrow_image.specs.Rows.{RowValue, bytes, list, row_values}
use Rattle.vx_arrow_image.specs.Image.{Part, all_valid, holds_starts, holds_valid, if_valid, is_list_view, is_valid, is_view, offset_at, row_bytes, size_of, value_at, view_buffer, view_len, view_start, view_text}
use Rattle.vx_arrow_image.proofs.CutRows.{range_all}
use Rattle.vx_arrow_image.proofs.SoundNodes.{sound_from}
use Rattle.vx_arrow_image.proofs.ViewTests.{list_view_is, view_is}
use Rattle.vx_arrow_columns.specs.Picks.{Picking, place_of}
use Rattle.vx_arrow_columns.specs.Taken.{AreCopied, AreInside, IsReadable, IsViewTaken, ShowsRows, is_inside}
use Rattle.vx_arrow_columns.specs.Written.{new_part}
use Rattle.vx_arrow_columns.proofs.Columns.{placed, same_column}
use Rattle.vx_arrow_columns.proofs.Cuts.{same_cut}
use Rattle.vx_arrow_columns.proofs.OwnTaken.{few_picks, held_by}

-- ---- what is copied

-- m bytes from byte `from` of a row on
part_copied : (w : ℕ) (src out : List ℕ) (k i a b from m : ℕ) → a ≡ k * w + from → b ≡ i * w + from → from + m ≤ w → take w (drop (k * w) out) ≡ take w (drop (i * w) src) → take m (drop a out) ≡ take m (drop b src)
part_copied w src out k i a b from m e f inside same =
    ap (λ (n : ℕ). take m (drop n out)) e ∙ ap (take m) (sym (drop-drop from (k * w) out))
    ∙ same_cut (drop (k * w) out) (drop (i * w) src) from m w inside same
    ∙ sym (ap (λ (n : ℕ). take m (drop n src)) f ∙ ap (take m) (sym (drop-drop from (i * w) src)))

number_copied : (src out : List ℕ) (k i j a b : ℕ) → a ≡ 4 * k + j → b ≡ 4 * i + j → j < 4 → take 16 (drop (k * 16) out) ≡ take 16 (drop (i * 16) src) → offset_at Short out a ≡ offset_at Short src b
unfolding offset_at
number_copied src out k i j a b e f low same = ap (from_le_bytes w32) (part_copied 16 src out k i (4 * a) (4 * b) (4 * j) 4 (omega arith) (omega arith) (omega arith) same)

offset_copied : (z : Offsets) (src out : List ℕ) (k i : ℕ) → take (size_of z) (drop (k * size_of z) out) ≡ take (size_of z) (drop (i * size_of z) src) → offset_at z out k ≡ offset_at z src i
unfolding offset_at
offset_copied Short src out k i same = ap (from_le_bytes w32) (part_copied 4 src out k i (4 * k) (4 * i) 0 4 (omega arith) (omega arith) (omega arith) same)
offset_copied Long src out k i same = ap (from_le_bytes w64) (part_copied 8 src out k i (8 * k) (8 * i) 0 8 (omega arith) (omega arith) (omega arith) same)

-- ---- valid rows

row_valid : (p w : Part) (f : ℕ → Bool) (k : ℕ) (o : Option ℕ) → is_valid w.valid k ≡ is_some (place_of p o) → ((i : ℕ) → place_of p o ≡ Some i → f k ≡ true) → if_valid w f k ≡ true
row_valid p w f k o shown h = go (place_of p o) refl
  where
    go : (x : Option ℕ) → place_of p o ≡ x → if_valid w f k ≡ true
    go None e = ap (λ b. cond b (f k) true) (shown ∙ ap is_some e)
    go (Some i) e = ap (λ b. cond b (f k) true) (shown ∙ ap is_some e) ∙ h i e

rows_valid : (p w : Part) (q : List (Option ℕ)) (f : ℕ → Bool) → w.offset ≡ 0 → w.len ≡ length q → ShowsRows p q w.valid → ((k i : ℕ) → k < length q → place_of p (get_or q k None) ≡ Some i → f k ≡ true) → all_valid w f ≡ true
unfolding all_valid
rows_valid p w q f first len shows h = range_all (if_valid w f) w.offset w.len (λ k low high.
    let below : k < length q = omega arith in
    row_valid p w f k (get_or q k None) (shows.shows k below) (λ i e. h k i below e))

inside_by : (p : Part) (q : List (Option ℕ)) (lens : List ℕ) (f : Format) (k i : ℕ) → p.format ≡ Some f → AreInside p q lens → k < length q → place_of p (get_or q k None) ≡ Some i → is_inside (Some f) p lens i ≡ true
inside_by p q lens f k i format a h e = sym (ap (λ (g : Option Format). is_inside g p lens i) format) ∙ a.all k i h e

-- ---- views of texts

-- one view of 16 bytes is another
record SameView (p w : Part) (k i : ℕ) : Type 0 where
  len : view_len w k ≡ view_len p i
  buffer : view_buffer w k ≡ view_buffer p i
  start : view_start w k ≡ view_start p i
  own : (n : ℕ) → n ≤ 12 → take n (drop (16 * k + 4) w.values) ≡ take n (drop (16 * i + 4) p.values)

same_view : (p w : Part) (k i : ℕ) → take 16 (drop (k * 16) w.values) ≡ take 16 (drop (i * 16) p.values) → SameView p w k i
same_view p w k i same = record {
  len = number_copied p.values w.values k i 0 (4 * k) (4 * i) (omega arith) (omega arith) (omega arith) same;
  buffer = number_copied p.values w.values k i 2 (4 * k + 2) (4 * i + 2) (omega arith) (omega arith) (omega arith) same;
  start = number_copied p.values w.values k i 3 (4 * k + 3) (4 * i + 3) (omega arith) (omega arith) (omega arith) same;
  own = λ n h. part_copied 16 p.values w.values k i (16 * k + 4) (16 * i + 4) 4 n (omega arith) (omega arith) (omega arith) same;
}

same_test : (p w : Part) (lens : List ℕ) (k i : ℕ) → SameView p w k i → is_view w lens k ≡ is_view p lens i
same_test p w lens k i s =
    sym (view_is w lens k (view_len p i) (view_buffer p i) (view_start p i) (sym s.len) (sym s.buffer) (sym s.start))
    ∙ view_is p lens i (view_len p i) (view_buffer p i) (view_start p i) refl refl refl

text_by : List (List RowValue) → ℕ → ℕ → ℕ → List ℕ
text_by cs n b s = flat_map row_bytes (slice_range (get_or cs b []) s (s + n))

text_cond : (t : Bool) (n : ℕ) (x y z : List ℕ) → leb n 12 ≡ t → (n ≤ 12 → x ≡ y) → cond t x z ≡ cond t y z
text_cond true n x y z e h = h (leb-true _ _ e)
text_cond false n x y z e h = refl

same_text : (p w : Part) (cs : List (List RowValue)) (k i : ℕ) → SameView p w k i → view_text w cs k ≡ view_text p cs i
unfolding text_by
same_text p w cs k i s =
    let n = view_len p i in
    ap (λ (m : ℕ). cond (leb m 12) (take m (drop (16 * k + 4) w.values)) (text_by cs m (view_buffer w k) (view_start w k))) s.len
    ∙ ap₂ (λ (b : ℕ) (t : ℕ). cond (leb n 12) (take n (drop (16 * k + 4) w.values)) (text_by cs n b t)) s.buffer s.start
    ∙ text_cond (leb n 12) n (take n (drop (16 * k + 4) w.values)) (take n (drop (16 * i + 4) p.values)) (text_by cs n (view_buffer p i) (view_start p i)) refl (s.own n)

pub text_view_taken : (p : Part) (q : Picking) (v o x s : List ℕ) → p.format ≡ Some TextView → IsReadable p q.picks → ShowsRows p q.picks v → holds_valid v (length q.picks) ≡ true
    → 16 * length q.picks ≤ length x → AreCopied 16 p.values p q.picks (length q.picks) x → IsViewTaken p (new_part p q v o x s) q
text_view_taken p q v o x s format r shows valid room are =
    let w = new_part p q v o x s in
    record {
      children = refl;
      len = refl;
      sound = λ lens inside. sound_from w lens (Some TextView) format (placed w refl (few_picks p q.picks r.counted) valid)
          (and_from _ _ (le-leb _ _ (omega arith))
          (rows_valid p w q.picks (is_view w lens) refl refl shows (λ k i h e. same_test p w lens k i (same_view p w k i (are.values k i h e)) ∙ inside_by p q.picks lens TextView k i format inside h e)));
      column = λ cs. same_column p w cs cs q.picks refl refl shows r.within (λ k i h e.
          ap (λ (y : Option Format). value_at y w cs k) format
          ∙ ap bytes (same_text p w cs k i (same_view p w k i (are.values k i h e)))
          ∙ ap (λ (y : Option Format). value_at y p cs i) (sym format));
    }

-- ---- views of lists

pub list_view_taken : (z : Offsets) (p : Part) (q : Picking) (v o x s : List ℕ) → p.format ≡ Some (ListView z) → IsReadable p q.picks → ShowsRows p q.picks v → holds_valid v (length q.picks) ≡ true
    → size_of z * length q.picks ≤ length o → size_of z * length q.picks ≤ length s → AreCopied (size_of z) p.offsets p q.picks (length q.picks) o → AreCopied (size_of z) p.sizes p q.picks (length q.picks) s
    → IsViewTaken p (new_part p q v o x s) q
list_view_taken z p q v o x s format r shows valid room_o room_s starts lens_are =
    let w = new_part p q v o x s in
    let held = held_by p q.picks (Some (ListView z)) format r in
    let first : 0 + length q.picks ≡ length q.picks = omega arith in
    let enough : (l : List ℕ) → size_of z * length q.picks ≤ length l → holds_starts z l (0 + length q.picks) ≡ true = λ l h. le-leb _ _ (subst (λ (n : ℕ). size_of z * n ≤ length l) (sym first) h) in
    record {
      children = refl;
      len = refl;
      sound = λ lens inside. sound_from w lens (Some (ListView z)) format (placed w refl (few_picks p q.picks r.counted) valid)
          (and_from _ _ (eq-eqb _ _ held.0) (and_from _ _ (enough o room_o) (and_from _ _ (enough s room_s)
          (rows_valid p w q.picks (is_list_view z w (get_or lens 0 0)) refl refl shows (λ k i h e.
          sym (list_view_is z w (get_or lens 0 0) k (offset_at z p.offsets i) (offset_at z p.sizes i) (sym (offset_copied z p.offsets o k i (starts.values k i h e))) (sym (offset_copied z p.sizes s k i (lens_are.values k i h e))))
          ∙ list_view_is z p (get_or lens 0 0) i (offset_at z p.offsets i) (offset_at z p.sizes i) refl refl
          ∙ inside_by p q.picks lens (ListView z) k i format inside h e)))));
      column = λ cs. same_column p w cs cs q.picks refl refl shows r.within (λ k i h e.
          ap (λ (y : Option Format). value_at y w cs k) format
          ∙ ap₂ (λ (a : ℕ) (n : ℕ). list (row_values (slice_range (get_or cs 0 []) a (a + n)))) (offset_copied z p.offsets o k i (starts.values k i h e)) (offset_copied z p.sizes s k i (lens_are.values k i h e))
          ∙ ap (λ (y : Option Format). value_at y p cs i) (sym format));
    }
