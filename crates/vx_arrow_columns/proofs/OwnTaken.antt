-- What a node of each format takes by itself.
use Rattle.std.proofs.Common.{zero, suc, ◌≡◌, ℕ, ◌+◌, ◌*◌, ◌^◌, ◌<◌, ◌≤◌, Bool, true, false, cond, List, [], ◌∷◌, length, get_or, take, map, Option, Some, None, ap, sym, ◌∙◌, refl, subst, arith, ltb, leb}
use Rattle.std.specs.Prelude.{◌||◌, is_some, slice_range, replicate}
use Rattle.std.specs.Option.{option_map}
use Rattle.std.specs.List.{list_all}
use Rattle.std.proofs.lemmas.Bool.{and_parts, and_from, or_parts, lt-ltb, le-leb, ltb-true, eq-eqb}
use Rattle.std.proofs.lemmas.List.{ext_get_or, get_or-map, length-map, length-replicate}
use Rattle.vx_arrow_image.specs.declared.format.Format.{Format}
use Rattle.vx_arrow_image.specs.declared.format.Format.TheVariants.{Nulls, Bits, Fixed, Text, List as Lists, FixedList, Struct, TextView, ListView, Union, DenseUnion}
use Rattle.vx_arrow_image.specs.declared.format.Offsets.{Offsets}
use Rattle.vx_arrow_image.specs.Rows.{RowValue, null, bit, bytes, list, fields, row_values, row_at, picked}
use Rattle.vx_arrow_image.specs.Image.{Part, is_valid, fits, holds_valid, is_sound, limit_of, value_at, row_of, column_of, offset_at, size_of}
use Rattle.vx_arrow_columns.specs.Picks.{Picking, bytes_for, has_bits, inner, inner_picks, inners, inners_by, is_counted, counts_by, items_len, items_of, picks_of, place_of, shows_by, shows_valid, tags}
use Rattle.vx_arrow_columns.specs.Taken.{AreBits, AreCopied, AreOffsets, Holds, IsNullable, IsOwnTaken, IsReadable, ShowsRows, texts_of, AreAt}
use Rattle.vx_arrow_columns.specs.Written.{new_part}
use Rattle.vx_arrow_image.proofs.CutRows.{cut_up}
use Rattle.vx_arrow_image.proofs.SoundNodes.{get_column, length_column, sound_from}
use Rattle.vx_arrow_columns.proofs.Columns.{same_column, placed, holds_bits, place_some}
use Rattle.vx_arrow_columns.proofs.Cuts.{items_count, list_cell, new_cuts, text_cell}
use Rattle.vx_arrow_columns.proofs.Trees.{inners_leaf}
use Rattle.vx_arrow_columns.proofs.RowsAt.{AreSameAt, column_at, first_at, some_at}
use Rattle.vx_arrow_columns.proofs.PickReads.{get_picks, length_picks, pick_there}

-- ---- validity

-- bits are written where there are some; else all rows at picks are there
pub valid_holds : (b : Bool) (v : List ℕ) (n : ℕ) → (b ≡ true → bytes_for n ≤ length v) → holds_valid (cond b v []) n ≡ true
valid_holds true v n h = holds_bits v n (let e = h refl in omega arith)
valid_holds false v n h = refl

no_bits : (v : List ℕ) (k : ℕ) → has_bits v ≡ false → is_valid v k ≡ true
no_bits [] k h = refl
no_bits (b ∷ bs) k h = absurd (let f : true ≡ false = h in cc)

pub all_shown : (p : Part) (ps vs : List ℕ) (add : ℕ) → (has_bits p.valid || has_bits vs) ≡ false → ShowsRows p (picks_of ps vs add) []
all_shown p ps vs add h =
    let none = or_parts _ _ h in
    record {
      shows = λ k b.
          let low : k < length ps = omega (arith, length_picks ps vs add) in
          let there = get_picks ps vs add k low ∙ pick_there ps vs add k (no_bits vs k none.1) in
          sym (ap (λ (o : Option ℕ). is_some (place_of p o)) there
          ∙ ap (λ b. is_some (cond b (Some (p.offset + (add + get_or ps k 0))) None)) (no_bits p.valid (p.offset + (add + get_or ps k 0)) none.0));
    }

pub nullable_shows : (f : Option Format) (b : Bool) → IsNullable f → shows_by f b ≡ b
nullable_shows None b h = absurd h
nullable_shows (Some Nulls) b h = absurd h
nullable_shows (Some Bits) b h = refl
nullable_shows (Some Fixed) b h = refl
nullable_shows (Some (Text z)) b h = refl
nullable_shows (Some Struct) b h = refl
nullable_shows (Some (Lists z)) b h = refl
nullable_shows (Some FixedList) b h = refl
nullable_shows (Some TextView) b h = refl
nullable_shows (Some (ListView z)) b h = refl
nullable_shows (Some Union) b h = absurd h
nullable_shows (Some DenseUnion) b h = absurd h

pub few_picks : (p : Part) (q : List (Option ℕ)) → is_counted p q ≡ true → length q < 2 ^ 60
unfolding is_counted
few_picks p q h = ltb-true _ _ (and_parts _ _ h).0

pub counts : (p : Part) (q : List (Option ℕ)) (f : Option Format) → p.format ≡ f → is_counted p q ≡ true → counts_by f p q ≡ true
unfolding is_counted
counts p q f e h = ap (λ (g : Option Format). counts_by g p q) (sym e) ∙ (and_parts (ltb (length q) (2 ^ 60)) _ h).1

pub counted_from : (p : Part) (q : List (Option ℕ)) (f : Option Format) → p.format ≡ f → length q < 2 ^ 60 → counts_by f p q ≡ true → is_counted p q ≡ true
unfolding is_counted
counted_from p q f e few h = and_from _ _ (lt-ltb _ _ few) (ap (λ (g : Option Format). counts_by g p q) e ∙ h)

pub held_by : (p : Part) (q : List (Option ℕ)) (f : Option Format) → p.format ≡ f → IsReadable p q → Holds f p q
held_by p q f e r = subst (λ (g : Option Format). Holds g p q) e r.held

-- ---- nodes with no children

-- w has the rows of p at the picks, where each child has those of the same ones
pub record IsSameTaken (p w : Part) (q : Picking) : Type 0 where
  pub children : w.children ≡ p.children
  pub len : w.len ≡ length q.picks
  pub sound : is_sound w (replicate p.children (length (inner p q).picks)) ≡ true
  pub column : (cs ds : List (List RowValue)) → AreSameAt (inner p q).picks p.children cs ds
      → AreAt (tags p.format) q.picks (column_of p cs) (column_of w ds)

same_at : (n j : ℕ) (i d : Picking) → j < n → get_or (replicate n i) j d ≡ i
same_at zero j i d h = absurd (omega arith)
same_at (suc n) zero i d h = refl
same_at (suc n) (suc j) i d h = same_at n j i d (omega arith)

same_lens : (n : ℕ) (i : Picking) → map (λ (k : Picking). length k.picks) (replicate n i) ≡ replicate n (length i.picks)
same_lens zero i = refl
same_lens (suc n) i = ap (λ l. length i.picks ∷ l) (same_lens n i)

pub own_taken : (p w : Part) (q : Picking) → inners p q ≡ replicate p.children (inner p q) → IsSameTaken p w q → IsOwnTaken p w q
own_taken p w q same t =
    let n = p.children in
    let i = inner p q in
    record {
      children = t.children;
      len = t.len;
      sound = ap (λ (l : List Picking). is_sound w (map (λ (k : Picking). length k.picks) l)) same ∙ ap (is_sound w) (same_lens n i) ∙ t.sound;
      column = λ cs ds a.
          let size : length (inners p q) ≡ n = ap length same ∙ length-replicate n i in
          t.column cs ds (record {
            old_len = a.old_len ∙ size;
            new_len = a.new_len ∙ size;
            at = λ j h. subst (λ (x : Picking). AreAt true x.picks (get_or cs j []) (get_or ds j [])) (ap (λ (l : List Picking). get_or l j i) same ∙ same_at n j i i h) (a.at j i (omega arith));
          });
    }

no_children : (p : Part) → p.children ≡ 0 → (cs : List (List RowValue)) → length cs ≡ p.children → cs ≡ []
no_children p e [] h = refl
no_children p e (c ∷ cs) h = absurd (omega arith)

leaf_taken : (p : Part) (q : Picking) (v o x s : List ℕ) (f : Format) → p.format ≡ Some f → p.children ≡ 0 → IsReadable p q.picks
    → ShowsRows p q.picks v → holds_valid v (length q.picks) ≡ true → fits (Some f) (new_part p q v o x s) [] ≡ true
    → ((k i : ℕ) → k < length q.picks → place_of p (get_or q.picks k None) ≡ Some i → value_at (Some f) (new_part p q v o x s) [] k ≡ value_at (Some f) p [] i)
    → IsOwnTaken p (new_part p q v o x s) q
leaf_taken p q v o x s f format leaf r shows valid fit values =
    let w = new_part p q v o x s in
    let i = inner p q in
    own_taken p w q (inners_leaf p q leaf) (record {
      children = refl;
      len = refl;
      sound = subst (λ (n : ℕ). is_sound w (replicate n (length i.picks)) ≡ true) (sym leaf) (sound_from w [] (Some f) format (placed w refl (few_picks p q.picks r.counted) valid) fit);
      column = λ cs ds at.
          let none : cs ≡ [] = no_children p leaf cs at.old_len in
          let new : ds ≡ [] = no_children p leaf ds at.new_len in
          column_at p q.picks cs (column_of w ds) r.within
          (ap (column_of w) new
          ∙ same_column p w [] [] q.picks refl refl shows r.within (λ k n h e.
          ap (λ (y : Option Format). value_at y w [] k) format ∙ values k n h e ∙ ap (λ (y : Option Format). value_at y p [] n) (sym format))
          ∙ sym (ap (λ (l : List (List RowValue)). picked q.picks (column_of p l)) none));
    })

pub bits_taken : (p : Part) (q : Picking) (v o x s : List ℕ) → p.format ≡ Some Bits → IsReadable p q.picks → ShowsRows p q.picks v → holds_valid v (length q.picks) ≡ true
    → bytes_for (length q.picks) ≤ length x → AreBits p q.picks (length q.picks) x → IsOwnTaken p (new_part p q v o x s) q
bits_taken p q v o x s format r shows valid room are =
    let held = held_by p q.picks (Some Bits) format r in
    leaf_taken p q v o x s Bits format held.0 r shows valid (and_from _ _ (eq-eqb _ _ held.0) (le-leb _ _ (omega arith))) (λ k i h e. ap bit (are.values k i h e))

pub fixed_taken : (p : Part) (q : Picking) (v o x s : List ℕ) → p.format ≡ Some Fixed → IsReadable p q.picks → ShowsRows p q.picks v → holds_valid v (length q.picks) ≡ true
    → length q.picks * p.width ≤ length x → AreCopied p.width p.values p q.picks (length q.picks) x → IsOwnTaken p (new_part p q v o x s) q
fixed_taken p q v o x s format r shows valid room are =
    let held = held_by p q.picks (Some Fixed) format r in
    let same : 0 + length q.picks ≡ length q.picks = omega arith in
    let total : (0 + length q.picks) * p.width ≤ length x = subst (λ (n : ℕ). n * p.width ≤ length x) (sym same) room in
    leaf_taken p q v o x s Fixed format held.0 r shows valid (and_from _ _ (eq-eqb _ _ held.0) (le-leb _ _ total)) (λ k i h e. ap bytes (are.values k i h e))

pub text_taken : (z : Offsets) (p : Part) (q : Picking) (v o x s : List ℕ) → p.format ≡ Some (Text z) → IsReadable p q.picks → ShowsRows p q.picks v → holds_valid v (length q.picks) ≡ true
    → size_of z * (length q.picks + 1) ≤ length o → AreOffsets z p q.picks (length q.picks) o → items_len z p q.picks ≤ length x → take (items_len z p q.picks) x ≡ texts_of z p q.picks
    → IsOwnTaken p (new_part p q v o x s) q
text_taken z p q v o x s format r shows valid long offs room are =
    let w = new_part p q v o x s in
    let held = held_by p q.picks (Some (Text z)) format r in
    let small = ltb-true _ _ (counts p q.picks (Some (Text z)) format r.counted) in
    leaf_taken p q v o x s (Text z) format held.0 r shows valid
    (and_from _ _ (eq-eqb _ _ held.0) (new_cuts z p w q.picks (length x) refl refl long offs small room))
    (λ k i h e. ap bytes (text_cell z p q.picks x k i (offset_at z o k) (offset_at z o (k + 1)) held.1 are h e (offs.ends k (omega arith)) (offs.ends (k + 1) (omega arith))))

-- ---- nulls

null_row : (p : Part) (cs : List (List RowValue)) (i : ℕ) → p.format ≡ Some Nulls → row_of p cs i ≡ null
null_row p cs i format = go (is_valid p.valid i) refl
  where
    go : (b : Bool) → is_valid p.valid i ≡ b → row_of p cs i ≡ null
    go true e = ap (λ b. cond b (value_at p.format p cs i) null) e ∙ ap (λ (y : Option Format). value_at y p cs i) format
    go false e = ap (λ b. cond b (value_at p.format p cs i) null) e

null_at : (p : Part) (cs : List (List RowValue)) (o : Option ℕ) → p.format ≡ Some Nulls → ((i : ℕ) → o ≡ Some i → i < p.len) → row_at (column_of p cs) o ≡ null
null_at p cs None format h = refl
null_at p cs (Some i) format h = get_column p cs i (h i refl) ∙ null_row p cs (p.offset + i) format

pub nulls_taken : (p : Part) (q : Picking) (o x s : List ℕ) → p.format ≡ Some Nulls → IsReadable p q.picks → IsOwnTaken p (new_part p q [] o x s) q
nulls_taken p q o x s format r =
    let w = new_part p q [] o x s in
    let leaf = held_by p q.picks (Some Nulls) format r in
    let i = inner p q in
    own_taken p w q (ap (λ (y : Option Format). inners_by y p q) format) (record {
      children = refl;
      len = refl;
      sound = subst (λ (n : ℕ). is_sound w (replicate n (length i.picks)) ≡ true) (sym leaf) (sound_from w [] (Some Nulls) format (placed w refl (few_picks p q.picks r.counted) refl) (eq-eqb _ _ leaf));
      column = λ cs ds at. column_at p q.picks cs (column_of w ds) r.within
          (ext_get_or null (column_of w ds) (picked q.picks (column_of p cs)) (length_column w ds ∙ sym (length-map q.picks (row_at (column_of p cs)))) (λ k h.
          let below : k < length q.picks = omega (arith, length_column w ds) in
          get_column w ds k below ∙ null_row w ds (0 + k) format
          ∙ sym (get_or-map (row_at (column_of p cs)) q.picks k None null below ∙ null_at p cs (get_or q.picks k None) format (λ n e. r.within.below k n below e))));
    })

-- ---- structs

cells : (cs ds : List (List RowValue)) (q : List (Option ℕ)) (n k i : ℕ) → k < length q → get_or q k None ≡ Some i → AreSameAt q n cs ds
    → map (λ c. get_or c k null) ds ≡ map (λ c. get_or c i null) cs
cells cs ds q n k i h e a =
    let old = a.old_len in
    let new = a.new_len in
    let f = λ (c : List RowValue). get_or c k null in
    let g = λ (c : List RowValue). get_or c i null in
    ext_get_or null (map f ds) (map g cs) (length-map ds f ∙ new ∙ sym old ∙ sym (length-map cs g)) (λ j b.
    let low : j < n = omega (arith, length-map ds f) in
    let there = a.at j low in
    get_or-map f ds j [] null (omega arith) ∙ there.at k i h e ∙ sym (get_or-map g cs j [] null (omega arith)))

pub long_all : (n m k : ℕ) → n ≤ m → list_all (λ l. leb n l) (replicate k m) ≡ true
long_all n m zero h = refl
long_all n m (suc k) h = and_from _ _ (le-leb _ _ h) (long_all n m k h)

pub struct_taken : (p : Part) (q : Picking) (v o x s : List ℕ) → p.format ≡ Some Struct → IsReadable p q.picks → ShowsRows p q.picks v → holds_valid v (length q.picks) ≡ true → IsOwnTaken p (new_part p q v o x s) q
struct_taken p q v o x s format r shows valid =
    let w = new_part p q v o x s in
    let f = option_map (λ (i : ℕ). p.offset + i) in
    let is : (inner p q).picks ≡ map f q.picks = ap (λ (y : Option Format). inner_picks y p q.picks) format in
    let count : length (inner p q).picks ≡ length q.picks = ap length is ∙ length-map q.picks f in
    own_taken p w q (ap (λ (y : Option Format). inners_by y p q) format) (record {
      children = refl;
      len = refl;
      sound = sound_from w _ (Some Struct) format (placed w refl (few_picks p q.picks r.counted) valid) (long_all (0 + length q.picks) (length (inner p q).picks) p.children (omega arith));
      column = λ cs ds children. column_at p q.picks cs (column_of w ds) r.within (same_column p w cs ds q.picks refl refl shows r.within (λ k n h e.
          let back = place_some p (get_or q.picks k None) n e in
          let at : get_or (inner p q).picks k None ≡ Some n = ap (λ (l : List (Option ℕ)). get_or l k None) is ∙ get_or-map f q.picks k None None h ∙ ap f back.1.0 ∙ ap Some (sym back.1.1) in
          ap (λ (y : Option Format). value_at y w ds k) format
          ∙ ap (λ l. fields (row_values l)) (cells cs ds (inner p q).picks p.children k n (omega arith) at children)
          ∙ ap (λ (y : Option Format). value_at y p cs n) (sym format)));
    })

-- ---- lists

pub list_taken : (z : Offsets) (p : Part) (q : Picking) (v o x s : List ℕ) → p.format ≡ Some (Lists z) → IsReadable p q.picks → ShowsRows p q.picks v → holds_valid v (length q.picks) ≡ true
    → size_of z * (length q.picks + 1) ≤ length o → AreOffsets z p q.picks (length q.picks) o → IsOwnTaken p (new_part p q v o x s) q
list_taken z p q v o x s format r shows valid long offs =
    let w = new_part p q v o x s in
    let held = held_by p q.picks (Some (Lists z)) format r in
    let one = held.0 in
    let small = ltb-true _ _ (counts p q.picks (Some (Lists z)) format r.counted) in
    let places = items_of z p q.picks in
    let is : (inner p q).picks ≡ map Some places = ap (λ (y : Option Format). inner_picks y p q.picks) format in
    let count : length (inner p q).picks ≡ items_len z p q.picks = ap length is ∙ length-map places Some ∙ items_count z p q.picks in
    own_taken p w q (ap (λ (y : Option Format). inners_by y p q) format) (record {
      children = refl;
      len = refl;
      sound = subst (λ (n : ℕ). is_sound w (replicate n (length (inner p q).picks)) ≡ true) (sym one)
          (sound_from w (length (inner p q).picks ∷ []) (Some (Lists z)) format (placed w refl (few_picks p q.picks r.counted) valid)
          (and_from _ _ (eq-eqb _ _ one) (new_cuts z p w q.picks (length (inner p q).picks) refl refl long offs small (omega arith))));
      column = λ cs ds children. column_at p q.picks cs (column_of w ds) r.within (same_column p w cs ds q.picks refl refl shows r.within (λ k i h e.
          let c = get_or cs 0 [] in
          let items : AreAt true (map Some places) c (get_or ds 0 []) = subst (λ (l : List (Option ℕ)). AreAt true l c (get_or ds 0 [])) is (first_at (inner p q).picks p.children cs ds one children) in
          let all : get_or ds 0 [] ≡ picked (map Some places) c = some_at places c (get_or ds 0 []) items in
          let up = cut_up z p (limit_of z) i (held.1.cut k i h e) in
          ap (λ (y : Option Format). value_at y w ds k) format
          ∙ ap (λ (l : List RowValue). list (row_values (slice_range l (offset_at z o k) (offset_at z o (k + 1))))) all
          ∙ ap (λ (l : List RowValue). list (row_values l)) (list_cell z p q.picks c k i (offset_at z o k) (offset_at z o (k + 1)) h e up items.within (offs.ends k (omega arith)) (offs.ends (k + 1) (omega arith)))
          ∙ ap (λ (y : Option Format). value_at y p cs i) (sym format)));
    })

-- the same with whatever bits there are, since none are looked at
pub nulls_node : (p : Part) (q : Picking) (v o x s : List ℕ) → p.format ≡ Some Nulls → IsReadable p q.picks → IsOwnTaken p (new_part p q (cond (shows_valid p q) v []) o x s) q
nulls_node p q v o x s format r =
    let none : cond (shows_valid p q) v [] ≡ [] = ap (λ (f : Option Format). cond (shows_by f (has_bits p.valid || q.nullable)) v []) format in
    subst (λ (w : List ℕ). IsOwnTaken p (new_part p q w o x s) q) (sym none) (nulls_taken p q o x s format r)

pub no_format : (p : Part) (q : List (Option ℕ)) → p.format ≡ None → IsReadable p q → ⊥
no_format p q format r = subst (λ (f : Option Format). Holds f p q) format r.held
