-- Lists that begin with the bytes of rows at picks hold these rows.
use Rattle.std.proofs.Common.{◌≡◌, ℕ, ◌≤◌, Bool, true, false, cond, List, [], length, get_or, Option, Some, None, ap, sym, ◌∙◌, refl, subst, arith}
use Rattle.std.specs.Prelude.{◌&&◌, is_some}
use Rattle.std.proofs.lemmas.Bool.{lt-ltb}
use Rattle.vx_arrow_image.specs.declared.format.Format.{Format}
use Rattle.vx_arrow_image.specs.declared.format.Format.TheVariants.{Nulls, Bits, Fixed, Text, Struct, List as Lists, FixedList, TextView, ListView, Union, DenseUnion}
use Rattle.vx_arrow_image.specs.declared.image.Room.{Room}
use Rattle.vx_arrow_image.specs.Image.{Part, holds_valid}
use Rattle.vx_arrow_columns.specs.Bytes.{AreBitsOf, AreBytes, AreBytesOf, AreOffsetsOf, AreSizesOf, AreValuesOf, row_in}
use Rattle.vx_arrow_columns.specs.Picks.{Picking, bytes_for, keeps, kept_need, need_of, own_need, place_of, shows_valid}
use Rattle.vx_arrow_columns.specs.Taken.{AreBits, AreCopied, IsNullable, IsReadable, ShowsRows, TakenAs, bit_in}
use Rattle.vx_arrow_columns.specs.Written.{IsRoomTaken, has_room, own_part}
use Rattle.vx_arrow_columns.proofs.DenseRows.{dense_node}
use Rattle.vx_arrow_columns.proofs.FixedLists.{fixed_list_taken}
use Rattle.vx_arrow_columns.proofs.KeptRows.{list_view_taken, text_view_taken}
use Rattle.vx_arrow_columns.proofs.OwnTaken.{bits_taken, fixed_taken, list_taken, no_format, nulls_node, struct_taken, text_taken}
use Rattle.vx_arrow_columns.proofs.PickReads.{shows_bit}
use Rattle.vx_arrow_columns.proofs.Plans.{own_node, view_node}
use Rattle.vx_arrow_columns.proofs.Rooms.{Roomy, held_valid, nullable_by, room_offsets, room_sizes, room_values, roomy}
use Rattle.vx_arrow_columns.proofs.UnionRows.{union_node}

-- bits of the rows that are there
bits_there : (p : Part) (q : List (Option ℕ)) (out : List ℕ) → AreBitsOf (bit_in p.values) p q out → AreBits p q (length q) out
bits_there p q out b = record {
  values = λ k i h e. b.bits k (omega (arith, h)) ∙ ap (λ c. c && bit_in p.values (place_of p (get_or q k None))) (lt-ltb k (length q) h) ∙ ap (bit_in p.values) e;
}

-- bytes of the rows that are there
rows_there : (w : ℕ) (src : List ℕ) (p : Part) (q : List (Option ℕ)) (out : List ℕ) → AreBytesOf w src p q out → AreCopied w src p q (length q) out
rows_there w src p q out b = record { values = λ k i h e. b.rows k h ∙ ap (row_in w src) e }

-- what the bits of a room show
bits_shown : (p : Part) (q : List (Option ℕ)) (b : Bool) (v : List ℕ) → (b ≡ true → bytes_for (length q) ≤ length v) → (b ≡ true → AreBitsOf is_some p q v) → (b ≡ false → ShowsRows p q []) → ShowsRows p q (cond b v [])
bits_shown p q true v room bits none = record {
  shows = λ k h.
      let few = room refl in
      let own = bits refl in
      shows_bit v k (omega (arith, few, h)) ∙ own.bits k (omega (arith, h)) ∙ ap (λ c. c && is_some (place_of p (get_or q k None))) (lt-ltb k (length q) h);
}
bits_shown p q false v room bits none = none refl

module _ (p : Part) (q : Picking) (r : Room) (readable : IsReadable p q.picks) (room : has_room (own_need p q) r ≡ true) (none : IsNullable p.format → shows_valid p q ≡ false → ShowsRows p q.picks []) (bytes : AreBytes p q r.valid.now r.offsets.now r.values.now r.sizes.now) where
  large : Roomy p q r.valid.now r.offsets.now r.values.now r.sizes.now
  large = roomy p q r.valid.now r.offsets.now r.values.now r.sizes.now room

  shows : IsNullable p.format → ShowsRows p q.picks (cond (shows_valid p q) r.valid.now [])
  shows some = bits_shown p q.picks (shows_valid p q) r.valid.now large.valid bytes.valid (none some)

  held : holds_valid (cond (shows_valid p q) r.valid.now []) (length q.picks) ≡ true
  held = held_valid p q r.valid.now r.valid.now large.valid refl

  offsets_by : (f : Option Format) → p.format ≡ f → AreOffsetsOf f p q.picks r.offsets.now
  offsets_by f e = subst (λ (g : Option Format). AreOffsetsOf g p q.picks r.offsets.now) e bytes.offsets

  values_by : (f : Option Format) → p.format ≡ f → AreValuesOf f p q.picks r.values.now
  values_by f e = subst (λ (g : Option Format). AreValuesOf g p q.picks r.values.now) e bytes.values

  sizes_by : (f : Option Format) → p.format ≡ f → AreSizesOf f p q.picks r.sizes.now
  sizes_by f e = subst (λ (g : Option Format). AreSizesOf g p q.picks r.sizes.now) e bytes.sizes

  own_taken : (f : Option Format) → p.format ≡ f → TakenAs false (keeps p.format) p (own_part p q r) q
  own_taken None e = absurd (no_format p q.picks e readable)
  own_taken (Some Nulls) e = own_node p _ q Nulls e refl (nulls_node p q _ _ _ _ e readable)
  own_taken (Some Bits) e = own_node p _ q Bits e refl (bits_taken p q _ _ _ _ e readable (shows (nullable_by p.format (Some Bits) e tt)) held (room_values p q (Some Bits) _ e large.values) (bits_there p q.picks _ (values_by (Some Bits) e)))
  own_taken (Some Fixed) e = own_node p _ q Fixed e refl (fixed_taken p q _ _ _ _ e readable (shows (nullable_by p.format (Some Fixed) e tt)) held (room_values p q (Some Fixed) _ e large.values) (rows_there p.width p.values p q.picks _ (values_by (Some Fixed) e)))
  own_taken (Some (Text z)) e = own_node p _ q (Text z) e refl (text_taken z p q _ _ _ _ e readable (shows (nullable_by p.format (Some (Text z)) e tt)) held (room_offsets p q (Some (Text z)) _ e large.offsets) (offsets_by (Some (Text z)) e) (room_values p q (Some (Text z)) _ e large.values) (values_by (Some (Text z)) e))
  own_taken (Some Struct) e = own_node p _ q Struct e refl (struct_taken p q _ _ _ _ e readable (shows (nullable_by p.format (Some Struct) e tt)) held)
  own_taken (Some (Lists z)) e = own_node p _ q (Lists z) e refl (list_taken z p q _ _ _ _ e readable (shows (nullable_by p.format (Some (Lists z)) e tt)) held (room_offsets p q (Some (Lists z)) _ e large.offsets) (offsets_by (Some (Lists z)) e))
  own_taken (Some FixedList) e = own_node p _ q FixedList e refl (fixed_list_taken p q _ _ _ _ e readable (shows (nullable_by p.format (Some FixedList) e tt)) held)
  own_taken (Some TextView) e = view_node p _ q TextView e refl (text_view_taken p q _ _ _ _ e readable (shows (nullable_by p.format (Some TextView) e tt)) held (room_values p q (Some TextView) _ e large.values) (rows_there 16 p.values p q.picks _ (values_by (Some TextView) e)))
  own_taken (Some (ListView z)) e = view_node p _ q (ListView z) e refl (list_view_taken z p q _ _ _ _ e readable (shows (nullable_by p.format (Some (ListView z)) e tt)) held (room_offsets p q (Some (ListView z)) _ e large.offsets) (room_sizes p q (Some (ListView z)) _ e large.sizes) (rows_there _ p.offsets p q.picks _ (offsets_by (Some (ListView z)) e)) (rows_there _ p.sizes p q.picks _ (sizes_by (Some (ListView z)) e)))
  own_taken (Some Union) e = own_node p _ q Union e refl (union_node p q _ _ _ _ e readable (room_values p q (Some Union) _ e large.values) (room_sizes p q (Some Union) _ e large.sizes) (values_by (Some Union) e) (sizes_by (Some Union) e))
  own_taken (Some DenseUnion) e = own_node p _ q DenseUnion e refl (dense_node p q _ _ _ _ e readable (room_values p q (Some DenseUnion) _ e large.values) (room_sizes p q (Some DenseUnion) _ e large.sizes) (room_offsets p q (Some DenseUnion) _ e large.offsets) (values_by (Some DenseUnion) e) (sizes_by (Some DenseUnion) e) (offsets_by (Some DenseUnion) e))

-- a room that has the bytes of rows at picks has the rows
pub bytes_taken : (p : Part) (q : Picking) (r : Room) (b : Bool) → q.kept ≡ b → (b ≡ false → IsReadable p q.picks) → has_room (need_of p q) r ≡ true → (b ≡ false → IsNullable p.format → shows_valid p q ≡ false → ShowsRows p q.picks []) → (b ≡ false → AreBytes p q r.valid.now r.offsets.now r.values.now r.sizes.now) → IsRoomTaken p q r
bytes_taken p q r true e readable room none bytes = subst (λ (b : Bool). TakenAs b (keeps p.format) p (cond b p (own_part p q r)) q) (sym e) refl
bytes_taken p q r false e readable room none bytes =
    let own : has_room (own_need p q) r ≡ true = ap (λ (b : Bool). has_room (cond b (kept_need p) (own_need p q)) r) (sym e) ∙ room in
    subst (λ (b : Bool). TakenAs b (keeps p.format) p (cond b p (own_part p q r)) q) (sym e) (own_taken p q r (readable refl) own (none refl) (bytes refl) p.format refl)
