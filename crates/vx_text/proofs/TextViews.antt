-- Views of texts that stand one after another are sound, and stand for these texts.
use Rattle.std.proofs.Common.{◌≡◌, ℕ, zero, suc, ◌+◌, ◌-◌, ◌<◌, ◌≤◌, Bool, true, false, List, [], ◌∷◌, map, length, get_or, take, drop, slice_range, Option, None, Some, refl, sym, ap, ap₂, subst, ◌∙◌, arith}
use Rattle.std.specs.Prelude.{ℤ, nat_le, if◌then◌else◌, replicate, IfSome}
use Rattle.std.specs.Str.{bytes_eq}
use Rattle.std.specs.List.{All, list_all}
use Rattle.std.proofs.lemmas.Bool.Decides.{nat_tests}
use Rattle.std.proofs.lemmas.List.{length-map, take_all, take-take, take-append-le}
use Rattle.std.proofs.lemmas.Slice.Eq.{bytes_eq-Decides}
use Rattle.std.proofs.lemmas.List.Elements.{All-tail}
use Rattle.vx_types.specs.Text.{inline_text, is_view, view_of, view_text}
use Rattle.vx_types.specs.declared.text.BinaryView.{BinaryView}
use Rattle.vx_types.specs.declared.text.BinaryView.TheVariants.{Inlined, Ref}
use Rattle.vx_types.specs.declared.text.TextKind.{TextKind}
use Rattle.vx_types.specs.declared.ptype.PType.{PType}
use Rattle.vx_take.specs.Picks.{at, item_at}
use Rattle.vx_offsets.specs.Offsets.{are_offsets, lists_at, offset_positions, record_numbers}
use Rattle.vx_positions.specs.Positions.{position_of}
use Rattle.vx_offsets.proofs.Ascending.{length-numbers, offset_ascends, offset_within}
use Rattle.vx_model.specs.Numbers.{integers_of}
use Rattle.vx_model.specs.Valid.{Valid, is_fitting}
use Rattle.vx_model.specs.VarBin.{VarBinParts, varbin_fault, varbin_texts}
use Rattle.vx_model.specs.VarBinView.{views_fault}
use Rattle.vx_model.proofs.Items.{length-slice_range}
use Rattle.vx_model.proofs.Texts.{get_or-lists_at, offsets-varbin}
use Rattle.vx_text.specs.Views.{text_view}
use Rattle.vx_text.proofs.KeptViews.{sound-as}
use Rattle.vx_offsets.proofs.ReadOffsets.{climb}
use Rattle.std.proofs.lemmas.Bool.{and_from}

same_bytes : (xs ys : List ℕ) → xs ≡ ys → bytes_eq xs ys ≡ true
same_bytes xs ys h = (bytes_eq-Decides xs ys).1 h

-- ---- one text of a buffer

module _ (bytes : List ℕ) (s e : ℕ) (o : s ≤ e) (l : e ≤ length bytes) where
  text : List ℕ
  text = slice_range bytes s e

  long : length (slice_range bytes s e) ≡ e - s
  long = length-slice_range bytes s e o l

  begins : nat_le (length (slice_range bytes s e)) 12 ≡ false → slice_range bytes s (s + 4) ≡ take 4 (slice_range bytes s e)
  begins h =
      let many : 12 < e - s = grind (arith, nat_tests, long) in
      let four : s + 4 - s ≡ 4 = omega arith in
      ap (λ k. take k (drop s bytes)) four ∙ sym (take-take 4 (e - s) (drop s bytes) (omega (arith, many)))

  sound_by : (t : Bool) → nat_le (length (slice_range bytes s e)) 12 ≡ t → is_view (bytes ∷ []) (if t then Inlined (inline_text (slice_range bytes s e)) else Ref (length (slice_range bytes s e)) (take 4 (slice_range bytes s e)) 0 s) ≡ true
  sound_by true h = h
  sound_by false h =
      and_from _ _ (grind (arith, nat_tests, h))
      (and_from _ _ (grind (arith, nat_tests, long, o, l)) (same_bytes _ _ (begins h)))

  pub sound_view : is_view (bytes ∷ []) (view_of (slice_range bytes s e) 0 s) ≡ true
  sound_view = sound_by _ refl

  stands_by : (t : Bool) → nat_le (length (slice_range bytes s e)) 12 ≡ t → view_text (bytes ∷ []) (if t then Inlined (inline_text (slice_range bytes s e)) else Ref (length (slice_range bytes s e)) (take 4 (slice_range bytes s e)) 0 s) ≡ slice_range bytes s e
  stands_by true h =
      take-append-le (length (slice_range bytes s e)) (slice_range bytes s e) _ (omega arith) ∙ take_all (length (slice_range bytes s e)) (slice_range bytes s e) (omega arith)
  stands_by false h =
      let many : s + length (slice_range bytes s e) - s ≡ e - s = omega (arith, long) in
      ap (λ k. take k (drop s bytes)) many

  pub view_stands : view_text (bytes ∷ []) (view_of (slice_range bytes s e) 0 s) ≡ slice_range bytes s e
  view_stands = stands_by _ refl

-- ---- a whole buffer

whole : (bytes : List ℕ) → slice_range bytes 0 (length bytes) ≡ bytes
whole bytes = take_all (length bytes - 0) bytes (omega arith)

sound-whole : (bytes : List ℕ) → is_view (bytes ∷ []) (view_of bytes 0 0) ≡ true
sound-whole bytes =
    subst (λ b. is_view (bytes ∷ []) (view_of b 0 0) ≡ true) (whole bytes) (sound_view bytes 0 (length bytes) (omega arith) (omega arith))

text-whole : (bytes : List ℕ) → view_text (bytes ∷ []) (view_of bytes 0 0) ≡ bytes
text-whole bytes =
    subst (λ b. view_text (bytes ∷ []) (view_of b 0 0) ≡ b) (whole bytes) (view_stands bytes 0 (length bytes) (omega arith) (omega arith))

-- the same view in each place
all-alike : {X : Type 0} (p : X → Bool) (n : ℕ) (x : X) → p x ≡ true → list_all p (replicate n x) ≡ true
all-alike p zero x h = refl
all-alike p (suc n) x h = and_from (p x) _ h (all-alike p n x h)

map-alike : {X Y : Type 0} (f : X → Y) (n : ℕ) (x : X) (y : Y) → f x ≡ y → map f (replicate n x) ≡ replicate n y
map-alike f zero x y h = refl
map-alike f (suc n) x y h = ap₂ ◌∷◌ h (map-alike f n x y h)

pub sound-alike : (n : ℕ) (bytes : List ℕ) → list_all (is_view (bytes ∷ [])) (replicate n (view_of bytes 0 0)) ≡ true
sound-alike n bytes = all-alike (is_view (bytes ∷ [])) n (view_of bytes 0 0) (sound-whole bytes)

pub texts-alike : (n : ℕ) (bytes : List ℕ) → map (view_text (bytes ∷ [])) (replicate n (view_of bytes 0 0)) ≡ replicate n bytes
texts-alike n bytes = map-alike (view_text (bytes ∷ [])) n (view_of bytes 0 0) bytes (text-whole bytes)

-- ---- texts between offsets

module _ (bytes : List ℕ) (zs : List ℤ) (are : are_offsets zs (length bytes) ≡ true) where
  -- none is past the last
  below_last : (i : ℕ) → i < length zs → get_or (offset_positions zs) i 0 ≤ get_or (offset_positions zs) (length zs - 1) 0
  below_last i l = climb (length bytes) zs are (length zs - 1 - i) i (length zs - 1) (omega (arith, l)) (omega (arith, l))

  sound-pick : (pick : Option ℕ) → IfSome pick (λ row. row + 1 < length zs) → is_view (bytes ∷ []) (text_view (offset_positions zs) bytes pick) ≡ true
  sound-pick None h = refl
  sound-pick (Some i) h =
      sound_view bytes (get_or (offset_positions zs) i 0) (get_or (offset_positions zs) (i + 1) 0) (offset_ascends (length bytes) zs i are h) (offset_within (length bytes) zs (i + 1) are h)

  text-pick : (pick : Option ℕ) → IfSome pick (λ row. row + 1 < length zs) → view_text (bytes ∷ []) (text_view (offset_positions zs) bytes pick) ≡ item_at [] (lists_at (offset_positions zs) bytes) pick
  text-pick None h = refl
  text-pick (Some i) h =
      view_stands bytes (get_or (offset_positions zs) i 0) (get_or (offset_positions zs) (i + 1) 0) (offset_ascends (length bytes) zs i are h) (offset_within (length bytes) zs (i + 1) are h)
      ∙ sym (get_or-lists_at (offset_positions zs) bytes i (omega (arith, h, length-map zs position_of)))

  pub sound-picks : (picks : List (Option ℕ)) → All (λ pick. IfSome pick (λ row. row + 1 < length zs)) picks → list_all (is_view (bytes ∷ [])) (map (text_view (offset_positions zs) bytes) picks) ≡ true
  sound-picks [] h = refl
  sound-picks (pick ∷ picks) h =
      and_from _ _ (sound-pick pick (h 0 None (omega arith))) (sound-picks picks (All-tail (λ (x : Option ℕ). IfSome x (λ row. row + 1 < length zs)) pick picks h))

  pub texts-picks : (picks : List (Option ℕ)) → All (λ pick. IfSome pick (λ row. row + 1 < length zs)) picks → map (view_text (bytes ∷ [])) (map (text_view (offset_positions zs) bytes) picks) ≡ at [] (lists_at (offset_positions zs) bytes) picks
  texts-picks [] h = refl
  texts-picks (pick ∷ picks) h =
      ap₂ ◌∷◌ (text-pick pick (h 0 None (omega arith))) (texts-picks picks (All-tail (λ (x : Option ℕ). IfSome x (λ row. row + 1 < length zs)) pick picks h))

-- views of a column's texts at picks, and its bytes as their one buffer
module _ (p : VarBinParts) (picks : List (Option ℕ)) (views : List BinaryView) (buffers : List (List ℕ)) (sound : varbin_fault p ≡ None) (rows : All (λ pick. IfSome pick (λ row. row + 1 < length (integers_of p.offsets))) picks) (is : views ≡ map (text_view (offset_positions (integers_of p.offsets)) p.bytes) picks) (same : buffers ≡ p.bytes ∷ []) where
  pub sound-taken : (k : TextKind) (v : Valid) → is_fitting v (length picks) ≡ true → views_fault (record { kind = k; views = views; buffers = buffers; valid = v }) ≡ None
  sound-taken k v fits =
      let zs = integers_of p.offsets in
      sound-as k views (map (text_view (offset_positions zs) p.bytes) picks) buffers (p.bytes ∷ []) v is same
      (ap (is_fitting v) (length-map picks (text_view (offset_positions zs) p.bytes)) ∙ fits)
      (sound-picks p.bytes zs (offsets-varbin p sound) picks rows)

  pub texts-taken : map (view_text buffers) views ≡ at [] (varbin_texts p).texts picks
  texts-taken =
      ap₂ (λ (x : List (List ℕ)) (l : List BinaryView). map (view_text x) l) same is
      ∙ texts-picks p.bytes (integers_of p.offsets) (offsets-varbin p sound) picks rows

-- no text ends past the last offset
pub ends_near : (bytes : List ℕ) (p : PType) (xs : List (List ℕ)) (row k : ℕ) → are_offsets (record_numbers p xs) (length bytes) ≡ true → get_or (offset_positions (record_numbers p xs)) (length xs - 1) 0 ≤ k → row + 1 < length xs → get_or (offset_positions (record_numbers p xs)) (row + 1) 0 ≤ k
ends_near bytes p xs row k are near l =
    let zs = record_numbers p xs in
    let last : get_or (offset_positions zs) (length zs - 1) 0 ≤ k =
    subst (λ m. get_or (offset_positions zs) (m - 1) 0 ≤ k) (sym (length-numbers p xs)) near in
    omega (arith, last, below_last bytes zs are (row + 1) (omega (arith, l, length-numbers p xs)))
