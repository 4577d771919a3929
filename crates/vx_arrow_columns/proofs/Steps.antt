-- One more row, written or measured.
use Rattle.std.proofs.Common.{◌≡◌, ℕ, ◌+◌, ◌-◌, ◌*◌, ◌/◌, ◌%◌, ◌<◌, ◌≤◌, ◌≢◌, Bool, List, [], ◌++◌, length, get_or, set, take, drop, eqb, get_or-set_same, get_or-set_other, Option, Some, None, ap, ap₂, sym, ◌∙◌, refl, subst, inl, inr, arith}
use Rattle.std.specs.Prelude.{slice_range}
use Rattle.std.specs.Int.{bit_at}
use Rattle.std.specs.List.{flat_map}
use Rattle.std.specs.Option.{option_map}
use Rattle.std.proofs.lemmas.Nat.Bits.{bit_at-zero}
use Rattle.std.proofs.lemmas.Bool.{cases_eq, cases_lt}
use Rattle.std.proofs.lemmas.List.{append-nil, length-take-le, length-drop, take_all, take_more, flat_map_more}
use Rattle.std.proofs.Math.Nat.{mul-le-mul_right, add-mul, one-mul}
use Rattle.vx_arrow_image.specs.declared.format.Offsets.{Offsets}
use Rattle.vx_arrow_image.specs.Image.{Part, bit_of, offset_at}
use Rattle.vx_arrow_columns.specs.Picks.{items_len, pick_at, picks_of, place_of, row_len}
use Rattle.vx_arrow_columns.specs.Taken.{AreBits, AreCopied, AreOffsets, IsByteOf, row_text, texts_of}
use Rattle.vx_arrow_columns.specs.Written.{PutsBit, PutsOffset}
use Rattle.vx_arrow_columns.proofs.Bytes.{put_at, put_there, cut_before, cut_within, run_before, run_within}
use Rattle.vx_arrow_columns.proofs.Columns.{place_some}
use Rattle.vx_arrow_columns.proofs.Cuts.{len_more, len_all, len_within, len_zero}
use Rattle.vx_arrow_columns.proofs.PickReads.{get_picks, length_picks}

-- ---- the place of a pick

pub at_pick : (p : Part) (ps vs : List ℕ) (add k : ℕ) (o : Option ℕ) → k < length ps → o ≡ place_of p (pick_at ps vs add k) → place_of p (get_or (picks_of ps vs add) k None) ≡ o
at_pick p ps vs add k o h e = ap (place_of p) (get_picks ps vs add k h) ∙ sym e

pub same_some : (i j : ℕ) (o : Option ℕ) → o ≡ Some i → o ≡ Some j → i ≡ j
same_some i j o e f = cc

pub none_some : (i : ℕ) (o : Option ℕ) → o ≡ None → o ≡ Some i → ⊥
none_some i o e f = cc

-- ---- bits

pub no_bits : (p : Part) (q : List (Option ℕ)) (out : List ℕ) → AreBits p q 0 out
no_bits p q out = record { values = λ k i h e. absurd (omega arith) }

pub bits_kept : (p : Part) (q : List (Option ℕ)) (k : ℕ) (out new : List ℕ) → place_of p (get_or q k None) ≡ None → new ≡ out → AreBits p q k out → AreBits p q (k + 1) new
bits_kept p q k out new e same b = subst (λ (l : List ℕ). AreBits p q (k + 1) l) (sym same) (record {
  values = λ j i below f. elim (cases_eq j k) as (λ _. bit_of out j ≡ bit_of p.values i) [
    | inl here ↦ absurd (none_some i _ e (ap (λ (n : ℕ). place_of p (get_or q n None)) (sym here) ∙ f))
    | inr other ↦ b.values j i (omega arith) f
  ];
})

pub bits_put : (p : Part) (q : List (Option ℕ)) (k i : ℕ) (out mid new : List ℕ) (bit : Bool) → place_of p (get_or q k None) ≡ Some i → bit ≡ bit_of p.values i → new ≡ mid → PutsBit out mid k bit → AreBits p q k out → AreBits p q (k + 1) new
bits_put p q k i out mid new bit e g same put b = subst (λ (l : List ℕ). AreBits p q (k + 1) l) (sym same) (record {
  values = λ j n below f. elim (cases_eq j k) as (λ _. bit_of mid j ≡ bit_of p.values n) [
    | inl here ↦
        let there : i ≡ n = same_some i n _ e (ap (λ (m : ℕ). place_of p (get_or q m None)) (sym here) ∙ f) in
        ap (bit_of mid) here ∙ put.put ∙ g ∙ ap (bit_of p.values) there
    | inr other ↦ put.others j other ∙ b.values j n (omega arith) f
  ];
})

-- ---- values of a fixed width

-- the row of a pick is the place of a row that is there
pub row_place : (p : Part) (ps vs : List ℕ) (add k : ℕ) (o : Option ℕ) → k < length ps → o ≡ option_map (λ i. p.offset + i) (pick_at ps vs add k)
    → (n : ℕ) → place_of p (get_or (picks_of ps vs add) k None) ≡ Some n → o ≡ Some n
row_place p ps vs add k o h e n f =
    let at = place_some p (get_or (picks_of ps vs add) k None) n f in
    e ∙ ap (option_map (λ i. p.offset + i)) (sym (get_picks ps vs add k h) ∙ at.1.0) ∙ ap Some (sym at.1.1)

pub none_copied : (w : ℕ) (src : List ℕ) (p : Part) (q : List (Option ℕ)) (out : List ℕ) → AreCopied w src p q 0 out
none_copied w src p q out = record { values = λ k i h e. absurd (omega arith) }

pub copied_kept : (w : ℕ) (src : List ℕ) (p : Part) (q : List (Option ℕ)) (k : ℕ) (out new : List ℕ) → ((n : ℕ) → place_of p (get_or q k None) ≡ Some n → None ≡ Some n) → new ≡ out → AreCopied w src p q k out → AreCopied w src p q (k + 1) new
copied_kept w src p q k out new none same b = subst (λ (l : List ℕ). AreCopied w src p q (k + 1) l) (sym same) (record {
  values = λ j i below f. elim (cases_eq j k) as (λ _. take w (drop (j * w) out) ≡ take w (drop (i * w) src)) [
    | inl here ↦ absurd (none_some i None refl (none i (ap (λ (n : ℕ). place_of p (get_or q n None)) (sym here) ∙ f)))
    | inr other ↦ b.values j i (omega arith) f
  ];
})

pub next_place : (j k w : ℕ) → j < k → j * w + w ≤ k * w
next_place j k w h = let e : (j + 1) * w ≡ j * w + w = add-mul j 1 w ∙ ap (λ n. j * w + n) (one-mul w) in omega (arith, mul-le-mul_right {m = j + 1} {n = k} w (omega arith))

copied_some : (w : ℕ) (src : List ℕ) (p : Part) (q : List (Option ℕ)) (k i : ℕ) (out own : List ℕ) → ((n : ℕ) → place_of p (get_or q k None) ≡ Some n → Some i ≡ Some n) → own ≡ take w (drop (i * w) src) → length own ≡ w → k * w ≤ length out
    → AreCopied w src p q k out → AreCopied w src p q (k + 1) (put_at out own (k * w))
copied_some w src p q k i out own at g long room b = record {
  values = λ j n below f. elim (cases_eq j k) as (λ _. take w (drop (j * w) (put_at out own (k * w))) ≡ take w (drop (n * w) src)) [
    | inl same ↦
        let there : i ≡ n = same_some i n (Some i) refl (at n (ap (λ (m : ℕ). place_of p (get_or q m None)) (sym same) ∙ f)) in
        ap (λ m. take w (drop (m * w) (put_at out own (k * w)))) same
        ∙ ap (λ m. take m (drop (k * w) (put_at out own (k * w)))) (sym long)
        ∙ put_there out own (k * w) room
        ∙ g ∙ ap (λ m. take w (drop (m * w) src)) there
    | inr other ↦ cut_before out (own ++ drop (k * w + length own) out) (j * w) w (k * w) (next_place j k w (omega arith)) room ∙ b.values j n (omega arith) f
  ];
}

pub copied_put : (w : ℕ) (src : List ℕ) (p : Part) (q : List (Option ℕ)) (k i m : ℕ) (out new : List ℕ) → ((n : ℕ) → place_of p (get_or q k None) ≡ Some n → Some i ≡ Some n) → i < p.offset + p.len
    → m ≡ w → (p.offset + p.len) * w ≤ length src → k * w ≤ length out
    → new ≡ put_at out (take m (drop (i * w) src)) (k * w)
    → AreCopied w src p q k out → AreCopied w src p q (k + 1) new
copied_put w src p q k i m out new at low size long room eq b =
    let fits : i * w + w ≤ (p.offset + p.len) * w = next_place i (p.offset + p.len) w low in
    let own = take w (drop (i * w) src) in
    let wide : length own ≡ w = length-take-le w (drop (i * w) src) (omega (arith, length-drop (i * w) src)) in
    subst (λ (l : List ℕ). AreCopied w src p q (k + 1) l)
    (sym (eq ∙ ap (λ (n : ℕ). put_at out (take n (drop (i * w) src)) (k * w)) size))
    (copied_some w src p q k i out own at refl wide room b)

-- rows that stand one behind another, put at once
pub copied_run : (w : ℕ) (src : List ℕ) (p : Part) (q : List (Option ℕ)) (k i count : ℕ) (out new : List ℕ) → ((j n : ℕ) → j < count → place_of p (get_or q (k + j) None) ≡ Some n → n ≡ i + j)
    → k * w ≤ length out → take (k * w + count * w) new ≡ take (k * w) out ++ take (count * w) (drop (i * w) src) → AreCopied w src p q k out → AreCopied w src p q (k + count) new
copied_run w src p q k i count out new at room put b = record {
  values = λ j n below f. elim (cases_lt j k) as (λ _. take w (drop (j * w) new) ≡ take w (drop (n * w) src)) [
    | inl low ↦ run_before out new (take (count * w) (drop (i * w) src)) (j * w) w (k * w) (k * w + count * w) put (next_place j k w low) (omega arith) room ∙ b.values j n low f
    | inr high ↦
        let d = j - k in
        let here : j ≡ k + d = omega arith in
        let there : n ≡ i + d = at d n (omega arith) (ap (λ (m : ℕ). place_of p (get_or q m None)) (sym here) ∙ f) in
        let within : d * w + w ≤ count * w = next_place d count w (omega arith) in
        ap (λ m. take w (drop m new)) (ap (λ m. m * w) here ∙ add-mul k d w)
        ∙ run_within out new (take (count * w) (drop (i * w) src)) (d * w) w (k * w) (k * w + count * w) put (omega arith) room
        ∙ cut_within src (i * w) (d * w) w (count * w) within
        ∙ ap (λ m. take w (drop m src)) (sym (ap (λ m. m * w) there ∙ add-mul i d w))
  ];
}

-- ---- bytes of bits

pub no_byte : (f : ℕ → Bool) (first byte : ℕ) → byte ≡ 0 → IsByteOf f first 0 byte
no_byte f first byte e = record { bits = λ i h. absurd (omega arith); rest = λ i h. ap (λ n. bit_at n i) e ∙ bit_at-zero i }

pub byte_more : (f : ℕ → Bool) (first j old new : ℕ) (bit : Bool) → eqb (bit_at new j) 1 ≡ bit → bit ≡ f (first + j) → ((i : ℕ) → i ≢ j → bit_at new i ≡ bit_at old i) → IsByteOf f first j old → IsByteOf f first (j + 1) new
byte_more f first j old new bit set is others b = record {
  bits = λ i h. elim (cases_eq i j) as (λ _. eqb (bit_at new i) 1 ≡ f (first + i)) [
    | inl same ↦ ap (λ n. eqb (bit_at new n) 1) same ∙ set ∙ is ∙ ap (λ n. f (first + n)) (sym same)
    | inr other ↦ ap (λ n. eqb n 1) (others i other) ∙ b.bits i (omega arith)
  ];
  rest = λ i h. others i (λ e. omega arith) ∙ b.rest i (omega arith);
}

pub byte_put : (f : ℕ → Bool) (out new : List ℕ) (b n byte : ℕ) → ((k : ℕ) → k < 8 * b → bit_of out k ≡ f k) → IsByteOf f (8 * b) n byte → n ≤ 8 → b < length out → new ≡ set out b byte → (k : ℕ) → k < 8 * b + n → bit_of new k ≡ f k
byte_put f out new b n byte are own few room eq k h =
    ap (λ (l : List ℕ). bit_of l k) eq
    ∙ elim (cases_lt k (8 * b)) as (λ _. bit_of (set out b byte) k ≡ f k) [
      | inl low ↦ ap (λ y. eqb (bit_at y (k % 8)) 1) (get_or-set_other out b (k / 8) byte 0 (λ e. omega arith)) ∙ are k low
      | inr high ↦
          let here : k / 8 ≡ b = omega arith in
          let at : k % 8 ≡ k - 8 * b = omega arith in
          ap (λ m. eqb (bit_at (get_or (set out b byte) m 0) (k % 8)) 1) here
          ∙ ap (λ y. eqb (bit_at y (k % 8)) 1) (get_or-set_same out b byte 0 room)
          ∙ ap (λ m. eqb (bit_at byte m) 1) at ∙ own.bits (k - 8 * b) (omega arith) ∙ ap f (omega arith)
    ]

-- ---- offsets

-- `at` items are those of the first k rows, and the offsets say so
pub record OffsetsTo (z : Offsets) (p : Part) (q : List (Option ℕ)) (k at : ℕ) (out : List ℕ) : Type 0 where
  pub len : at ≡ items_len z p (take k q)
  pub are : AreOffsets z p q k out

pub first_offset : (z : Offsets) (p : Part) (q : List (Option ℕ)) (at : ℕ) (old out : List ℕ) → PutsOffset z old out 0 at → at ≡ 0 → OffsetsTo z p q 0 at out
first_offset z p q at old out put e = record {
  len = e ∙ sym (len_zero z p q);
  are = record { ends = λ k h. let first : k ≡ 0 = omega arith in ap (offset_at z out) first ∙ put.put ∙ e ∙ sym (len_zero z p q) ∙ ap (λ n. items_len z p (take n q)) (sym first) };
}

pub next_len : (z : Offsets) (p : Part) (q : List (Option ℕ)) (k at new : ℕ) (o : Option ℕ) → k < length q → place_of p (get_or q k None) ≡ o → at ≡ items_len z p (take k q) → new ≡ at + row_len z p o → new ≡ items_len z p (take (k + 1) q)
next_len z p q k at new o h there len step = step ∙ ap₂ ◌+◌ len (ap (row_len z p) (sym there)) ∙ sym (len_more z p q k h)

pub next_offset : (z : Offsets) (p : Part) (q : List (Option ℕ)) (k at new : ℕ) (o : Option ℕ) (old out : List ℕ) → k < length q → place_of p (get_or q k None) ≡ o → new ≡ at + row_len z p o → PutsOffset z old out (k + 1) new
    → OffsetsTo z p q k at old → OffsetsTo z p q (k + 1) new out
next_offset z p q k at new o old out h there step put to =
    let len = next_len z p q k at new o h there to.len step in
    record {
      len = len;
      are = record {
        ends = λ j below. elim (cases_eq j (k + 1)) as (λ _. offset_at z out j ≡ items_len z p (take j q)) [
          | inl e ↦ ap (offset_at z out) e ∙ put.put ∙ len ∙ ap (λ n. items_len z p (take n q)) (sym e)
          | inr other ↦ put.before j (omega arith) ∙ to.are.ends j (omega arith)
        ];
      };
    }

pub row_some : (z : Offsets) (p : Part) (i s e at new : ℕ) → s ≡ offset_at z p.offsets i → e ≡ offset_at z p.offsets (i + 1) → new ≡ at + (e - s) → new ≡ at + row_len z p (Some i)
row_some z p i s e at new from to step = step ∙ ap (λ n. at + n) (ap₂ ◌-◌ to from)

-- the items of the rows up to one that is there are some of all
pub len_after : (z : Offsets) (p : Part) (ps vs : List ℕ) (add k i s e at new : ℕ) → k < length ps → Some i ≡ place_of p (pick_at ps vs add k) → s ≡ offset_at z p.offsets i → e ≡ offset_at z p.offsets (i + 1) → new ≡ at + (e - s) → at ≡ items_len z p (take k (picks_of ps vs add))
    → new ≤ items_len z p (picks_of ps vs add)
len_after z p ps vs add k i s e at new low there from to step was =
    let q = picks_of ps vs add in
    let few : k < length q = omega (arith, length_picks ps vs add) in
    let next = next_len z p q k at new (Some i) few (at_pick p ps vs add k (Some i) low there) was (row_some z p i s e at new from to step) in
    omega (arith, len_within z p q k few)

pub row_none : (z : Offsets) (p : Part) (at new : ℕ) → new ≡ at → new ≡ at + row_len z p None
row_none z p at new e = omega arith

-- ---- texts

-- the bytes of the first k texts are written
pub record TextsTo (z : Offsets) (p : Part) (q : List (Option ℕ)) (k at : ℕ) (out : List ℕ) : Type 0 where
  pub len : at ≡ items_len z p (take k q)
  pub are : take at out ≡ texts_of z p (take k q)

pub no_texts : (z : Offsets) (p : Part) (q : List (Option ℕ)) (at : ℕ) (out : List ℕ) → at ≡ 0 → TextsTo z p q 0 at out
unfolding texts_of
no_texts z p q at out e = record { len = e ∙ sym (len_zero z p q); are = ap (λ n. take n out) e }

texts_more : (z : Offsets) (p : Part) (q : List (Option ℕ)) (k : ℕ) → k < length q → texts_of z p (take (k + 1) q) ≡ texts_of z p (take k q) ++ row_text z p (place_of p (get_or q k None))
unfolding texts_of
texts_more z p q k h =
    let f = λ (o : Option ℕ). row_text z p (place_of p o) in
    ap (flat_map f) (take_more q k None h) ∙ sym (flat_map_more f [] (take k q) (get_or q k None))

pub text_put : (z : Offsets) (p : Part) (q : List (Option ℕ)) (k i at new s e m : ℕ) (old out : List ℕ) → k < length q → place_of p (get_or q k None) ≡ Some i
    → s ≡ offset_at z p.offsets i → e ≡ offset_at z p.offsets (i + 1) → m ≡ e - s → new ≡ at + m
    → take (at + m) out ≡ take at old ++ take m (drop s p.values) → TextsTo z p q k at old → TextsTo z p q (k + 1) new out
text_put z p q k i at new s e m old out h there from to size step put t =
    let cut : take m (drop s p.values) ≡ row_text z p (Some i) = ap (λ n. take n (drop s p.values)) size ∙ ap₂ (λ (a : ℕ) (b : ℕ). slice_range p.values a b) from to in
    record {
      len = next_len z p q k at new (Some i) h there t.len (row_some z p i s e at new from to (omega arith));
      are = ap (λ n. take n out) step ∙ put ∙ ap₂ ◌++◌ t.are (cut ∙ ap (row_text z p) (sym there)) ∙ sym (texts_more z p q k h);
    }

pub text_kept : (z : Offsets) (p : Part) (q : List (Option ℕ)) (k at new : ℕ) (old out : List ℕ) → k < length q → place_of p (get_or q k None) ≡ None → new ≡ at → out ≡ old
    → TextsTo z p q k at old → TextsTo z p q (k + 1) new out
text_kept z p q k at new old out h there step same t = record {
  len = next_len z p q k at new None h there t.len (row_none z p at new step);
  are = ap₂ (λ (n : ℕ) (l : List ℕ). take n l) step same ∙ t.are ∙ sym (append-nil (texts_of z p (take k q))) ∙ ap (λ (o : Option ℕ). texts_of z p (take k q) ++ row_text z p o) (sym there) ∙ sym (texts_more z p q k h);
}

pub all_texts : (z : Offsets) (p : Part) (q : List (Option ℕ)) (k at : ℕ) (out : List ℕ) → length q ≤ k → TextsTo z p q k at out → take (items_len z p q) out ≡ texts_of z p q
all_texts z p q k at out h t = ap (λ n. take n out) (sym (t.len ∙ len_all z p q k h)) ∙ t.are ∙ ap (texts_of z p) (take_all k q h)
