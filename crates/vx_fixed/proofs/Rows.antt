-- Rows written one after another.
use Rattle.std.proofs.Common.{◌≡◌, ℕ, zero, suc, ◌+◌, ◌-◌, ◌*◌, ◌^◌, ◌<◌, ◌≤◌, Bool, true, false, ℤ, pos, negsuc, bit_and, get_or, List, [], ◌∷◌, ◌++◌, length, take, drop, refl, sym, ap, ap₂, ◌∙◌, subst, arith, append_assoc, append-nil, length-append}
use Rattle.std.specs.List.{All, range_with_len}
use Rattle.std.proofs.lemmas.List.{drop-drop, drop_at, flat_map_more, get_or-append-add, length-drop, length-take-le, take-append-drop, take_at}
use Rattle.std.proofs.lemmas.List.Elements.{All-get_or}
use Rattle.std.proofs.lemmas.Bool.{ltb-true}
use Rattle.std.proofs.lemmas.Nat.{mul-le}
use Rattle.std.proofs.lemmas.Grind.{flat_map-append}
use Rattle.std.proofs.lemmas.List.FromFn.{get_or-range_with_len, length-range_with_len}
use Rattle.std.proofs.Math.Nat.{add-mul, mul-suc, suc-mul}
use Rattle.std.proofs.Math.Seq.{take-add}
use lib.Count.{count_trailing_zeros}
use Rattle.vx_bits.specs.Words.{word_at, word_bits}
use Rattle.vx_bits.proofs.Cuts.{length_of_cut}
use Rattle.vx_mask.specs.Positions.{positions, set_of}
use Rattle.vx_mask.proofs.LowestBit.{lowest_position}
use Rattle.vx_filter.proofs.Moves.{full_word_places}
use Rattle.vx_mask.proofs.PositionLists.{length-positions, set_below}
use Rattle.vx_bits.proofs.WordBits.{true_count_of-word_bits}
use Rattle.std.specs.Int.RustNames.{count_ones}
use Rattle.vx_mask.proofs.WordPositions.{word_pushed}
use Rattle.vx_positions.specs.Positions.{is_position, position_of}
use Rattle.vx_fixed.specs.Rows.{ArePut, row, rows_at}

pub one_more : (k w : ℕ) → (k + 1) * w ≡ k * w + w
one_more k w = let e : k + 1 ≡ suc k = omega arith in ap (λ n. n * w) e ∙ suc-mul k w

pub none_put : (w : ℕ) (src : List ℕ) (from : ℕ) (old : List ℕ) → ArePut w src from [] old old
unfolding rows_at
none_put w src from old =
    let none : 0 ≡ 0 * w = omega arith in
    record { written = ap (λ k. drop k old) none; whole = none }

pub rows_more : (w : ℕ) (src : List ℕ) (from : ℕ) (places : List ℕ) (p : ℕ) → rows_at w src from (places ++ p ∷ []) ≡ rows_at w src from places ++ row w src (from + p)
unfolding rows_at
rows_more w src from places p = sym (flat_map_more (λ (q : ℕ). row w src (from + q)) [] places p)

rows_both : (w : ℕ) (src : List ℕ) (from : ℕ) (xs ys : List ℕ) → rows_at w src from (xs ++ ys) ≡ rows_at w src from xs ++ rows_at w src from ys
unfolding rows_at
rows_both w src from xs ys = flat_map-append (λ (q : ℕ). row w src (from + q)) xs ys

-- the row at one place more is written behind them
pub row_put : (w : ℕ) (src : List ℕ) (from : ℕ) (places old out : List ℕ) (n p : ℕ) → n ≡ length places → (from + p) * w + w ≤ length src → ArePut w src from places old out
    → ArePut w src from (places ++ p ∷ []) old (take (n * w) out ++ (take w (drop ((from + p) * w) src) ++ drop (n * w + w) out))
row_put w src from places old out n p count there put =
    let rows = rows_at w src from places in
    let new = row w src (from + p) in
    let at : length places * w ≡ n * w = ap (λ k. k * w) (sym count) in
    let long : length rows ≡ n * w = put.whole ∙ at in
    let is : out ≡ rows ++ drop (n * w) old = put.written ∙ ap (λ k. rows ++ drop k old) at in
    let front : take (n * w) out ≡ rows = ap (take (n * w)) is ∙ take_at rows (drop (n * w) old) (n * w) long in
    let back : drop (n * w + w) out ≡ drop (n * w + w) old =
    sym (drop-drop w (n * w) out) ∙ ap (drop w) (ap (drop (n * w)) is ∙ drop_at rows (drop (n * w) old) (n * w) long) ∙ drop-drop w (n * w) old in
    let many : length (places ++ p ∷ []) * w ≡ n * w + w = ap (λ k. k * w) (length-append places (p ∷ []) ∙ ap (λ k. k + 1) (sym count)) ∙ one_more n w in
    record {
      written = ap₂ (λ (a b : List ℕ). a ++ (new ++ b)) front back ∙ sym (append_assoc rows new (drop (n * w + w) old))
          ∙ ap₂ (λ (l : List ℕ) (k : ℕ). l ++ drop k old) (sym (rows_more w src from places p)) (sym many);
      whole = ap length (rows_more w src from places p) ∙ length-append rows new ∙ ap₂ ◌+◌ long (length_of_cut src ((from + p) * w) w there) ∙ sym many;
    }

-- ---- a range

pub range_rows : (w : ℕ) (src : List ℕ) (from start count : ℕ) → rows_at w src from (range_with_len start count) ≡ take (count * w) (drop ((from + start) * w) src)
unfolding rows_at
range_rows w src from start zero = let none : 0 ≡ 0 * w = omega arith in ap (λ k. take k (drop ((from + start) * w) src)) none
range_rows w src from start (suc n) =
    let at = (from + start) * w in
    let next : (from + (start + 1)) * w ≡ at + w = let e : from + (start + 1) ≡ from + start + 1 = omega arith in ap (λ k. k * w) e ∙ one_more (from + start) w in
    let wide : suc n * w ≡ w + n * w = omega (arith, suc-mul n w) in
    ap (λ l. row w src (from + start) ++ l) (range_rows w src from (start + 1) n ∙ ap (λ k. take (n * w) (drop k src)) next ∙ ap (take (n * w)) (sym (drop-drop w at src)))
    ∙ sym (take-add w (n * w) (drop at src)) ∙ ap (λ k. take k (drop at src)) (sym wide)

-- the rows of a range are written behind others
pub range_put : (w : ℕ) (src : List ℕ) (from : ℕ) (places old out : List ℕ) (n start count : ℕ) → n ≡ length places → (from + start) * w + count * w ≤ length src → ArePut w src from places old out
    → ArePut w src from (places ++ range_with_len start count) old (take (n * w) out ++ (take (count * w) (drop ((from + start) * w) src) ++ drop (n * w + count * w) out))
range_put w src from places old out n start count len there put =
    let rows = rows_at w src from places in
    let new = take (count * w) (drop ((from + start) * w) src) in
    let at : length places * w ≡ n * w = ap (λ k. k * w) (sym len) in
    let long : length rows ≡ n * w = put.whole ∙ at in
    let is : out ≡ rows ++ drop (n * w) old = put.written ∙ ap (λ k. rows ++ drop k old) at in
    let front : take (n * w) out ≡ rows = ap (take (n * w)) is ∙ take_at rows (drop (n * w) old) (n * w) long in
    let back : drop (n * w + count * w) out ≡ drop (n * w + count * w) old =
    sym (drop-drop (count * w) (n * w) out) ∙ ap (drop (count * w)) (ap (drop (n * w)) is ∙ drop_at rows (drop (n * w) old) (n * w) long) ∙ drop-drop (count * w) (n * w) old in
    let many : length (places ++ range_with_len start count) * w ≡ n * w + count * w =
    ap (λ k. k * w) (length-append places (range_with_len start count) ∙ ap₂ ◌+◌ (sym len) (length-range_with_len start count)) ∙ add-mul n count w in
    let more : rows_at w src from (places ++ range_with_len start count) ≡ rows ++ new = rows_both w src from places (range_with_len start count) ∙ ap (λ l. rows ++ l) (range_rows w src from start count) in
    record {
      written = ap₂ (λ (a b : List ℕ). a ++ (new ++ b)) front back ∙ sym (append_assoc rows new (drop (n * w + count * w) old))
          ∙ ap₂ (λ (l : List ℕ) (k : ℕ). l ++ drop k old) (sym more) (sym many);
      whole = ap length more ∙ length-append rows new ∙ ap₂ ◌+◌ long (length_of_cut src ((from + start) * w) (count * w) there) ∙ sym many;
    }

-- ---- a loop over the places of a word

-- of all places those that are left are to come, and the rows at the others stand behind the first ones
pub record IsPutting (w : ℕ) (src : List ℕ) (from : ℕ) (initial out : List ℕ) (kept next : ℕ) (all left : List ℕ) : Type 0 where
  pub more : List ℕ
  pub count : kept + length more ≡ next
  pub whole : more ++ left ≡ all
  pub put : (old places : List ℕ) → length places ≡ kept → ArePut w src from places old initial → ArePut w src from (places ++ more) old out
  pub len : length out ≡ length initial

pub putting_none : (w : ℕ) (src : List ℕ) (from : ℕ) (out : List ℕ) (kept : ℕ) (all : List ℕ) → IsPutting w src from out out kept kept all all
putting_none w src from out kept all = record {
  more = [];
  count = omega arith;
  whole = refl;
  put = λ old places count p. subst (λ (l : List ℕ). ArePut w src from l old out) (sym (append-nil places)) p;
  len = refl;
}

pub last_All : {X : Type 0} (P : X → Type 0) (xs ys : List X) (x : X) → All P (xs ++ x ∷ ys) → P x
last_All P xs ys x h =
    let there : length xs + 0 < length (xs ++ x ∷ ys) = omega (arith, length-append xs (x ∷ ys)) in
    subst P (get_or-append-add xs (x ∷ ys) 0 x) (All-get_or P (xs ++ x ∷ ys) (length xs + 0) x there h)

-- so many rows of some bytes are no more than the bytes
pub rows_in : (w n len : ℕ) → 0 < w → n * w ≤ len → n ≤ len
rows_in zero n len h k = absurd (omega arith)
rows_in (suc v) n len h k = omega (arith, mul-suc n v)

pub times_mono : (a b w : ℕ) → a ≤ b → a * w ≤ b * w
times_mono a b w h = mul-le a w b w h (omega arith)

pub putting_more : (w : ℕ) (src : List ℕ) (from : ℕ) (initial out : List ℕ) (kept next p : ℕ) (all left rest : List ℕ) → IsPutting w src from initial out kept next all left → left ≡ p ∷ rest
    → (from + p) * w + w ≤ length src → next * w + w ≤ length initial
    → IsPutting w src from initial (take (next * w) out ++ (take w (drop ((from + p) * w) src) ++ drop (next * w + w) out)) kept (next + 1) all rest
putting_more w src from initial out kept next p all left rest v e there room = record {
  more = v.more ++ p ∷ [];
  count = omega (arith, v.count, length-append v.more (p ∷ []));
  whole = append_assoc v.more (p ∷ []) rest ∙ ap (λ l. v.more ++ l) (sym e) ∙ v.whole;
  put = λ old places count q.
      let many : next ≡ length (places ++ v.more) = sym v.count ∙ ap (λ k. k + length v.more) (sym count) ∙ sym (length-append places v.more) in
      subst (λ (l : List ℕ). ArePut w src from l old (take (next * w) out ++ (take w (drop ((from + p) * w) src) ++ drop (next * w + w) out))) (append_assoc places v.more (p ∷ []))
      (row_put w src from (places ++ v.more) old out next p many there (v.put old places count q));
  len = put_len out src (next * w) ((from + p) * w) w (omega (arith, v.len)) there ∙ v.len;
}
  where
    put_len : (out src : List ℕ) (at from w : ℕ) → at + w ≤ length out → from + w ≤ length src → length (take at out ++ (take w (drop from src) ++ drop (at + w) out)) ≡ length out
    put_len out src at from w h there =
        length-append (take at out) _ ∙ ap₂ ◌+◌ (length-take-le at out (omega arith)) (length-append (take w (drop from src)) (drop (at + w) out) ∙ ap₂ ◌+◌ (length_of_cut src from w there) (length-drop (at + w) out)) ∙ omega arith

-- the row at the lowest bit that is left is there
pub next_there : (w : ℕ) (src : List ℕ) (from base : ℕ) (initial out : List ℕ) (kept next left : ℕ) (all : List ℕ) → 0 < left → left < 2 ^ 64 → All (λ p. (from + p + 1) * w ≤ length src) all
    → IsPutting w src from initial out kept next all (positions base (word_bits left 64)) → (from + (base + count_trailing_zeros 64 left) + 1) * w ≤ length src
next_there w src from base initial out kept next left all some fits h v =
    let P : ℕ → Type 0 = λ p. (from + p + 1) * w ≤ length src in
    let rest = positions base (word_bits (bit_and left (left - 1)) 64) in
    let whole : all ≡ v.more ++ (base + count_trailing_zeros 64 left) ∷ rest = sym v.whole ∙ ap (λ l. v.more ++ l) (lowest_position base left some fits) in
    last_All P v.more rest (base + count_trailing_zeros 64 left) (subst (All P) whole h)

length_taken : {X : Type 0} (n : ℕ) (xs : List X) → length (take n xs) ≤ length xs
length_taken n xs = omega (arith, ap length (take-append-drop n xs), length-append (take n xs) (drop n xs))

-- the rows at a word's bits are there
pub word_there : (w : ℕ) (src : List ℕ) (from : ℕ) (bits : List Bool) (i word : ℕ) → 64 * i ≤ length bits → word ≡ word_at bits i → (from + length bits) * w ≤ length src
    → All (λ p. (from + p + 1) * w ≤ length src) (positions (64 * i) (word_bits word 64))
word_there w src from bits i word h e there = λ k d low.
    let before = set_of (take (64 * i) bits) in
    let own = positions (64 * i) (word_bits word 64) in
    let front = take (64 * (i + 1)) bits in
    let all : before ++ own ≡ set_of front = word_pushed bits before (before ++ own) i word h e refl refl in
    let at : get_or own k d ≡ get_or (set_of front) (length before + k) d = sym (get_or-append-add before own k d) ∙ ap (λ l. get_or l (length before + k) d) all in
    let inside : length before + k < length (set_of front) = omega (arith, ap length all, length-append before own) in
    let below : get_or own k d < length front = subst (λ (p : ℕ). p < length front) (sym at) (set_below front (length front) refl (length before + k) d inside) in
    omega (arith, times_mono (from + get_or own k d + 1) (from + length bits) w (omega (arith, below, length_taken (64 * (i + 1)) bits)))

-- ---- numbers

pub position_below : (n : ℕ) (z : ℤ) → is_position n z ≡ true → position_of z < n
position_below n (pos i) h = ltb-true i n h
position_below n (negsuc i) h = absurd (let f : false ≡ true = h in cc)

-- the rows of a full word are there
pub full_there : (w : ℕ) (src : List ℕ) (from base word : ℕ) → word ≡ 2 ^ 64 - 1 → All (λ p. (from + p + 1) * w ≤ length src) (positions base (word_bits word 64)) → (from + base + 64) * w ≤ length src
full_there w src from base word e h =
    let places = full_word_places base word e in
    let low : 63 < length (positions base (word_bits word 64)) = omega (arith, ap length places, length-range_with_len base 64) in
    let at : get_or (positions base (word_bits word 64)) 63 0 ≡ base + 63 = ap (λ l. get_or l 63 0) places ∙ get_or-range_with_len base 64 63 0 (omega arith) in
    let same : from + get_or (positions base (word_bits word 64)) 63 0 + 1 ≡ from + base + 64 = omega (arith, at) in
    subst (λ (n : ℕ). n * w ≤ length src) same (h 63 0 low)

pub full_ones : (word : ℕ) → word ≡ 2 ^ 64 - 1 → count_ones word ≡ 64
full_ones word e =
    omega (arith, true_count_of-word_bits word 64 (omega (arith, e)), length-positions 0 (word_bits word 64), ap length (full_word_places 0 word e), length-range_with_len 0 64)
