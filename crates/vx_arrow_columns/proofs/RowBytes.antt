-- The bytes of rows at picks, zeros under nulls and behind them.
use Rattle.std.proofs.Common.{◌≡◌, ℕ, ◌+◌, ◌-◌, ◌*◌, ◌/◌, ◌%◌, ◌<◌, ◌≤◌, Bool, true, false, cond, ltb, eqb, ◌&&◌, ◌||◌, List, [], length, get_or, set, take, drop, replicate, get_or-set_same, Option, Some, None, ap, sym, ◌∙◌, refl, subst, inl, inr, arith}
use Rattle.std.specs.Prelude.{is_some}
use Rattle.std.specs.Int.{bit_at}
use Rattle.std.proofs.lemmas.Bool.{cases_lt, lt-ltb, le-leb}
use Rattle.std.proofs.lemmas.Grind.{common_steps}
use Rattle.std.proofs.lemmas.List.{ext_get_or, get_or-drop, get_or-replicate, get_or-take, length-drop, length-replicate, length-take-le}
use Rattle.vx_arrow_image.specs.declared.format.Format.{Format}
use Rattle.vx_arrow_image.specs.Image.{Part, bit_of, is_valid}
use Rattle.vx_arrow_columns.specs.Bytes.{AreBitsOf, AreBytes, AreBytesOf, AreOffsetsOf, AreSizesOf, AreValuesOf, row_in}
use Rattle.vx_arrow_columns.specs.Picks.{Picking, bytes_for, has_bits, pick_at, picks_of, place_of, shows_by, shows_valid}
use Rattle.vx_arrow_columns.specs.Taken.{AreCopied, IsByteOf, ShowsRows}
use Rattle.vx_arrow_columns.proofs.PickReads.{get_picks, length_picks, shows_bit}
use Rattle.vx_arrow_columns.proofs.Steps.{byte_put, next_place}
use Rattle.vx_arrow_zeros.specs.Zeros.{ClearsRows, holds_bits}

-- ---- bits

above_false : (a b : ℕ) → b ≤ a → ltb a b ≡ false
above_false a b h = grind (arith, common_steps)

bits_of : (f : Option ℕ → Bool) (p : Part) (ps vs : List ℕ) (add : ℕ) (out : List ℕ) → ((k : ℕ) → k < length ps → bit_of out k ≡ f (place_of p (pick_at ps vs add k)))
    → ((k : ℕ) → length ps ≤ k → k < 8 * bytes_for (length ps) → bit_of out k ≡ false) → AreBitsOf f p (picks_of ps vs add) out
bits_of f p ps vs add out own rest =
    let q = picks_of ps vs add in
    let count = length_picks ps vs add in
    record {
      bits = λ j h. elim (cases_lt j (length ps)) [
        | inl low ↦
            own j low ∙ ap (λ (o : Option ℕ). f (place_of p o)) (sym (get_picks ps vs add j low))
            ∙ sym (ap (λ b. b && f (place_of p (get_or q j None))) (lt-ltb j (length q) (omega (arith, count))))
        | inr high ↦
            rest j high (omega (arith, count, h))
            ∙ sym (ap (λ b. b && f (place_of p (get_or q j None))) (above_false j (length q) (omega (arith, count))))
      ];
    }

-- bits that fill their bytes
pub bits_whole : (f : Option ℕ → Bool) (p : Part) (ps vs : List ℕ) (add : ℕ) (out : List ℕ) (b : ℕ) → length ps ≤ 8 * b → length ps % 8 ≡ 0
    → ((k : ℕ) → k < 8 * b → bit_of out k ≡ f (place_of p (pick_at ps vs add k))) → AreBitsOf f p (picks_of ps vs add) out
bits_whole f p ps vs add out b far full own = bits_of f p ps vs add out (λ k h. own k (omega arith)) (λ k h l. absurd (omega (arith, full, h, l)))

-- the bits behind those of a byte are clear
byte_rest : (f : ℕ → Bool) (out new : List ℕ) (b n byte : ℕ) → IsByteOf f (8 * b) n byte → b < length out → new ≡ set out b byte → (k : ℕ) → 8 * b + n ≤ k → k < 8 * b + 8 → bit_of new k ≡ false
byte_rest f out new b n byte own room eq k low high =
    let here : k / 8 ≡ b = omega arith in
    let at : k % 8 ≡ k - 8 * b = omega arith in
    ap (λ (l : List ℕ). bit_of l k) eq
    ∙ ap (λ m. eqb (bit_at (get_or (set out b byte) m 0) (k % 8)) 1) here
    ∙ ap (λ y. eqb (bit_at y (k % 8)) 1) (get_or-set_same out b byte 0 room)
    ∙ ap (λ m. eqb (bit_at byte m) 1) at
    ∙ ap (λ y. eqb y 1) (own.rest (k - 8 * b) (omega arith))

-- bits in whole bytes, and those of the last one
pub bits_part : (f : Option ℕ → Bool) (p : Part) (ps vs : List ℕ) (add : ℕ) (out new : List ℕ) (byte : ℕ)
    → ((k : ℕ) → k < 8 * (length ps / 8) → bit_of out k ≡ f (place_of p (pick_at ps vs add k)))
    → IsByteOf (λ k. f (place_of p (pick_at ps vs add k))) (8 * (length ps / 8)) (length ps % 8) byte → length ps / 8 < length out → new ≡ set out (length ps / 8) byte
    → AreBitsOf f p (picks_of ps vs add) new
bits_part f p ps vs add out new byte are own room eq =
    let g = λ (k : ℕ). f (place_of p (pick_at ps vs add k)) in
    let b = length ps / 8 in
    let n = length ps % 8 in
    bits_of f p ps vs add new
    (λ k h. byte_put g out new b n byte are own (omega arith) room eq k (omega arith))
    (λ k h l. byte_rest g out new b n byte own room eq k (omega arith) (omega (arith, l)))

-- such bits say which rows are there
pub bits_show : (p : Part) (ps vs : List ℕ) (add : ℕ) (out : List ℕ) → length ps ≤ 8 * length out → AreBitsOf is_some p (picks_of ps vs add) out → ShowsRows p (picks_of ps vs add) out
bits_show p ps vs add out room b =
    let q = picks_of ps vs add in
    let count = length_picks ps vs add in
    record {
      shows = λ k h. shows_bit out k (omega (arith, count, h)) ∙ b.bits k (omega (arith, h)) ∙ ap (λ c. c && is_some (place_of p (get_or q k None))) (lt-ltb k (length q) h);
    }

-- ---- validity that has as many bytes as are needed

or_second : (a b : Bool) → b ≡ true → (a || b) ≡ true
or_second true b h = refl
or_second false b h = h

pub cut_holds : (b : Bool) (m n len : ℕ) → m ≡ n → len ≡ cond b (bytes_for m) 0 → holds_bits len n ≡ true
cut_holds true m n len count e = or_second (eqb len 0) _ (le-leb _ _ (omega (arith, e, count)))
cut_holds false m n len count e = ap (λ k. holds_bits k n) e

-- ---- rows of some bytes each

same_block : (xs ys : List ℕ) (a w : ℕ) → a + w ≤ length xs → length ys ≡ length xs → ((i : ℕ) → i < w → get_or xs (a + i) 0 ≡ get_or ys (a + i) 0) → take w (drop a xs) ≡ take w (drop a ys)
same_block xs ys a w room long same =
    let left : length (take w (drop a xs)) ≡ w = length-take-le w (drop a xs) (omega (arith, length-drop a xs)) in
    let right : length (take w (drop a ys)) ≡ w = length-take-le w (drop a ys) (omega (arith, length-drop a ys)) in
    ext_get_or 0 (take w (drop a xs)) (take w (drop a ys)) (left ∙ sym right) (λ i h.
    let low : i < w = omega (arith, left, h) in
    get_or-take w (drop a xs) i 0 low ∙ get_or-drop a xs i 0 ∙ same i low ∙ sym (get_or-take w (drop a ys) i 0 low ∙ get_or-drop a ys i 0))

zero_block : (xs : List ℕ) (a w : ℕ) → a + w ≤ length xs → ((i : ℕ) → i < w → get_or xs (a + i) 0 ≡ 0) → take w (drop a xs) ≡ replicate w 0
zero_block xs a w room zeros =
    let left : length (take w (drop a xs)) ≡ w = length-take-le w (drop a xs) (omega (arith, length-drop a xs)) in
    ext_get_or 0 (take w (drop a xs)) (replicate w 0) (left ∙ sym (length-replicate {A = ℕ} w 0)) (λ i h.
    let low : i < w = omega (arith, left, h) in
    get_or-take w (drop a xs) i 0 low ∙ get_or-drop a xs i 0 ∙ zeros i low ∙ sym (get_or-replicate {A = ℕ} w i 0 0 low))

cleared_row : (w : ℕ) (src : List ℕ) (p : Part) (q : List (Option ℕ)) (n : ℕ) (v mid new : List ℕ) → n ≡ length q → n * w ≤ length mid → ShowsRows p q v → AreCopied w src p q n mid → ClearsRows (is_valid v) 0 n w mid new
    → (k : ℕ) → k < length q → take w (drop (k * w) new) ≡ row_in w src (place_of p (get_or q k None))
cleared_row w src p q n v mid new count room shows copied clears k h = go (place_of p (get_or q k None)) refl
  where
    low : k < n
    low = omega (arith, count, h)

    fits : k * w + w ≤ length new
    fits = omega (arith, next_place k n w low, clears.long, room)

    at : (i : ℕ) → 0 + (k * w + i) ≡ k * w + i
    at i = omega arith

    own : (b : Bool) → is_valid v k ≡ b → (i : ℕ) → i < w → get_or new (k * w + i) 0 ≡ cond b (get_or mid (k * w + i) 0) 0
    own b e i l = ap (λ m. get_or new m 0) (sym (at i)) ∙ clears.rows k i low l ∙ ap (λ c. cond c (get_or mid (0 + (k * w + i)) 0) 0) e ∙ ap (λ m. cond b (get_or mid m 0) 0) (at i)

    go : (o : Option ℕ) → place_of p (get_or q k None) ≡ o → take w (drop (k * w) new) ≡ row_in w src o
    go None e = zero_block new (k * w) w fits (own false (shows.shows k h ∙ ap is_some e))
    go (Some i) e = same_block new mid (k * w) w fits (sym clears.long) (own true (shows.shows k h ∙ ap is_some e)) ∙ copied.values k i low e

-- rows that are copied, and cleared where they aren't there
pub rows_cleared : (w : ℕ) (src : List ℕ) (p : Part) (q : List (Option ℕ)) (n : ℕ) (v mid new : List ℕ) → n ≡ length q → n * w ≤ length mid → ShowsRows p q v → AreCopied w src p q n mid → ClearsRows (is_valid v) 0 n w mid new → AreBytesOf w src p q new
rows_cleared w src p q n v mid new count room shows copied clears = record { rows = cleared_row w src p q n v mid new count room shows copied clears }

full_row : (w : ℕ) (src : List ℕ) (p : Part) (q : List (Option ℕ)) (n : ℕ) (new : List ℕ) → n ≡ length q → ShowsRows p q [] → AreCopied w src p q n new → (k : ℕ) → k < length q → (o : Option ℕ) → place_of p (get_or q k None) ≡ o → take w (drop (k * w) new) ≡ row_in w src o
full_row w src p q n new count shows copied k h None e = absurd (let f : true ≡ false = shows.shows k h ∙ ap is_some e in cc)
full_row w src p q n new count shows copied k h (Some i) e = copied.values k i (omega (arith, count, h)) e

-- rows that are all there
pub rows_full : (w : ℕ) (src : List ℕ) (p : Part) (q : List (Option ℕ)) (n : ℕ) (new : List ℕ) → n ≡ length q → ShowsRows p q [] → AreCopied w src p q n new → AreBytesOf w src p q new
rows_full w src p q n new count shows copied = record { rows = λ k h. full_row w src p q n new count shows copied k h (place_of p (get_or q k None)) refl }

-- ---- the lists of a node

pub bytes_by : (f : Option Format) (p : Part) (q : Picking) (v o x s : List ℕ) → p.format ≡ f → (shows_valid p q ≡ true → AreBitsOf is_some p q.picks v) → AreOffsetsOf f p q.picks o → AreValuesOf f p q.picks x → AreSizesOf f p q.picks s → AreBytes p q v o x s
bytes_by f p q v o x s e bits a b c = record {
  valid = bits;
  offsets = subst (λ (g : Option Format). AreOffsetsOf g p q.picks o) (sym e) a;
  values = subst (λ (g : Option Format). AreValuesOf g p q.picks x) (sym e) b;
  sizes = subst (λ (g : Option Format). AreSizesOf g p q.picks s) (sym e) c;
}

-- no validity is written for a format that has none
pub no_bits_by : (p : Part) (q : Picking) (f : Option Format) → p.format ≡ f → ((b : Bool) → shows_by f b ≡ false) → (v : List ℕ) → shows_valid p q ≡ true → AreBitsOf is_some p q.picks v
no_bits_by p q f e none v shown =
    let own = has_bits p.valid || q.nullable in
    absurd (let g : true ≡ false = sym shown ∙ ap (λ (h : Option Format). shows_by h own) e ∙ none own in cc)
