-- One node of joined rows.
use Rattle.std.proofs.Common.{zero, suc, ◌≡◌, ℕ, ◌+◌, ◌-◌, ◌*◌, ◌<◌, ◌≤◌, Bool, true, false, cond, ◌&&◌, List, [], ◌∷◌, length, get_or, take, drop, ap, ap₂, sym, ◌∙◌, refl, arith, length-append}
use Rattle.std.specs.Prelude.{slice_range}
use Rattle.std.specs.List.{flat_map, list_any}
use Rattle.std.proofs.lemmas.Bool.{lt-ltb, or_parts}
use Rattle.std.proofs.lemmas.List.{ext_get_or, get_or-map, length-map}
use Rattle.vx_arrow_image.specs.Rows.{RowValue, null}
use Rattle.vx_arrow_image.specs.Image.{Part, bit_of, column_of, is_valid, row_of, value_at}
use Rattle.vx_arrow_image.proofs.SoundNodes.{get_column, length_column}
use Rattle.vx_arrow_columns.specs.Picks.{bytes_for, has_bits}
use Rattle.vx_arrow_columns.specs.Taken.{IsNullable}
use Rattle.vx_arrow_columns.proofs.Cuts.{piece, same_cut}
use Rattle.vx_arrow_columns.proofs.OwnTaken.{nullable_shows}
use Rattle.vx_arrow_interleave.specs.declared.writing.BitsOf.TheVariants.{Validity}
use Rattle.vx_arrow_interleave.specs.Bytes.{AreBits, bit_in}
use Rattle.vx_arrow_interleave.specs.Given.{places}
use Rattle.vx_arrow_interleave.specs.Sources.{AreRows, is_there, moved, part_at, shows_valid}
use Rattle.vx_arrow_interleave.specs.Spots.{Spot, gathered, spot, spot_at}
use Rattle.vx_arrow_interleave.proofs.JoinedTrees.{get_gathered, length_gathered}

-- ---- places

pub length_places : (ps : List Part) (ss : List Spot) → length (places ps ss) ≡ length ss
unfolding places
length_places ps ss = length-map ss (moved ps)

pub get_place : (ps : List Part) (ss : List Spot) (k : ℕ) → k < length ss → spot_at (places ps ss) k ≡ moved ps (spot_at ss k)
unfolding places
get_place ps ss k h = get_or-map (moved ps) ss k (spot 0 0) (spot 0 0) h

-- ---- rows

-- the rows of a node, one by one
pub record AreRowsOf (ps : List Part) (ss : List Spot) (w : Part) (css : ℕ → List (List RowValue)) (ds : List (List RowValue)) : Type 0 where
  pub rows : (k : ℕ) → k < length ss → row_of w ds k ≡ row_of (part_at ps (spot_at (places ps ss) k).source) (css (spot_at (places ps ss) k).source) (spot_at (places ps ss) k).row

pub column_joined : (ps : List Part) (ss : List Spot) (w : Part) (css : ℕ → List (List RowValue)) (ds : List (List RowValue)) → w.offset ≡ 0 → w.len ≡ length ss → AreRows ps ss → AreRowsOf ps ss w css ds
    → column_of w ds ≡ gathered ss (λ s. column_of (part_at ps s) (css s))
column_joined ps ss w css ds start len rows are =
    let f = λ (s : ℕ). column_of (part_at ps s) (css s) in
    ext_get_or null (column_of w ds) (gathered ss f) (length_column w ds ∙ len ∙ sym (length_gathered ss f)) (λ k h.
    let low : k < length ss = omega (arith, length_column w ds, len) in
    let s = spot_at ss k in
    let at : spot_at (places ps ss) k ≡ moved ps s = get_place ps ss k low in
    get_column w ds k (omega (arith, len))
    ∙ ap (row_of w ds) (let e : w.offset + k ≡ k = omega (arith, start) in e)
    ∙ are.rows k low
    ∙ ap (λ (t : Spot). row_of (part_at ps t.source) (css t.source) t.row) at
    ∙ sym (get_column (part_at ps s.source) (css s.source) s.row (rows.row k low))
    ∙ sym (get_gathered ss f k low))

pub row_same : (p w : Part) (cs ds : List (List RowValue)) (i k : ℕ) → is_valid w.valid k ≡ is_valid p.valid i → (is_valid p.valid i ≡ true → value_at w.format w ds k ≡ value_at p.format p cs i) → row_of w ds k ≡ row_of p cs i
row_same p w cs ds i k shows value = go (is_valid p.valid i) refl
  where
    go : (b : Bool) → is_valid p.valid i ≡ b → row_of w ds k ≡ row_of p cs i
    go true e = ap (λ b. cond b (value_at w.format w ds k) null) (shows ∙ e) ∙ value e ∙ sym (ap (λ b. cond b (value_at p.format p cs i) null) e)
    go false e = ap (λ b. cond b (value_at w.format w ds k) null) (shows ∙ e) ∙ sym (ap (λ b. cond b (value_at p.format p cs i) null) e)

-- ---- validity

bits_there : (v : List ℕ) (k : ℕ) → 0 < length v → is_valid v k ≡ bit_of v k
bits_there [] k h = absurd (omega arith)
bits_there (b ∷ bs) k h = refl

none_there : (v : List ℕ) (k : ℕ) → has_bits v ≡ false → is_valid v k ≡ true
none_there [] k h = refl
none_there (b ∷ bs) k h = absurd (let f : true ≡ false = h in cc)

-- none has bits where not any does
pub none_has : (f : Part → Bool) (ps : List Part) (s : ℕ) → list_any f ps ≡ false → s < length ps → f (part_at ps s) ≡ false
none_has f [] s h low = absurd (omega arith)
none_has f (p ∷ ps) zero h low = (or_parts (f p) (list_any f ps) h).0
none_has f (p ∷ ps) (suc s) h low = none_has f ps s (or_parts (f p) (list_any f ps) h).1 (omega arith)

-- the validity that is written says which rows are there
pub valid_joined : (ps : List Part) (ss : List Spot) (v : List ℕ) (b : Bool) (k : ℕ) → shows_valid ps ≡ b → IsNullable (part_at ps 0).format → (b ≡ true → bytes_for (length ss) ≤ length v) → (b ≡ true → AreBits (bit_in Validity ps) ss v)
    → k < length ss → (spot_at ss k).source < length ps → is_valid (cond b v []) k ≡ is_there ps (spot_at ss k)
valid_joined ps ss v true k shows nullable long bits h source =
    let room = long refl in
    let own = bits refl in
    bits_there v k (omega arith) ∙ own.bits k (omega arith) ∙ ap (λ c. c && bit_in Validity ps (spot_at ss k)) (lt-ltb k (length ss) h)
valid_joined ps ss v false k shows nullable long bits h source =
    let any = list_any (λ (p : Part). has_bits p.valid) ps in
    let none : any ≡ false = sym (nullable_shows (part_at ps 0).format any nullable) ∙ shows in
    sym (none_there (part_at ps (spot_at ss k).source).valid (spot_at ss k).row (none_has (λ (p : Part). has_bits p.valid) ps (spot_at ss k).source none source))

-- ---- a piece of joined pieces

pub front_more : {X A : Type 0} (g : X → List A) (q : List X) (k : ℕ) (d : X) → k < length q → length (flat_map g (take (k + 1) q)) ≡ length (flat_map g (take k q)) + length (g (get_or q k d))
front_more g [] k d h = absurd (omega arith)
front_more g (x ∷ q) zero d h = length-append (g x) [] ∙ omega arith
front_more g (x ∷ q) (suc k) d h =
    ap (λ n. length (flat_map g (take n (x ∷ q)))) (let e : suc k + 1 ≡ suc (k + 1) = omega arith in e)
    ∙ length-append (g x) (flat_map g (take (k + 1) q))
    ∙ ap (λ n. length (g x) + n) (front_more g q k d (omega arith))
    ∙ sym (ap (λ n. n + length (g (get_or q k d))) (length-append (g x) (flat_map g (take k q))) ∙ (let e : length (g x) + length (flat_map g (take k q)) + length (g (get_or q k d)) ≡ length (g x) + (length (flat_map g (take k q)) + length (g (get_or q k d))) = omega arith in e))

pub front_within : {X A : Type 0} (g : X → List A) (q : List X) (k : ℕ) → length (flat_map g (take k q)) ≤ length (flat_map g q)
front_within g [] zero = omega arith
front_within g [] (suc k) = omega arith
front_within g (x ∷ q) zero = omega arith
front_within g (x ∷ q) (suc k) = omega (arith, length-append (g x) (flat_map g (take k q)), length-append (g x) (flat_map g q), front_within g q k)

-- a list that begins with joined pieces, cut where piece k begins and ends
pub cell : {X A : Type 0} (g : X → List A) (q : List X) (out : List A) (k a b : ℕ) (d : X) → take (length (flat_map g q)) out ≡ flat_map g q → k < length q → a ≡ length (flat_map g (take k q)) → b ≡ length (flat_map g (take (k + 1) q))
    → slice_range out a b ≡ g (get_or q k d)
cell g q out k a b d are h from to =
    let more = front_more g q k d h in
    let within = front_within g q (k + 1) in
    let size : b - a ≡ length (g (get_or q k d)) = omega arith in
    same_cut out (flat_map g q) a (b - a) (length (flat_map g q)) (omega arith) (are ∙ sym (all_front (flat_map g q)))
    ∙ ap₂ (λ m n. take m (drop n (flat_map g q))) size from
    ∙ piece g q k d h
  where
    all_front : {A : Type 0} (xs : List A) → take (length xs) xs ≡ xs
    all_front [] = refl
    all_front (x ∷ xs) = ap (λ l. x ∷ l) (all_front xs)

-- pieces of n items each
pub even_front : {X A : Type 0} (g : X → List A) (q : List X) (n k : ℕ) (d : X) → ((j : ℕ) → j < length q → length (g (get_or q j d)) ≡ n) → k ≤ length q → length (flat_map g (take k q)) ≡ k * n
even_front g q n zero d each h = omega arith
even_front g [] n (suc k) d each h = absurd (omega arith)
even_front g (x ∷ q) n (suc k) d each h =
    length-append (g x) (flat_map g (take k q)) ∙ ap₂ ◌+◌ (each 0 (omega arith)) (even_front g q n k d (λ j l. each (suc j) (omega arith)) (omega arith))
    ∙ (let e : n + k * n ≡ suc k * n = omega arith in e)
