-- The rows of what is held.
use Rattle.std.proofs.Common.{◌≡◌, ℕ, zero, suc, ◌+◌, ◌/◌, ◌%◌, ◌<◌, Bool, true, false, List, [], ◌∷◌, ◌++◌, Option, None, Some, length, get_or, map, take, drop, refl, sym, ap, ap₂, subst, ◌∙◌, arith, eq-eqb, ◌||◌}
use Rattle.std.specs.Prelude.{IfSome}
use Rattle.std.specs.List.{All, list_any, range_with_len}
use Rattle.std.proofs.lemmas.List.{get_or-drop, get_or-take, get_or_default, length-map, map_more}
use Rattle.std.proofs.lemmas.List.FromFn.{get_or-map-range_with_len, length-map-range_with_len}
use Rattle.std.proofs.lemmas.Simd.{map-map}
use Rattle.vx_types.specs.RowValue.{bytes, null}
use Rattle.vx_take.specs.Picks.{AreBelow, BoundedPicks, at, item_at}
use Rattle.vx_packed.specs.Parts.{record_of}
use Rattle.vx_types.specs.PType.{width}
use Rattle.vx_types.specs.declared.nullability.Nullability.{Nullability}
use Rattle.vx_model.specs.Valid.{Valid, non_nullable, present_bits, stored_rows, IsLeft}
use Rattle.vx_model.proofs.ShownRows.{shown_rows-all}
use Rattle.vx_model.proofs.Takes.{take-stored}
use Rattle.vx_file.specs.Shape.{ShapeValue}
use Rattle.vx_file.specs.File.{file_rows, number_at}
use Rattle.vx_file.specs.Reading.{AreHeld, AreSpellings, HasRoom, IsThere, held_number, held_records}
use Rattle.vx_file.specs.Touched.{blocks_for, lies_in}

-- a pick's block holds a picked row
pub block_picked : (picks : List (Option ℕ)) (i p : ℕ) → i < length picks → get_or picks i None ≡ Some p → list_any (lies_in (p / 1024)) picks ≡ true
block_picked [] i p h e = absurd (omega arith)
block_picked (x ∷ picks) zero p h e =
    ap (λ y. lies_in (p / 1024) y || list_any (lies_in (p / 1024)) picks) e ∙ ap (λ b. b || list_any (lies_in (p / 1024)) picks) (eq-eqb (p / 1024) (p / 1024) refl)
block_picked (x ∷ picks) (suc i) p h e = any_later (lies_in (p / 1024) x) (list_any (lies_in (p / 1024)) picks) (block_picked picks i p (omega arith) e)
  where
    any_later : (a b : Bool) → b ≡ true → (a || b) ≡ true
    any_later true b e = refl
    any_later false b e = e

pub below_blocks : (p n : ℕ) → p < n → p / 1024 < blocks_for n
below_blocks p n h = omega arith

pub there_at : (numbers starts : List ℕ) (picks : List (Option ℕ)) (n i : ℕ) (pick : Option ℕ) → HasRoom numbers starts picks (blocks_for n) → i < length picks → pick ≡ get_or picks i None → IfSome pick (λ p. p < n) → IsThere numbers starts pick
there_at numbers starts picks n i None r h e below = tt
there_at numbers starts picks n i (Some p) r h e below =
    let inside = below_blocks p n below in
    (omega (arith, r.long, inside), r.inside (p / 1024) inside (block_picked picks i p h (sym e)))

-- one record more
pub record_pushed : (width : ℕ) (numbers starts : List ℕ) (picks : List (Option ℕ)) (i : ℕ) (before after : List (List ℕ)) (x : List ℕ) (n : ℕ) (pick : Option ℕ) → i < length picks → after ≡ before ++ x ∷ [] → x ≡ record_of width n → n ≡ held_number numbers starts pick → pick ≡ get_or picks i None → before ≡ held_records width numbers starts (take i picks) → after ≡ held_records width numbers starts (take (i + 1) picks)
record_pushed width numbers starts picks i before after x n pick h more is value here same =
    let f : Option ℕ → List ℕ = λ o. record_of width (held_number numbers starts o) in
    more ∙ ap₂ (λ l r. l ++ r ∷ []) same (is ∙ ap (record_of width) (value ∙ ap (held_number numbers starts) here))
    ∙ sym (map_more f picks i None h)

-- ---- what is held, as the blocks state it

abbrev pub row_records : ℕ → ℕ → List (List ℕ) → List (List ℕ)
row_records width n blocks = map (λ p. record_of width (number_at blocks p)) (range_with_len 0 n)

one_held : (width n : ℕ) (numbers starts : List ℕ) (picks : List (Option ℕ)) (blocks : List (List ℕ)) (pick : Option ℕ) → AreHeld width numbers starts picks (blocks_for n) blocks → IfSome pick (λ p. p < n) → IfSome pick (λ p. list_any (lies_in (p / 1024)) picks ≡ true) → record_of width (held_number numbers starts pick) ≡ item_at (record_of width 0) (row_records width n blocks) pick
one_held width n numbers starts picks blocks None held below any = refl
one_held width n numbers starts picks blocks (Some p) held below any =
    let h = held (p / 1024) (below_blocks p n below) any in
    let start = get_or starts (p / 1024) 0 in
    let small : p % 1024 < 1024 = omega arith in
    let value : get_or numbers (start + p % 1024) 0 ≡ number_at blocks p =
    sym (get_or-take 1024 (drop start numbers) (p % 1024) 0 small ∙ get_or-drop start numbers (p % 1024) 0) ∙ ap (λ l. get_or l (p % 1024) 0) h.values in
    ap (record_of width) value
    ∙ sym (get_or-map-range_with_len (λ q. record_of width (number_at blocks q)) 0 n p p (record_of width 0) below (omega arith))

pub held_are : (width n : ℕ) (numbers starts : List ℕ) (picks : List (Option ℕ)) (blocks : List (List ℕ)) (some : List (Option ℕ)) → AreHeld width numbers starts picks (blocks_for n) blocks → All (λ pick. IfSome pick (λ p. p < n)) some → All (λ pick. IfSome pick (λ p. list_any (lies_in (p / 1024)) picks ≡ true)) some → held_records width numbers starts some ≡ at (record_of width 0) (row_records width n blocks) some
held_are width n numbers starts picks blocks [] held below any = refl
held_are width n numbers starts picks blocks (pick ∷ some) held below any =
    ap₂ ◌∷◌ (one_held width n numbers starts picks blocks pick held (below 0 None (omega arith)) (any 0 None (omega arith)))
    (held_are width n numbers starts picks blocks some held (λ k d h. below (suc k) d (omega arith)) (λ k d h. any (suc k) d (omega arith)))

-- each pick's block is picked
pub all_picked : (picks : List (Option ℕ)) → All (λ pick. IfSome pick (λ p. list_any (lies_in (p / 1024)) picks ≡ true)) picks
all_picked picks k d h = at_pick (get_or picks k d) refl
  where
    same : get_or picks k None ≡ get_or picks k d
    same = get_or_default picks k None d h

    at_pick : (pick : Option ℕ) → pick ≡ get_or picks k d → IfSome pick (λ p. list_any (lies_in (p / 1024)) picks ≡ true)
    at_pick None e = tt
    at_pick (Some p) e = block_picked picks k p h (same ∙ sym e)

pub are_spellings : (width : ℕ) (numbers starts : List ℕ) (picks : BoundedPicks) (blocks : List (List ℕ)) → AreHeld width numbers starts picks.picks (blocks_for picks.bound) blocks → AreSpellings width picks blocks
are_spellings width numbers starts picks blocks held = λ k h any. (held k h any).spelled

-- ---- as rows

pub held_rows : (s : ShapeValue) (picks : BoundedPicks) (numbers starts : List ℕ) (blocks : List (List ℕ)) (records : List (List ℕ)) (w : Valid) (n : Nullability) (bytes_each : ℕ) → bytes_each ≡ width s.ptype → picks.bound ≡ s.len → AreBelow picks.picks picks.bound → IsLeft non_nullable n (at false (present_bits non_nullable picks.bound) picks.picks) w → records ≡ held_records bytes_each numbers starts picks.picks → AreHeld bytes_each numbers starts picks.picks (blocks_for picks.bound) blocks → stored_rows w (map bytes records) ≡ at null (file_rows blocks s) picks.picks
held_rows s picks numbers starts blocks records w n bytes_each e whole below left same held =
    let part = row_records bytes_each picks.bound blocks in
    let missing = record_of bytes_each 0 in
    let long : length (map bytes part) ≡ picks.bound = length-map part bytes ∙ length-map-range_with_len (λ p. record_of bytes_each (number_at blocks p)) 0 picks.bound in
    let Q : ℕ → Type 0 = λ m. IsLeft non_nullable n (at false (present_bits non_nullable m) picks.picks) w in
    ap (λ l. stored_rows w (map bytes l)) (same ∙ held_are bytes_each picks.bound numbers starts picks.picks blocks picks.picks held below (all_picked picks.picks))
    ∙ take-stored bytes missing part non_nullable w n refl picks.picks (subst Q (sym long) left)
    ∙ ap (λ l. at null l picks.picks) (shown_rows-all (length (map bytes part)) (map bytes part) refl ∙ map-map bytes (λ p. record_of bytes_each (number_at blocks p)) (range_with_len 0 picks.bound)
    ∙ ap₂ (λ b m. map (λ p. bytes (record_of b (number_at blocks p))) (range_with_len 0 m)) e whole)
