-- Bits by the positions of those that are set.
use Rattle.std.proofs.Common.{◌≡◌, ℕ, zero, suc, ◌+◌, ◌<◌, ◌≤◌, Bool, true, false, cond, ◌||◌, List, [], ◌∷◌, map, length, refl, sym, ap, ap₂, ◌∙◌, arith, eqb}
use Rattle.std.specs.List.{range_with_len, list_any}
use Rattle.std.proofs.lemmas.Bool.Decides.{nat_tests}
use Rattle.std.proofs.lemmas.List.FromFn.{length-map-range_with_len}
use Rattle.vx_bits.specs.BitBuffer.{true_count_of}
use Rattle.vx_mask.specs.Positions.{positions, set_of, bits_with, ascending}
use Rattle.vx_mask.proofs.PositionLists.{length-positions}
use Rattle.vx_mask.proofs.AscendingLists.{index_parts, ascending_first}
use Rattle.std.proofs.lemmas.Bool.{eqb-true}

-- what two functions say of the numbers from a on
same_from : (f g : ℕ → Bool) (a n : ℕ) → ((i : ℕ) → a ≤ i → f i ≡ g i) → map f (range_with_len a n) ≡ map g (range_with_len a n)
same_from f g a zero h = refl
same_from f g a (suc n) h =
    ap (λ b. b ∷ map f (range_with_len (a + 1) n)) (h a (omega arith)) ∙ ap (λ l. g a ∷ l) (same_from f g (a + 1) n (λ i k. h i (omega arith)))

-- no position lies before the first
none_before : (at : ℕ) (bits : List Bool) (i : ℕ) → i < at → list_any (λ p. eqb p i) (positions at bits) ≡ false
none_before at [] i h = refl
none_before at (true ∷ bits) i h =
    let other : eqb at i ≡ false = grind (arith, nat_tests) in
    ap (λ b. b || list_any (λ p. eqb p i) (positions (at + 1) bits)) other ∙ none_before (at + 1) bits i (omega arith)
none_before at (false ∷ bits) i h = none_before (at + 1) bits i (omega arith)

bits_from : (at : ℕ) (bits : List Bool) → map (λ i. list_any (λ p. eqb p i) (positions at bits)) (range_with_len at (length bits)) ≡ bits
bits_from at [] = refl
bits_from at (true ∷ bits) =
    let here : eqb at at ≡ true = grind (arith, nat_tests) in
    ap (λ b. (b || list_any (λ p. eqb p at) (positions (at + 1) bits)) ∷ map (λ i. eqb at i || list_any (λ p. eqb p i) (positions (at + 1) bits)) (range_with_len (at + 1) (length bits))) here
    ∙ ap (λ l. true ∷ l) (same_from (λ i. eqb at i || list_any (λ p. eqb p i) (positions (at + 1) bits)) (λ i. list_any (λ p. eqb p i) (positions (at + 1) bits)) (at + 1) (length bits)
    (λ i k. let other : eqb at i ≡ false = grind (arith, nat_tests) in ap (λ b. b || list_any (λ p. eqb p i) (positions (at + 1) bits)) other)
    ∙ bits_from (at + 1) bits)
bits_from at (false ∷ bits) =
    ap (λ b. b ∷ map (λ i. list_any (λ p. eqb p i) (positions (at + 1) bits)) (range_with_len (at + 1) (length bits))) (none_before (at + 1) bits at (omega arith)) ∙ ap (λ l. false ∷ l) (bits_from (at + 1) bits)

-- bits are told by their number and their set positions
pub bits_told : (bits : List Bool) (len : ℕ) (set : List ℕ) → length bits ≡ len → set_of bits ≡ set → bits ≡ bits_with len set
bits_told bits len set n s = sym (bits_from 0 bits) ∙ ap (bits_with (length bits)) s ∙ ap (λ k. bits_with k set) n

not_same : (a b : ℕ) → a < b → eqb a b ≡ false
not_same a b h = grind (arith, nat_tests)

past_of : (at first : ℕ) → at ≤ first → eqb first at ≡ false → at + 1 ≤ first
past_of at first h e = grind (arith, nat_tests)

-- no position from `low` on is below `low`
none_below : (low len : ℕ) (set : List ℕ) (i : ℕ) → ascending low len set ≡ true → i < low → list_any (λ p. eqb p i) set ≡ false
none_below low len [] i h p = refl
none_below low len (first ∷ rest) i h p =
    let parts = index_parts low len first rest h in
    let from = parts.from in
    let other : eqb first i ≡ false = grind (arith, nat_tests) in
    ap (λ b. b || list_any (λ p. eqb p i) rest) other ∙ none_below (first + 1) len rest i parts.then (omega arith)

-- `n` bits from position `at` on, set at just these positions
abbrev bits_from_with : ℕ → ℕ → List ℕ → List Bool
bits_from_with at n set = map (λ i. list_any (λ p. eqb p i) set) (range_with_len at n)

-- the first of the positions is the first bit's, or a later one's
first_is : (at n first : ℕ) (rest : List ℕ) → ascending at (at + suc n) (first ∷ rest) ≡ true → (ascending (at + 1) (at + 1 + n) rest ≡ true → positions (at + 1) (bits_from_with (at + 1) n rest) ≡ rest) → (ascending (at + 1) (at + 1 + n) (first ∷ rest) ≡ true → positions (at + 1) (bits_from_with (at + 1) n (first ∷ rest)) ≡ first ∷ rest) → (b : Bool) → eqb first at ≡ b → positions at (bits_from_with at (suc n) (first ∷ rest)) ≡ first ∷ rest
first_is at n first rest h here behind true e =
    let parts = index_parts at (at + suc n) first rest h in
    let long : at + suc n ≡ at + 1 + n = omega arith in
    let same : first ≡ at = eqb-true first at e in
    let shown = ap (λ b. cond (b || list_any (λ p. eqb p at) rest) (at ∷ positions (at + 1) (bits_from_with (at + 1) n (first ∷ rest))) (positions (at + 1) (bits_from_with (at + 1) n (first ∷ rest)))) e in
    let others = same_from (λ i. eqb first i || list_any (λ p. eqb p i) rest) (λ i. list_any (λ p. eqb p i) rest) (at + 1) n
    (λ i k. let other : eqb first i ≡ false = not_same first i (omega arith) in ap (λ b. b || list_any (λ p. eqb p i) rest) other) in
    let next = here (ap₂ (λ m l. ascending (m + 1) l rest) (sym same) (sym long) ∙ parts.then) in
    shown ∙ ap (λ l. at ∷ positions (at + 1) l) others ∙ ap (λ l. at ∷ l) next ∙ ap (λ m. m ∷ rest) (sym same)
first_is at n first rest h here behind false e =
    let parts = index_parts at (at + suc n) first rest h in
    let long : at + suc n ≡ at + 1 + n = omega arith in
    let from = parts.from in
    let within = parts.within in
    let past : at + 1 ≤ first = past_of at first from e in
    let clear : (eqb first at || list_any (λ p. eqb p at) rest) ≡ false = ap (λ b. b || list_any (λ p. eqb p at) rest) e ∙ none_below (first + 1) (at + suc n) rest at parts.then (omega arith) in
    let shown = ap (λ b. cond b (at ∷ positions (at + 1) (bits_from_with (at + 1) n (first ∷ rest))) (positions (at + 1) (bits_from_with (at + 1) n (first ∷ rest)))) clear in
    shown ∙ behind (ascending_first (at + 1) (at + 1 + n) first rest past (omega arith) (ap (λ m. ascending (first + 1) m rest) (sym long) ∙ parts.then))

positions-bits_with : (at n : ℕ) (set : List ℕ) → ascending at (at + n) set ≡ true → positions at (bits_from_with at n set) ≡ set
positions-bits_with at zero [] h = refl
positions-bits_with at zero (first ∷ rest) h =
    let parts = index_parts at (at + 0) first rest h in
    absurd (omega (arith, parts.from, parts.within))
positions-bits_with at (suc n) [] h = positions-bits_with (at + 1) n [] refl
positions-bits_with at (suc n) (first ∷ rest) h =
    first_is at n first rest h (positions-bits_with (at + 1) n rest) (positions-bits_with (at + 1) n (first ∷ rest)) (eqb first at) refl

-- bits that are set at positions that ascend have just these
pub record IsMadeBy (bits : List Bool) (len : ℕ) (set : List ℕ) : Type 0 where
  pub positions : set_of bits ≡ set
  pub long : length bits ≡ len
  pub count : true_count_of bits ≡ length set

pub bits_with-made : (len : ℕ) (set : List ℕ) → ascending 0 len set ≡ true → IsMadeBy (bits_with len set) len set
bits_with-made len set h =
    let whole : len ≡ 0 + len = omega arith in
    let is = positions-bits_with 0 len set (ap (λ n. ascending 0 n set) (sym whole) ∙ h) in
    record {
      positions = is;
      long = length-map-range_with_len (λ i. list_any (λ p. eqb p i) set) 0 len;
      count = sym (length-positions 0 (bits_with len set)) ∙ ap length is;
    }
