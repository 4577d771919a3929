-- Blocks that are just what they state.
use Rattle.std.proofs.Common.{◌≡◌, ℕ, zero, suc, ◌+◌, ◌-◌, ◌*◌, ◌^◌, ◌<◌, ◌≤◌, Bool, true, false, List, [], ◌∷◌, ◌++◌, Option, None, Some, length, get_or, refl, sym, ap, ap₂, ◌∙◌, arith}
use Rattle.std.specs.Prelude.{◌==◌, ◌&&◌, bytes_eq, nat_le, nat_lt, if◌then◌else◌}
use Rattle.std.specs.Int.{from_le_bytes, w64}
use Rattle.std.specs.List.{list_all, list_any}
use Rattle.std.proofs.lemmas.Bool.Decides.{nat_tests}
use Rattle.std.proofs.lemmas.List.{length-append}
use Rattle.std.proofs.lemmas.List.Folds.{list_all-append}
use Rattle.std.proofs.lemmas.List.Sums.{AllPass-from_list_all, list_all-from_AllPass}
use Rattle.std.proofs.lemmas.Nat.{from_le_bytes-to_le_bytes_8}
use Rattle.std.proofs.lemmas.Slice.Eq.{bytes_eq-Decides}
use Rattle.vx_types.specs.declared.ptype.PType.{PType}
use Rattle.vx_types.specs.declared.ptype.PType.TheVariants.{U8, U16, U32, U64, I8, I16, I32, I64, F16, F32, F64}
use Rattle.vx_take.specs.Picks.{BoundedPicks}
use Rattle.vx_packed.specs.Chunk.{IsSpelling, spell}
use Rattle.vx_packed.specs.Faults.{numbers_in}
use Rattle.vx_packed.proofs.Spellings.{length-numbers_in, numbers_back}
use Rattle.vx_file.specs.Blocks.{block_at}
use Rattle.vx_file.specs.Reading.{AreSpellings, IsNoSpelling}
use Rattle.vx_file.specs.Shape.{IsNoHeader, IsShape, ShapeValue, header, is_unsigned, type_byte}
use Rattle.vx_file.specs.Stated.{are_spellings, is_header, is_spelling, shape_in, shape_stated, type_stated}
use Rattle.vx_file.specs.Touched.{block_of_rows, blocks_for, lies_in, blocks_touched}
use Rattle.vx_file.proofs.Headers.{header_len, header_type}
use Rattle.vx_file.proofs.TouchedLists.{touched_more, touched_none}
use Rattle.std.proofs.lemmas.Bool.{and_parts, and_from, false_from_ne_true}

-- ---- headers

type_back : (p : PType) → is_unsigned p ≡ true → type_stated (type_byte p) ≡ p
type_back U8 h = refl
type_back U16 h = refl
type_back U32 h = refl
type_back U64 h = refl
type_back I8 h = cc
type_back I16 h = cc
type_back I32 h = cc
type_back I64 h = cc
type_back F16 h = cc
type_back F32 h = cc
type_back F64 h = cc

stated_back : (s : ShapeValue) → IsShape s → shape_stated (header s) ≡ s
stated_back s h =
    let f : PType → ℕ → ShapeValue = λ p n. record { ptype = p; len = n } in
    let short = h.short in
    ap₂ f (ap type_stated (header_type s) ∙ type_back s.ptype h.unsigned)
    (ap (from_le_bytes w64) (header_len s) ∙ from_le_bytes-to_le_bytes_8 s.len (omega arith))

-- a shape's header states it
pub shape_of_header : (bytes : List ℕ) (s : ShapeValue) → IsShape s → bytes ≡ header s → shape_in bytes ≡ Some s
unfolding shape_in
shape_of_header bytes s h e =
    let back : shape_stated bytes ≡ s = ap shape_stated e ∙ stated_back s h in
    let same : bytes_eq bytes (header (shape_stated bytes)) ≡ true = (bytes_eq-Decides _ _).1 (e ∙ sym (ap header back)) in
    let short : nat_le (shape_stated bytes).len 16777216 ≡ true = let few = h.short in let is = ap (λ (x : ShapeValue). x.len) back in grind (arith, nat_tests) in
    ap (λ (b : Bool). if b then Some (shape_stated bytes) else None) (and_from _ _ same short) ∙ ap Some back

unsigned_by : (a b c : Bool) → is_unsigned (if a then U8 else if b then U16 else if c then U32 else U64) ≡ true
unsigned_by true b c = refl
unsigned_by false true c = refl
unsigned_by false false true = refl
unsigned_by false false false = refl

unsigned_stated : (b : ℕ) → is_unsigned (type_stated b) ≡ true
unsigned_stated b = unsigned_by (b == 0) (b == 1) (b == 2)

-- bytes that are no header state none
pub no_shape : (bytes : List ℕ) → IsNoHeader bytes → shape_in bytes ≡ None
unfolding shape_in
no_shape bytes none =
    let no : is_header bytes ≡ true → ⊥ = λ e.
    let parts : (bytes_eq bytes (header (shape_stated bytes)) ≡ true) × (nat_le (shape_stated bytes).len 16777216 ≡ true) = and_parts _ _ e in
    let short : (shape_stated bytes).len ≤ 16777216 = let f : nat_le (shape_stated bytes).len 16777216 ≡ true = parts.1 in grind (arith, nat_tests) in
    none (shape_stated bytes) (record { unsigned = unsigned_stated (get_or bytes 8 0); short = short }) ((bytes_eq-Decides _ _).0 parts.0) in
    ap (λ (b : Bool). if b then Some (shape_stated bytes) else None) (false_from_ne_true _ no)

-- ---- spellings

module _ (width : ℕ) where
  abbrev fits : ℕ → Bool
  fits n = nat_lt n (2 ^ (8 * width))

  pub is_spelled : width ≤ 8 → (bytes : List ℕ) → IsSpelling width bytes → is_spelling width bytes ≡ true
  unfolding is_spelling
  is_spelled narrow bytes s =
      let back : numbers_in bytes ≡ s.numbers = ap numbers_in s.spelled ∙ numbers_back width s.numbers narrow s.chunk in
      let below : list_all fits s.numbers ≡ true = list_all-from_AllPass fits s.numbers (λ k d h. let l = s.chunk.below k d h in grind (arith, nat_tests)) in
      and_from _ _ ((bytes_eq-Decides _ _).1 (s.spelled ∙ sym (ap spell back))) (ap (list_all fits) back ∙ below)

  pub is_unspelled : (bytes : List ℕ) → IsNoSpelling width bytes → is_spelling width bytes ≡ false
  unfolding is_spelling
  is_unspelled bytes none = false_from_ne_true _ (λ e.
      let parts = and_parts _ _ e in
      let passes = AllPass-from_list_all fits (numbers_in bytes) parts.1 in
      none (record {
        numbers = numbers_in bytes;
        chunk = record { count = length-numbers_in bytes; below = λ k d h. let l = passes k d h in grind (arith, nat_tests) };
        spelled = (bytes_eq-Decides _ _).0 parts.0;
      }))

-- ---- the touched blocks

module _ (width : ℕ) (picks : List (Option ℕ)) (blocks : List (List ℕ)) where
  abbrev test : ℕ → Bool
  test k = is_spelling width (block_at blocks k)

  one_block : (picked : Bool) (k : ℕ) → (picked ≡ true → test (k + 1) ≡ true) → list_all test (block_of_rows picked k) ≡ true
  one_block true k h = and_from _ _ (h refl) refl
  one_block false k h = refl

  first_blocks : (n : ℕ) → ((k : ℕ) → k < n → list_any (lies_in k) picks ≡ true → test (k + 1) ≡ true) → list_all test (blocks_touched picks n) ≡ true
  first_blocks zero h = ap (list_all test) (touched_none picks)
  first_blocks (suc n) h =
      let e : n + 1 ≡ suc n = omega arith in
      let last = block_of_rows (list_any (lies_in n) picks) n in
      ap (λ m. list_all test (blocks_touched picks m)) (sym e) ∙ ap (list_all test) (touched_more picks n) ∙ list_all-append test (blocks_touched picks n) last
      ∙ and_from _ _ (first_blocks n (λ k l any. h k (omega arith) any)) (one_block (list_any (lies_in n) picks) n (h n (omega arith)))

  -- one that is no spelling is found, whatever comes behind it
  still_bad : (k m : ℕ) → list_all test (blocks_touched picks k) ≡ false → list_all test (blocks_touched picks (k + m)) ≡ false
  still_bad k zero h = let e : k ≡ k + 0 = omega arith in ap (λ j. list_all test (blocks_touched picks j)) (sym e) ∙ h
  still_bad k (suc m) h =
      let e : k + m + 1 ≡ k + suc m = omega arith in
      let last = block_of_rows (list_any (lies_in (k + m)) picks) (k + m) in
      ap (λ j. list_all test (blocks_touched picks j)) (sym e) ∙ ap (list_all test) (touched_more picks (k + m)) ∙ list_all-append test (blocks_touched picks (k + m)) last
      ∙ ap (λ b. b && list_all test last) (still_bad k m h)

  ends_badly : (front : List ℕ) (block : ℕ) → test block ≡ false → list_all test (front ++ block ∷ []) ≡ false
  ends_badly front block bad =
      list_all-append test front (block ∷ []) ∙ ap (λ b. list_all test front && b) (ap (λ b. b && true) bad) ∙ never (list_all test front)
    where
      never : (b : Bool) → (b && false) ≡ false
      never true = refl
      never false = refl

  pub found_bad : (n block : ℕ) (front : List ℕ) → block ≤ n → blocks_touched picks block ≡ front ++ block ∷ [] → IsNoSpelling width (block_at blocks block) → list_all test (blocks_touched picks n) ≡ false
  found_bad n block front h last none =
      let e : block + (n - block) ≡ n = omega arith in
      ap (λ j. list_all test (blocks_touched picks j)) (sym e)
      ∙ still_bad block (n - block) (ap (list_all test) last ∙ ends_badly front block (is_unspelled width (block_at blocks block) none))

pub all_spelled : (width : ℕ) (picks : BoundedPicks) (blocks : List (List ℕ)) → width ≤ 8 → AreSpellings width picks blocks → are_spellings width blocks (blocks_touched picks.picks (blocks_for picks.bound)) ≡ true
all_spelled width picks blocks narrow h =
    first_blocks width picks.picks blocks (blocks_for picks.bound) (λ k l any. is_spelled width narrow (block_at blocks (k + 1)) (h k l any))

-- no more blocks are touched than there are
pub length-touched : (picks : List (Option ℕ)) (n : ℕ) → length (blocks_touched picks n) ≤ n
length-touched picks zero = omega (arith, ap length (touched_none picks))
length-touched picks (suc n) =
    let e : n + 1 ≡ suc n = omega arith in
    let last = block_of_rows (list_any (lies_in n) picks) n in
    omega (arith, length-touched picks n, ap (λ m. length (blocks_touched picks m)) e, ap length (touched_more picks n), length-append (blocks_touched picks n) last, at_most_one (list_any (lies_in n) picks) n)
  where
    at_most_one : (picked : Bool) (k : ℕ) → length (block_of_rows picked k) ≤ 1
    at_most_one true k = omega arith
    at_most_one false k = omega arith
