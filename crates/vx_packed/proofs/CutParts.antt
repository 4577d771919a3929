-- Chunks that follow each other.
use Rattle.std.proofs.Common.{◌≡◌, ℕ, zero, suc, ◌+◌, ◌-◌, ◌*◌, ◌/◌, ◌%◌, ◌^◌, ◌<◌, ◌≤◌, List, [], ◌∷◌, ◌++◌, Option, None, Some, min, length, get_or, take, drop, inl, inr, refl, sym, ap, ap₂, subst, ◌∙◌, add-zero, arith}
use Rattle.std.specs.List.{All, flat_map, range_with_len}
use Rattle.std.proofs.lemmas.Bool.{cases_lt}
use Rattle.std.proofs.lemmas.List.{drop-drop, drop_all, drop_at, get_or-append_right, get_or-drop, get_or-take, get_or_append_left, get_or_past, get_or_push, length-append, length-drop, length-take, length-take-le, nil_from_length, take_at, take-append-drop}
use Rattle.std.proofs.Math.Pow.{pow_mono}
use Rattle.vx_packed.specs.Chunk.{ArePacked, IsChunk, IsPacked, IsSpelling, chunk_at, spell, spell_list}
use Rattle.vx_packed.specs.Faults.{chunk_fault, numbers_in}
use Rattle.vx_packed.specs.Parts.{AreChunks, IsIndexed, all_numbers, bad_or, cut_parts, first_bad, front_len, parts_of}
use Rattle.vx_packed.specs.declared.fault.PackedFault.{PackedFault}
use Rattle.vx_packed.specs.declared.fault.PackedError.TheVariants.{Bad}
use Rattle.vx_packed.proofs.OneSpelling.{chunk_is}
use Rattle.vx_packed.proofs.Spellings.{bytes_spelled, length-numbers_in, numbers_back, numbers_chunk, same_parts, spell_injective, spell_states, spelled_no_fault}

-- ---- the parts

-- more parts than bytes are not needed
enough : (m n : ℕ) (bytes : List ℕ) → length bytes ≤ m → length bytes ≤ n → cut_parts m bytes ≡ cut_parts n bytes
unfolding cut_parts
enough zero zero bytes p q = refl
enough zero (suc n) [] p q = refl
enough zero (suc n) (b ∷ bytes) p q = absurd (omega arith)
enough (suc m) zero [] p q = refl
enough (suc m) zero (b ∷ bytes) p q = absurd (omega arith)
enough (suc m) (suc n) [] p q = refl
enough (suc m) (suc n) (b ∷ bytes) p q =
    let rest = drop (front_len (b ∷ bytes)) (b ∷ bytes) in
    let short : length rest ≤ length bytes = omega (arith, length-drop (front_len (b ∷ bytes)) (b ∷ bytes)) in
    ap (λ l. take (front_len (b ∷ bytes)) (b ∷ bytes) ∷ l) (enough m n rest (omega arith) (omega arith))

pub parts_none : (bytes : List ℕ) → length bytes ≡ 0 → parts_of bytes ≡ []
unfolding parts_of cut_parts
parts_none bytes h = ap parts_of (nil_from_length bytes h)

pub parts_step : (bytes : List ℕ) → 0 < length bytes → parts_of bytes ≡ take (front_len bytes) bytes ∷ parts_of (drop (front_len bytes) bytes)
unfolding parts_of cut_parts
parts_step [] h = absurd (omega arith)
parts_step (b ∷ bytes) h =
    let rest = drop (front_len (b ∷ bytes)) (b ∷ bytes) in
    let short : length rest ≤ length bytes = omega (arith, length-drop (front_len (b ∷ bytes)) (b ∷ bytes)) in
    ap (λ l. take (front_len (b ∷ bytes)) (b ∷ bytes) ∷ l) (enough (length bytes) (length rest) rest short (omega arith))

-- ---- one part more

-- what is left behind a part, by the part's own length
pub left_behind : (bytes : List ℕ) (start n : ℕ) → n ≡ length (take (front_len (drop start bytes)) (drop start bytes)) → drop (front_len (drop start bytes)) (drop start bytes) ≡ drop (start + n) bytes
left_behind bytes start n e =
    let rest = drop start bytes in
    let k = front_len rest in
    let is : n ≡ min k (length rest) = e ∙ length-take k rest in
    elim (cases_lt (length rest) k) [
      | inl short ↦
          let past : length bytes ≤ start + n = omega (arith, is, length-drop start bytes) in
          drop_all k rest (omega arith) ∙ sym (drop_all (start + n) bytes past)
      | inr all ↦
          let same : k ≡ n = omega (arith, is) in
          ap (λ j. drop j rest) same ∙ drop-drop n start bytes
    ]

-- a part that is a chunk leaves the first bad one to the rest
pub bad_step : (width k : ℕ) (bytes : List ℕ) → 0 < length bytes → chunk_fault width (take (front_len bytes) bytes) ≡ None → first_bad width k (parts_of bytes) ≡ first_bad width (k + 1) (parts_of (drop (front_len bytes) bytes))
unfolding first_bad
bad_step width k bytes h e = ap (first_bad width k) (parts_step bytes h) ∙ ap (λ o. bad_or o k (first_bad width (k + 1) (parts_of (drop (front_len bytes) bytes)))) e

-- and one that is none is the first
pub bad_here : (width k : ℕ) (bytes : List ℕ) (fault : PackedFault) → 0 < length bytes → chunk_fault width (take (front_len bytes) bytes) ≡ Some fault → first_bad width k (parts_of bytes) ≡ Some (Bad k fault)
unfolding first_bad
bad_here width k bytes fault h e = ap (first_bad width k) (parts_step bytes h) ∙ ap (λ o. bad_or o k (first_bad width (k + 1) (parts_of (drop (front_len bytes) bytes)))) e

pub bad_none : (width k : ℕ) (bytes : List ℕ) → length bytes ≡ 0 → first_bad width k (parts_of bytes) ≡ None
unfolding first_bad
bad_none width k bytes h = ap (first_bad width k) (parts_none bytes h)

pub count_step : (bytes : List ℕ) → 0 < length bytes → length (parts_of bytes) ≡ length (parts_of (drop (front_len bytes) bytes)) + 1
count_step bytes h = ap length (parts_step bytes h) ∙ omega arith

-- ---- a list's spelling, chunk after chunk

shifted : {X : Type 0} (f g : ℕ → List X) (n a : ℕ) → ((k : ℕ) → f (k + 1) ≡ g k) → flat_map f (range_with_len (a + 1) n) ≡ flat_map g (range_with_len a n)
shifted f g zero a e = refl
shifted f g (suc n) a e = ap₂ ◌++◌ (e a) (shifted f g n (a + 1) e)

chunk_behind : (c xs : List ℕ) (k : ℕ) → length c ≡ 1024 → chunk_at (c ++ xs) (k + 1) ≡ chunk_at xs k
chunk_behind c xs k long =
    let there : 1024 * (k + 1) ≡ 1024 + 1024 * k = omega arith in
    ap (λ n. take 1024 (drop n (c ++ xs))) there
    ∙ ap (take 1024) (sym (drop-drop (1024 * k) 1024 (c ++ xs)) ∙ ap (drop (1024 * k)) (drop_at c xs 1024 long))

pub spell_list_cons : (c xs : List ℕ) → length c ≡ 1024 → spell_list (c ++ xs) ≡ spell c ++ spell_list xs
unfolding spell_list
spell_list_cons c xs long =
    let n = length xs / 1024 in
    let count : length (c ++ xs) / 1024 ≡ suc n = omega (arith, length-append c xs, long) in
    let none : 1024 * 0 ≡ 0 = omega arith in
    let first : chunk_at (c ++ xs) 0 ≡ c = ap (λ m. take 1024 (drop m (c ++ xs))) none ∙ take_at c xs 1024 long in
    ap (λ m. flat_map (λ k. spell (chunk_at (c ++ xs) k)) (range_with_len 0 m)) count
    ∙ ap₂ ◌++◌ (ap spell first) (shifted (λ k. spell (chunk_at (c ++ xs) k)) (λ k. spell (chunk_at xs k)) n 0 (λ k. ap spell (chunk_behind c xs k long)))

pub spell_list_none : (xs : List ℕ) → length xs ≡ 0 → spell_list xs ≡ []
unfolding spell_list
spell_list_none xs h = ap spell_list (nil_from_length xs h)

-- ---- no bad part, and what the parts then spell

good_first : (width k : ℕ) (part : List ℕ) (parts : List (List ℕ)) → first_bad width k (part ∷ parts) ≡ None → (chunk_fault width part ≡ None) × (first_bad width (k + 1) parts ≡ None)
unfolding first_bad
good_first width k part parts h = cases (chunk_fault width part) h
  where
    cases : (o : Option PackedFault) → bad_or o k (first_bad width (k + 1) parts) ≡ None → (o ≡ None) × (first_bad width (k + 1) parts ≡ None)
    cases None h = (refl, h)
    cases (Some fault) h = let no : ⊥ = cc in absurd no

all_below : (width : ℕ) (xs ys : List ℕ) → All (λ x. x < 2 ^ (8 * width)) xs → All (λ x. x < 2 ^ (8 * width)) ys → All (λ x. x < 2 ^ (8 * width)) (xs ++ ys)
all_below width xs ys p q k d h = elim (cases_lt k (length xs)) [
  | inl l ↦ subst (λ (n : ℕ). n < 2 ^ (8 * width)) (sym (get_or_append_left xs ys d k l)) (p k d l)
  | inr l ↦ subst (λ (n : ℕ). n < 2 ^ (8 * width)) (sym (get_or-append_right xs ys (length xs) k d refl l)) (q (k - length xs) d (omega (arith, length-append xs ys)))
]

fits_part : (bytes : List ℕ) (n i : ℕ) → ((j : ℕ) → get_or bytes j 0 < 256) → get_or (take n bytes) i 0 < 256
fits_part bytes n i fits = elim (cases_lt i n) [
  | inl h ↦ omega (arith, get_or-take n bytes i 0 h, fits i)
  | inr h ↦
      let past : length (take n bytes) ≤ i = omega (arith, length-take n bytes) in
      omega (arith, get_or_past (take n bytes) i 0 past)
]

pub parts_spelled : (fuel width k : ℕ) (bytes : List ℕ) → length bytes ≤ fuel → width ≤ 8 → ((i : ℕ) → get_or bytes i 0 < 256) → first_bad width k (parts_of bytes) ≡ None → ArePacked width (all_numbers (parts_of bytes)) bytes
parts_spelled zero width k bytes short narrow fits good =
    let none = parts_none bytes (omega arith) in
    subst (λ (ps : List (List ℕ)). ArePacked width (all_numbers ps) bytes) (sym none) (record {
      whole = refl;
      below = λ i d h. absurd (omega arith);
      spelled = nil_from_length bytes (omega arith) ∙ sym (spell_list_none [] refl);
    })
parts_spelled (suc fuel) width k [] short narrow fits good =
    let none = parts_none [] refl in
    subst (λ (ps : List (List ℕ)). ArePacked width (all_numbers ps) []) (sym none) (record {
      whole = refl;
      below = λ i d h. absurd (omega arith);
      spelled = sym (spell_list_none [] refl);
    })
parts_spelled (suc fuel) width k (b ∷ rest_bytes) short narrow fits good =
    let bytes = b ∷ rest_bytes in
    let n = front_len bytes in
    let part = take n bytes in
    let rest = drop n bytes in
    let step = parts_step bytes (omega arith) in
    let both = good_first width k part (parts_of rest) (sym (ap (first_bad width k) step) ∙ good) in
    let smaller = parts_spelled fuel width (k + 1) rest (omega (arith, length-drop n bytes)) narrow (λ i. omega (arith, get_or-drop n bytes i 0, fits (n + i))) both.1 in
    let own = bytes_spelled width part narrow (λ i. fits_part bytes n i fits) both.0 in
    let chunk = numbers_chunk width part both.0 in
    let long = length-numbers_in part in
    subst (λ (ps : List (List ℕ)). ArePacked width (all_numbers ps) bytes) (sym step) (record {
      whole = omega (arith, length-append (numbers_in part) (all_numbers (parts_of rest)), long, smaller.whole);
      below = all_below width (numbers_in part) (all_numbers (parts_of rest)) chunk.below smaller.below;
      spelled = sym (take-append-drop n bytes) ∙ ap₂ ◌++◌ own smaller.spelled ∙ sym (spell_list_cons (numbers_in part) (all_numbers (parts_of rest)) long);
    })

-- ---- a spelling of a list has no bad part

pub record IsWhole (width : ℕ) (parts : List (List ℕ)) (k : ℕ) (xs : List ℕ) : Type 0 where
  pub good : first_bad width k parts ≡ None
  pub numbers : all_numbers parts ≡ xs

front_of_spell : (width : ℕ) (c more : List ℕ) → width ≤ 8 → IsChunk width c → front_len (spell c ++ more) ≡ length (spell c)
front_of_spell width c more narrow chunk =
    let s = spell_states width c narrow chunk in
    omega (arith, s.count, get_or_append_left (spell c) more 0 0 (omega (arith, s.count)))

pub whole_parts : (n width k : ℕ) (xs : List ℕ) → length xs ≡ n * 1024 → width ≤ 8 → All (λ x. x < 2 ^ (8 * width)) xs → IsWhole width (parts_of (spell_list xs)) k xs
unfolding first_bad
whole_parts zero width k xs long narrow below =
    let none = parts_none (spell_list xs) (ap length (spell_list_none xs (omega arith))) in
    record {
      good = ap (first_bad width k) none;
      numbers = ap all_numbers none ∙ sym (nil_from_length xs (omega arith));
    }
whole_parts (suc n) width k xs long narrow below =
    let c = take 1024 xs in
    let more = drop 1024 xs in
    let c_long : length c ≡ 1024 = length-take-le 1024 xs (omega arith) in
    let none : 1024 * 0 ≡ 0 = omega arith in
    let chunk = subst (λ (j : ℕ). IsChunk width (take 1024 (drop j xs))) none (chunk_is width xs 0 (omega arith) below) in
    let states = spell_states width c narrow chunk in
    let whole : spell_list xs ≡ spell c ++ spell_list more = ap spell_list (sym (take-append-drop 1024 xs)) ∙ spell_list_cons c more c_long in
    let bytes = spell c ++ spell_list more in
    let front = front_of_spell width c (spell_list more) narrow chunk in
    let some : 0 < length bytes = omega (arith, length-append (spell c) (spell_list more), states.count) in
    let part : take (front_len bytes) bytes ≡ spell c = take_at (spell c) (spell_list more) (front_len bytes) (sym front) in
    let rest : drop (front_len bytes) bytes ≡ spell_list more = drop_at (spell c) (spell_list more) (front_len bytes) (sym front) in
    let step : parts_of (spell_list xs) ≡ spell c ∷ parts_of (spell_list more) = ap parts_of whole ∙ parts_step bytes some ∙ ap₂ (λ p r. p ∷ parts_of r) part rest in
    let smaller = whole_parts n width (k + 1) more (omega (arith, length-drop 1024 xs)) narrow (λ i d h.
    subst (λ (m : ℕ). m < 2 ^ (8 * width)) (sym (get_or-drop 1024 xs i d)) (below (1024 + i) d (omega (arith, length-drop 1024 xs)))) in
    record {
      good = ap (first_bad width k) step ∙ ap (λ o. bad_or o k (first_bad width (k + 1) (parts_of (spell_list more)))) (spelled_no_fault width c narrow chunk) ∙ smaller.good;
      numbers = ap all_numbers step ∙ ap₂ ◌++◌ (numbers_back width c narrow chunk) smaller.numbers ∙ take-append-drop 1024 xs;
    }

-- ---- both ways

pub packed_good : (width : ℕ) (bytes : List ℕ) → width ≤ 8 → IsPacked width bytes → first_bad width 0 (parts_of bytes) ≡ None
packed_good width bytes narrow packed =
    let xs = packed.numbers in
    let n : length xs ≡ length xs / 1024 * 1024 = omega (arith, packed.packed.whole) in
    ap (λ l. first_bad width 0 (parts_of l)) packed.packed.spelled ∙ (whole_parts (length xs / 1024) width 0 xs n narrow packed.packed.below).good

pub good_packed : (width : ℕ) (bytes : List ℕ) → width ≤ 8 → ((i : ℕ) → get_or bytes i 0 < 256) → first_bad width 0 (parts_of bytes) ≡ None → ArePacked width (all_numbers (parts_of bytes)) bytes
good_packed width bytes narrow fits good = parts_spelled (length bytes) width 0 bytes (omega arith) narrow fits good

-- ---- one spelling a list

spelled_some : (c more : List ℕ) → IsChunk 8 c → 0 < length (spell c ++ more)
spelled_some c more chunk =
    let s = spell_states 8 c (omega arith) chunk in
    omega (arith, s.count, length-append (spell c) more)

rest_below : (xs : List ℕ) → All (λ x. x < 2 ^ 64) xs → All (λ x. x < 2 ^ 64) (drop 1024 xs)
rest_below xs below i d h = subst (λ (m : ℕ). m < 2 ^ 64) (sym (get_or-drop 1024 xs i d)) (below (1024 + i) d (omega (arith, length-drop 1024 xs)))

-- the first chunk of a list, and its spelling
record FirstChunk (xs : List ℕ) : Type 0 where
  chunk : IsChunk 8 (take 1024 xs)
  spelled : spell_list xs ≡ spell (take 1024 xs) ++ spell_list (drop 1024 xs)
  some : 0 < length (spell_list xs)

first_chunk : (n : ℕ) (xs : List ℕ) → length xs ≡ suc n * 1024 → All (λ x. x < 2 ^ 64) xs → FirstChunk xs
first_chunk n xs long below =
    let c = take 1024 xs in
    let more = drop 1024 xs in
    let none : 1024 * 0 ≡ 0 = omega arith in
    let chunk = subst (λ (j : ℕ). IsChunk 8 (take 1024 (drop j xs))) none (chunk_is 8 xs 0 (omega arith) below) in
    let whole : spell_list xs ≡ spell c ++ spell_list more = ap spell_list (sym (take-append-drop 1024 xs)) ∙ spell_list_cons c more chunk.count in
    record { chunk = chunk; spelled = whole; some = subst (λ (l : List ℕ). 0 < length l) (sym whole) (spelled_some c (spell_list more) chunk) }

same_spelled : (n m : ℕ) (xs ys : List ℕ) → length xs ≡ n * 1024 → length ys ≡ m * 1024 → All (λ x. x < 2 ^ 64) xs → All (λ x. x < 2 ^ 64) ys → spell_list xs ≡ spell_list ys → xs ≡ ys
same_spelled zero zero xs ys p q a b e = nil_from_length xs (omega arith) ∙ sym (nil_from_length ys (omega arith))
same_spelled zero (suc m) xs ys p q a b e =
    let there = (first_chunk m ys q b).some in
    absurd (omega (arith, there, ap length e, ap length (spell_list_none xs (omega arith))))
same_spelled (suc n) zero xs ys p q a b e =
    let here = (first_chunk n xs p a).some in
    absurd (omega (arith, here, ap length e, ap length (spell_list_none ys (omega arith))))
same_spelled (suc n) (suc m) xs ys p q a b e =
    let f = first_chunk n xs p a in
    let g = first_chunk m ys q b in
    let parts = same_parts 8 (take 1024 xs) (take 1024 ys) _ _ (omega arith) f.chunk g.chunk (sym f.spelled ∙ e ∙ g.spelled) in
    let rest = same_spelled n m (drop 1024 xs) (drop 1024 ys) (omega (arith, length-drop 1024 xs)) (omega (arith, length-drop 1024 ys)) (rest_below xs a) (rest_below ys b) parts.rest in
    sym (take-append-drop 1024 xs)
    ∙ ap₂ ◌++◌ (spell_injective 8 (take 1024 xs) (take 1024 ys) (omega arith) f.chunk g.chunk parts.front) rest
    ∙ take-append-drop 1024 ys

-- two lists of whole chunks with equal spellings are equal
pub spell_list_injective : (xs ys : List ℕ) → length xs % 1024 ≡ 0 → length ys % 1024 ≡ 0 → All (λ x. x < 2 ^ 64) xs → All (λ x. x < 2 ^ 64) ys → spell_list xs ≡ spell_list ys → xs ≡ ys
spell_list_injective xs ys p q a b e = same_spelled (length xs / 1024) (length ys / 1024) xs ys (omega arith) (omega arith) a b e

-- ---- where the parts begin

-- the numbers of part k among all
pub chunk_of_all : (parts : List (List ℕ)) (k : ℕ) → k < length parts → take 1024 (drop (1024 * k) (all_numbers parts)) ≡ numbers_in (get_or parts k [])
chunk_of_all [] k h = absurd (omega arith)
chunk_of_all (part ∷ parts) zero h =
    let none : 1024 * 0 ≡ 0 = omega arith in
    ap (λ n. take 1024 (drop n (all_numbers (part ∷ parts)))) none ∙ take_at (numbers_in part) (all_numbers parts) 1024 (length-numbers_in part)
chunk_of_all (part ∷ parts) (suc k) h =
    let next : 1024 * suc k ≡ 1024 + 1024 * k = omega arith in
    ap (λ n. take 1024 (drop n (all_numbers (part ∷ parts)))) next
    ∙ ap (take 1024) (sym (drop-drop (1024 * k) 1024 (all_numbers (part ∷ parts))) ∙ ap (drop (1024 * k)) (drop_at (numbers_in part) (all_numbers parts) 1024 (length-numbers_in part)))
    ∙ chunk_of_all parts k (omega arith)

pub length-all_numbers : (parts : List (List ℕ)) → length (all_numbers parts) ≡ 1024 * length parts
length-all_numbers [] = omega arith
length-all_numbers (part ∷ parts) = omega (arith, length-append (numbers_in part) (all_numbers parts), length-numbers_in part, length-all_numbers parts)

-- a part of which none is bad is a spelling
pub part_spelled : (width k : ℕ) (parts : List (List ℕ)) (j : ℕ) → width ≤ 8 → ((i : ℕ) → get_or (get_or parts j []) i 0 < 256) → first_bad width k parts ≡ None → j < length parts → IsSpelling width (get_or parts j [])
part_spelled width k [] j narrow fits good h = absurd (omega arith)
part_spelled width k (part ∷ parts) zero narrow fits good h =
    let none = (good_first width k part parts good).0 in
    record { numbers = numbers_in part; chunk = numbers_chunk width part none; spelled = bytes_spelled width part narrow fits none }
part_spelled width k (part ∷ parts) (suc j) narrow fits good h = part_spelled width (k + 1) parts j narrow fits (good_first width k part parts good).1 (omega arith)

-- ---- the places, one after another

-- the places so far, and what is left
pub record Placed (bytes : List ℕ) (starts : List ℕ) (start : ℕ) : Type 0 where
  pub within : start ≤ length bytes
  pub few : length starts ≤ length (parts_of bytes)
  pub inside : (k : ℕ) → k < length starts → get_or starts k 0 < length bytes
  pub places : (k : ℕ) → k < length starts → take (front_len (drop (get_or starts k 0) bytes)) (drop (get_or starts k 0) bytes) ≡ get_or (parts_of bytes) k []
  pub left : drop (length starts) (parts_of bytes) ≡ parts_of (drop start bytes)

pub placed_more : (bytes starts : List ℕ) (start n : ℕ) → start < length bytes → n ≡ length (take (front_len (drop start bytes)) (drop start bytes)) → Placed bytes starts start → Placed bytes (starts ++ start ∷ []) (start + n)
placed_more bytes starts start n h e p =
    let rest = drop start bytes in
    let some : 0 < length rest = omega (arith, length-drop start bytes) in
    let step = parts_step rest some in
    let behind = left_behind bytes start n e in
    let count = length starts in
    let more : length (starts ++ start ∷ []) ≡ count + 1 = omega (arith, length-append starts (start ∷ [])) in
    let next : drop count (parts_of bytes) ≡ take (front_len rest) rest ∷ parts_of (drop (front_len rest) rest) = p.left ∙ step in
    let here : get_or (parts_of bytes) count [] ≡ take (front_len rest) rest =
    ap (λ j. get_or (parts_of bytes) j []) (sym (add-zero count)) ∙ sym (get_or-drop count (parts_of bytes) 0 []) ∙ ap (λ (l : List (List ℕ)). get_or l 0 []) next in
    let last : get_or (starts ++ start ∷ []) count 0 ≡ start = get_or_push starts start 0 count refl in
    record {
      within = omega (arith, e, length-take (front_len rest) rest, length-drop start bytes);
      few = omega (arith, more, ap length next, length-drop count (parts_of bytes));
      inside = λ k q. elim (cases_lt k count) [
        | inl l ↦ omega (arith, get_or_append_left starts (start ∷ []) 0 k l, p.inside k l)
        | inr l ↦
            let same : k ≡ count = omega (arith, more) in
            omega (arith, ap (λ j. get_or (starts ++ start ∷ []) j 0) same, last)
      ];
      places = λ k q. elim (cases_lt k count) [
        | inl l ↦ ap (λ s. take (front_len (drop s bytes)) (drop s bytes)) (get_or_append_left starts (start ∷ []) 0 k l) ∙ p.places k l
        | inr l ↦
            let same : k ≡ count = omega (arith, more) in
            ap (λ s. take (front_len (drop s bytes)) (drop s bytes)) (ap (λ j. get_or (starts ++ start ∷ []) j 0) same ∙ last) ∙ sym here ∙ ap (λ j. get_or (parts_of bytes) j []) (sym same)
      ];
      left = ap (λ m. drop m (parts_of bytes)) more ∙ sym (drop-drop 1 count (parts_of bytes)) ∙ ap (drop 1) next ∙ ap parts_of behind;
    }

-- at the end
pub placed_all : (bytes starts : List ℕ) (start : ℕ) → length bytes ≤ start → Placed bytes starts start → IsIndexed bytes starts
placed_all bytes starts start h p =
    let none = parts_none (drop start bytes) (omega (arith, length-drop start bytes)) in
    let count = ap length (p.left ∙ none) in
    record {
      counted = omega (arith, count, p.few, length-drop (length starts) (parts_of bytes));
      inside = p.inside;
      places = p.places;
    }

-- ---- one part

pub widened : (width : ℕ) (bytes : List ℕ) → width ≤ 8 → IsSpelling width bytes → IsSpelling 8 bytes
widened width bytes narrow s =
    let bits : 8 * width ≤ 64 = omega arith in
    let power : 2 ^ (8 * width) ≤ 2 ^ 64 = pow_mono bits in
    record {
      numbers = s.numbers;
      chunk = record { count = s.chunk.count; below = λ k d h. omega (arith, s.chunk.below k d h, power) };
      spelled = s.spelled;
    }

-- what the part that begins at a place says
pub record IsPart (bytes : List ℕ) (start k : ℕ) : Type 0 where
  pub within : start < length bytes
  pub spelled : IsSpelling 8 (take (front_len (drop start bytes)) (drop start bytes))
  pub numbers : numbers_in (take (front_len (drop start bytes)) (drop start bytes)) ≡ take 1024 (drop (1024 * k) (all_numbers (parts_of bytes)))

pub part_at : (width : ℕ) (bytes starts : List ℕ) (k : ℕ) → ((i : ℕ) → get_or bytes i 0 < 256) → AreChunks width bytes starts → 1024 * (k + 1) ≤ length (all_numbers (parts_of bytes)) → k < length starts × IsPart bytes (get_or starts k 0) k
part_at width bytes starts k fits packed h =
    let parts = parts_of bytes in
    let small : k < length parts = omega (arith, length-all_numbers parts) in
    let there : k < length starts = omega (arith, packed.indexed.counted) in
    let start = get_or starts k 0 in
    let rest = drop start bytes in
    let place = packed.indexed.places k there in
    let below : (i : ℕ) → get_or (get_or parts k []) i 0 < 256 = λ i.
    subst (λ (l : List ℕ). get_or l i 0 < 256) place (fits_part rest (front_len rest) i (λ j. omega (arith, get_or-drop start bytes j 0, fits (start + j)))) in
    let own = widened width (get_or parts k []) packed.narrow (part_spelled width 0 parts k packed.narrow below packed.good small) in (
      there,
      record {
        within = packed.indexed.inside k there;
        spelled = subst (IsSpelling 8) (sym place) own;
        numbers = ap numbers_in place ∙ sym (chunk_of_all parts k small);
      },
    )
