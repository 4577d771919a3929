-- How far a list of numbers names positions.
use Rattle.std.proofs.Common.{◌≡◌, ℕ, zero, suc, ◌+◌, ◌*◌, ◌/◌, ◌%◌, ◌<◌, ◌≤◌, Bool, true, false, eqb, List, [], ◌∷◌, ◌++◌, length, get_or, map, take, drop, Option, None, Some, refl, sym, ap, ap₂, ◌∙◌, subst, arith, add-one, drop-cons}
use Rattle.std.specs.Prelude.{ℤ, IfSome, is_some, if◌then◌else◌, ◌&&◌}
use Rattle.std.specs.Int.{bit_at}
use Rattle.std.specs.List.{list_all}
use Rattle.std.specs.Option.{option_map, option_or}
use Rattle.std.proofs.lemmas.List.{length-map, get_or-map, drop_all, map_more}
use Rattle.std.proofs.lemmas.List.Folds.{list_all-append, list_all_more}
use Rattle.vx_bits.specs.Words.{word_at}
use Rattle.vx_bits.proofs.WordLists.{bit_in_word}
use Rattle.vx_take.specs.Picks.{BoundedPicks}
use Rattle.vx_types.specs.PType.{number}
use Rattle.vx_types.specs.declared.ptype.PType.{PType}
use Rattle.vx_positions.specs.Stored.{number_of, present_numbers, shown_numbers}
use Rattle.vx_positions.specs.Positions.{AllThere, bad_number, first_bad, is_position, position_of, positions_of}
use Rattle.std.specs.Cmp.{first_so, second_so}

module _ (n : ℕ) where
  -- the number at hand is the one, or one behind it is
  pub first_bad-at : (xs : List (Option ℤ)) (i : ℕ) → i < length xs → first_bad n (drop i xs) ≡ option_or (bad_number n (get_or xs i None)) (first_bad n (drop (i + 1) xs))
  first_bad-at xs i h =
      let cut : drop i xs ≡ get_or xs i None ∷ drop (i + 1) xs = rw add-one (drop-cons xs i None h) in
      ap (first_bad n) cut

  -- the number that was read is the one, or one behind it is
  pub first_bad-read : (xs : List (Option ℤ)) (i : ℕ) (x bad : Option ℤ) → i < length xs → x ≡ get_or xs i None → bad ≡ bad_number n x → first_bad n (drop i xs) ≡ option_or bad (first_bad n (drop (i + 1) xs))
  first_bad-read xs i x bad h is was =
      first_bad-at xs i h ∙ ap (λ y. option_or y (first_bad n (drop (i + 1) xs))) (sym (was ∙ ap (bad_number n) is))

  pub stops : (bad rest : Option ℤ) → is_some bad ≡ true → bad ≡ option_or bad rest
  stops None rest h = cc
  stops (Some z) rest h = refl

  pub goes_on : (bad rest : Option ℤ) → is_some bad ≡ false → option_or bad rest ≡ rest
  goes_on None rest h = refl
  goes_on (Some z) rest h = cc

  pub first_bad-end : (xs : List (Option ℤ)) (i : ℕ) → length xs ≤ i → first_bad n (drop i xs) ≡ None
  first_bad-end xs i h = ap (first_bad n) (drop_all i xs h)

  position_here : (z : ℤ) (b : Bool) (rest : Option ℤ) → option_or (if b then None else Some z) rest ≡ None → b ≡ true
  position_here z true rest h = refl
  position_here z false rest h = cc

  good_here : (x rest : Option ℤ) → option_or (bad_number n x) rest ≡ None → IfSome x (λ z. is_position n z ≡ true)
  good_here None rest h = tt
  good_here (Some z) rest h = position_here z (is_position n z) rest h

  good_behind : (x rest : Option ℤ) → option_or x rest ≡ None → rest ≡ None
  good_behind None rest h = h
  good_behind (Some z) rest h = cc

  -- where none is bad, each is a position
  pub each_is_position : (xs : List (Option ℤ)) (i : ℕ) → first_bad n xs ≡ None → i < length xs → IfSome (get_or xs i None) (λ z. is_position n z ≡ true)
  each_is_position [] i h l = absurd (omega arith)
  each_is_position (x ∷ xs) zero h l = good_here x (first_bad n xs) h
  each_is_position (x ∷ xs) (suc i) h l = each_is_position xs i (good_behind (bad_number n x) (first_bad n xs) h) (omega arith)

-- the positions of one number more
pub positions_of-more : (xs : List (Option ℤ)) (i : ℕ) → i < length xs → positions_of (take (i + 1) xs) ≡ positions_of (take i xs) ++ option_map position_of (get_or xs i None) ∷ []
positions_of-more xs i h = map_more (option_map position_of) xs i None h

-- one pick more is there too
pub all_there-more : (picks : List (Option ℕ)) (x : Option ℕ) → AllThere picks → is_some x ≡ true → AllThere (picks ++ x ∷ [])
all_there-more picks x h k = list_all-append is_some picks (x ∷ []) ∙ both h k
  where
    both : {a b : Bool} → a ≡ true → b ≡ true → (a && (b && true)) ≡ true
    both h k = rw (h, k) refl

-- a number is there where none may be missing
pub there_by : (nullable : Bool) (x : Option ℤ) → (x ≡ None → nullable ≡ true) → nullable ≡ false → is_some (option_map position_of x) ≡ true
there_by nullable None h e = let no : false ≡ true = sym e ∙ h refl in cc
there_by nullable (Some z) h e = refl

-- ---- stored numbers

pub length-present_numbers : (p : PType) (records : List (List ℕ)) → length (present_numbers p records) ≡ length records
length-present_numbers p records = length-map records (number_of p)

pub present_at : (p : PType) (records : List (List ℕ)) (i : ℕ) → i < length records → get_or (present_numbers p records) i None ≡ Some (number p (get_or records i []))
present_at p records i h = get_or-map (number_of p) records i [] None h

pub length-shown_numbers : (p : PType) (bits : List Bool) (records : List (List ℕ)) → length bits ≡ length records → length (shown_numbers p bits records) ≡ length records
length-shown_numbers p [] [] h = refl
length-shown_numbers p [] (r ∷ records) h = absurd (omega arith)
length-shown_numbers p (b ∷ bits) [] h = absurd (omega arith)
length-shown_numbers p (b ∷ bits) (r ∷ records) h = omega (arith, length-shown_numbers p bits records (omega arith))

pub shown_at : (p : PType) (bits : List Bool) (records : List (List ℕ)) (i : ℕ) → length bits ≡ length records → i < length records → get_or (shown_numbers p bits records) i None ≡ (if get_or bits i false then Some (number p (get_or records i [])) else None)
shown_at p [] [] i h l = absurd (omega arith)
shown_at p [] (r ∷ records) i h l = absurd (omega arith)
shown_at p (b ∷ bits) [] i h l = absurd (omega arith)
shown_at p (b ∷ bits) (r ∷ records) zero h l = refl
shown_at p (b ∷ bits) (r ∷ records) (suc i) h l = shown_at p bits records i (omega arith) (omega arith)

-- what a proof about one of the numbers needs
pub ruleset numbers = (length-present_numbers, present_at)

-- ---- records that are all positions

module _ (n : ℕ) (p : PType) where
  -- a record spells a position
  abbrev pub is_there : List ℕ → Bool
  is_there r = is_position n (number p r)

  none_bad : (z : ℤ) (rest : Option ℤ) → is_position n z ≡ true → rest ≡ None → option_or (bad_number n (Some z)) rest ≡ None
  none_bad z rest h k = rw (h, k) refl

  pub none_bad-present : (records : List (List ℕ)) → list_all is_there records ≡ true → first_bad n (present_numbers p records) ≡ None
  none_bad-present [] h = refl
  none_bad-present (r ∷ records) h =
      none_bad (number p r) _ (first_so (is_there r) _ h) (none_bad-present records (second_so (is_there r) _ h))

  -- those that are shown are some of them
  pub none_bad-shown : (bits : List Bool) (records : List (List ℕ)) → list_all is_there records ≡ true → first_bad n (shown_numbers p bits records) ≡ None
  none_bad-shown [] records h = refl
  none_bad-shown (b ∷ bits) [] h = refl
  none_bad-shown (true ∷ bits) (r ∷ records) h =
      none_bad (number p r) _ (first_so (is_there r) _ h) (none_bad-shown bits records (second_so (is_there r) _ h))
  none_bad-shown (false ∷ bits) (r ∷ records) h = none_bad-shown bits records (second_so (is_there r) _ h)

  -- where none is bad, each record is a position
  pub record_is_there : (records : List (List ℕ)) (i : ℕ) (d : List ℕ) → first_bad n (present_numbers p records) ≡ None → i < length records → is_position n (number p (get_or records i d)) ≡ true
  record_is_there records i d h l =
      let at : get_or (present_numbers p records) i None ≡ Some (number p (get_or records i d)) = get_or-map (number_of p) records i d None l in
      subst (λ x. IfSome x (λ z. is_position n z ≡ true)) at (each_is_position n (present_numbers p records) i h (omega (arith, l, length-present_numbers p records)))

  -- one record more
  pub test_more : (records : List (List ℕ)) (i : ℕ) (d : List ℕ) (before here : Bool) → i < length records → before ≡ list_all is_there (take i records) → here ≡ is_position n (number p (get_or records i d)) → (before && here) ≡ list_all is_there (take (i + 1) records)
  test_more records i d before here h was is = ap₂ ◌&&◌ was is ∙ sym (list_all_more is_there records i d h)

pub place_more : (p : PType) (records : List (List ℕ)) (i : ℕ) (d : List ℕ) (places new : List ℕ) (x : ℕ) → i < length records → places ≡ map (λ r. position_of (number p r)) (take i records) → new ≡ places ++ x ∷ [] → x ≡ position_of (number p (get_or records i d))
    → new ≡ map (λ r. position_of (number p r)) (take (i + 1) records)
place_more p records i d places new x h are more is =
    let f : List ℕ → ℕ = λ r. position_of (number p r) in
    more ∙ ap₂ (λ (l : List ℕ) (y : ℕ). l ++ y ∷ []) are is ∙ sym (map_more f records i d h)

-- the picks of records that are all there
pub present_picks : (p : PType) (records : List (List ℕ)) → map Some (map (λ r. position_of (number p r)) records) ≡ positions_of (present_numbers p records)
present_picks p [] = refl
present_picks p (r ∷ records) = ap (λ l. Some (position_of (number p r)) ∷ l) (present_picks p records)

pub all_there-positions : (positions : List ℕ) → AllThere (map Some positions)
all_there-positions [] = refl
all_there-positions (x ∷ positions) = all_there-positions positions

-- picks by their parts
pub picks_are : (p : BoundedPicks) (picks : List (Option ℕ)) (bound : ℕ) → p.picks ≡ picks → p.bound ≡ bound → p ≡ record { picks = picks; bound = bound }
picks_are p picks bound e f = rw (← e, ← f) refl

-- ---- numbers by the words of their bits

pub shown_by_word : (p : PType) (bits : List Bool) (records : List (List ℕ)) (i word : ℕ) (x : Option ℤ) → length bits ≡ length records → i < length records → word ≡ word_at bits (i / 64)
    → x ≡ (if eqb (bit_at word (i % 64)) 1 then get_or (present_numbers p records) i None else None) → x ≡ get_or (shown_numbers p bits records) i None
shown_by_word p bits records i word x long h is read =
    let at : 64 * (i / 64) + i % 64 ≡ i = omega arith in
    let bit : eqb (bit_at word (i % 64)) 1 ≡ get_or bits i false =
    ap (λ w. eqb (bit_at w (i % 64)) 1) is ∙ bit_in_word bits (i / 64) (i % 64) (omega arith) ∙ ap (λ k. get_or bits k false) at in
    read ∙ ap₂ (λ (b : Bool) (n : Option ℤ). if b then n else None) bit (present_at p records i h) ∙ sym (shown_at p bits records i long h)
