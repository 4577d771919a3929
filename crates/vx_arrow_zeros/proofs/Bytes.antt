-- Bytes that are written over others.
use Rattle.std.proofs.Common.{◌≡◌, ℕ, ◌+◌, ◌-◌, ◌<◌, ◌≤◌, List, ◌++◌, length, get_or, take, drop, ap, ◌∙◌, arith, length-append, length-drop}
use Rattle.std.proofs.lemmas.List.{get_or-append_right, get_or_append_left, get_or-take, get_or-drop, length-take-le}

module _ (xs own : List ℕ) (at n : ℕ) (h : at + n ≤ length xs) (long : length own ≡ n) where
  abbrev pub placed : List ℕ
  placed = take at xs ++ (own ++ drop (at + n) xs)

  front : length (take at xs) ≡ at
  front = length-take-le at xs (omega arith)

  pub placed_long : length placed ≡ length xs
  placed_long =
      let r = length-drop (at + n) xs in
      length-append (take at xs) (own ++ drop (at + n) xs) ∙ ap (λ k. length (take at xs) + k) (length-append own (drop (at + n) xs)) ∙ omega (arith, front, r)

  pub placed_before : (j : ℕ) → j < at → get_or placed j 0 ≡ get_or xs j 0
  placed_before j lt = get_or_append_left (take at xs) (own ++ drop (at + n) xs) 0 j (omega (arith, front)) ∙ get_or-take at xs j 0 lt

  pub placed_in : (i : ℕ) → i < n → get_or placed (at + i) 0 ≡ get_or own i 0
  placed_in i lt =
      let back : at + i - at ≡ i = omega arith in
      get_or-append_right (take at xs) (own ++ drop (at + n) xs) at (at + i) 0 front (omega arith)
      ∙ ap (λ j. get_or (own ++ drop (at + n) xs) j 0) back
      ∙ get_or_append_left own (drop (at + n) xs) 0 i (omega arith)

  pub placed_behind : (j : ℕ) → at + n ≤ j → get_or placed j 0 ≡ get_or xs j 0
  placed_behind j low =
      let back : at + n + (j - at - n) ≡ j = omega arith in
      get_or-append_right (take at xs) (own ++ drop (at + n) xs) at j 0 front (omega arith)
      ∙ get_or-append_right own (drop (at + n) xs) n (j - at) 0 long (omega arith)
      ∙ get_or-drop (at + n) xs (j - at - n) 0
      ∙ ap (λ k. get_or xs k 0) back
