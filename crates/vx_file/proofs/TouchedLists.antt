-- The blocks that picks touch, and what is held of them.
use Rattle.std.proofs.Common.{◌≡◌, ℕ, zero, suc, ◌+◌, ◌-◌, ◌<◌, ◌≤◌, Bool, true, List, [], ◌∷◌, ◌++◌, Option, length, get_or, take, drop, inl, inr, refl, sym, ap, subst, ◌∙◌, arith}
use Rattle.std.specs.Prelude.{if◌then◌else◌}
use Rattle.std.specs.List.{flat_map, list_any, range_with_len}
use Rattle.std.proofs.lemmas.Bool.{cases_lt}
use Rattle.std.proofs.lemmas.List.{drop-append-le, flat_map_more, get_or_append_left, get_or_push, length-append, length-drop, map-id, take-append-drop, take-append-le}
use Rattle.std.proofs.lemmas.List.FromFn.{map-range_with_len_more}
use Rattle.vx_file.specs.Blocks.{block_at}
use Rattle.vx_file.specs.Reading.{AreHeld, HasRoom, IsHeld}
use Rattle.vx_file.specs.Touched.{block_of_rows, lies_in, blocks_touched}

pub touched_none : (picks : List (Option ℕ)) → blocks_touched picks 0 ≡ []
unfolding blocks_touched
touched_none picks = refl

pub touched_more : (picks : List (Option ℕ)) (k : ℕ) → blocks_touched picks (k + 1) ≡ blocks_touched picks k ++ block_of_rows (list_any (lies_in k) picks) k
unfolding blocks_touched
touched_more picks k =
    let f : ℕ → List ℕ = λ j. block_of_rows (list_any (lies_in j) picks) j in
    let more = map-range_with_len_more (λ j. j) 0 k k (omega arith) in
    let range : range_with_len 0 (k + 1) ≡ range_with_len 0 k ++ k ∷ [] = sym (map-id (range_with_len 0 (k + 1))) ∙ more ∙ ap (λ l. l ++ k ∷ []) (map-id (range_with_len 0 k)) in
    ap (flat_map f) range ∙ sym (flat_map_more f [] (range_with_len 0 k) k)

longer : (picks : List (Option ℕ)) (k m : ℕ) → length (blocks_touched picks k) ≤ length (blocks_touched picks (k + m))
longer picks k zero = let e : k ≡ k + 0 = omega arith in omega (arith, ap (λ j. length (blocks_touched picks j)) e)
longer picks k (suc m) =
    let e : k + m + 1 ≡ k + suc m = omega arith in
    let last = block_of_rows (list_any (lies_in (k + m)) picks) (k + m) in
    omega (arith, longer picks k m, ap length (touched_more picks (k + m)), length-append (blocks_touched picks (k + m)) last, ap (λ j. length (blocks_touched picks j)) e)

pub touched_longer : (picks : List (Option ℕ)) (k n : ℕ) → k ≤ n → length (blocks_touched picks k) ≤ length (blocks_touched picks n)
touched_longer picks k n h = let e : k + (n - k) ≡ n = omega arith in subst (λ (j : ℕ). length (blocks_touched picks k) ≤ length (blocks_touched picks j)) e (longer picks k (n - k))

-- ---- what is held

-- numbers behind others leave a part of these
part_stays : (xs ys : List ℕ) (s : ℕ) → s + 1024 ≤ length xs → take 1024 (drop s (xs ++ ys)) ≡ take 1024 (drop s xs)
part_stays xs ys s h = ap (take 1024) (drop-append-le s xs ys (omega arith)) ∙ take-append-le 1024 (drop s xs) ys (omega (arith, length-drop s xs))

pub held_stays : (width : ℕ) (numbers new : List ℕ) (start : ℕ) (bytes : List ℕ) → take (length numbers) new ≡ numbers → start + 1024 ≤ length numbers → IsHeld width numbers start bytes → IsHeld width new start bytes
held_stays width numbers new start bytes e h p =
    let parts : new ≡ numbers ++ drop (length numbers) new = sym (take-append-drop (length numbers) new) ∙ ap (λ l. l ++ drop (length numbers) new) e in
    record {
      spelled = p.spelled;
      values = ap (λ l. take 1024 (drop start l)) parts ∙ part_stays numbers (drop (length numbers) new) start h ∙ p.values;
    }

module _ (numbers new starts : List ℕ) (picks : List (Option ℕ)) (k : ℕ) (picked : Bool) where
  start_of : (j : ℕ) → length starts ≡ k → j < k + 1 → (j < k → get_or (starts ++ length numbers ∷ []) j 0 ≡ get_or starts j 0) × (j ≡ k → get_or (starts ++ length numbers ∷ []) j 0 ≡ length numbers)
  start_of j long h = (λ l. get_or_append_left starts (length numbers ∷ []) 0 j (omega arith), λ e. get_or_push starts (length numbers) 0 j (long ∙ sym e))

  pub room_more : picked ≡ list_any (lies_in k) picks → length new ≡ length numbers + (if picked then 1024 else 0) → HasRoom numbers starts picks k → HasRoom new (starts ++ length numbers ∷ []) picks (k + 1)
  room_more here grown r =
      record {
        long = omega (arith, length-append starts (length numbers ∷ []), r.long);
        inside = λ j h any. elim (cases_lt j k) [
          | inl l ↦ omega (arith, (start_of j r.long h).0 l, r.inside j l any, grown)
          | inr l ↦
              let same : j ≡ k = omega arith in
              let yes : picked ≡ true = here ∙ sym (ap (λ i. list_any (lies_in i) picks) same) ∙ any in
              omega (arith, (start_of j r.long h).1 same, grown, ap {B = ℕ} (λ (b : Bool). if b then 1024 else 0) yes)
        ];
      }

  pub held_more : (width : ℕ) (blocks : List (List ℕ)) → picked ≡ list_any (lies_in k) picks → take (length numbers) new ≡ numbers → HasRoom numbers starts picks k → AreHeld width numbers starts picks k blocks → (picked ≡ true → IsHeld width new (length numbers) (block_at blocks (k + 1))) → AreHeld width new (starts ++ length numbers ∷ []) picks (k + 1) blocks
  held_more width blocks here front r held last = λ j h any. elim (cases_lt j k) [
    | inl l ↦ subst (λ (s : ℕ). IsHeld width new s (block_at blocks (j + 1))) (sym ((start_of j r.long h).0 l)) (held_stays width numbers new (get_or starts j 0) (block_at blocks (j + 1)) front (r.inside j l any) (held j l any))
    | inr l ↦
        let same : j ≡ k = omega arith in
        let yes : picked ≡ true = here ∙ sym (ap (λ i. list_any (lies_in i) picks) same) ∙ any in
        let own = subst (λ (i : ℕ). IsHeld width new (length numbers) (block_at blocks (i + 1))) (sym same) (last yes) in
        subst (λ (s : ℕ). IsHeld width new s (block_at blocks (j + 1))) (sym ((start_of j r.long h).1 same)) own
  ]
