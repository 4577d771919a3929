-- Columns side by side, and what a step over each of them leaves.
use Rattle.std.proofs.Common.{◌≡◌, ℕ, zero, suc, ◌-◌, ◌<◌, ◌≤◌, Bool, true, false, List, [], ◌∷◌, map, length, take, drop, get_or, slice_range, Option, None, Some, refl, sym, ap, ap₂, ◌∙◌, arith}
use Rattle.std.specs.Prelude.{◌==◌, replicate}
use Rattle.std.specs.Cmp.{first_so, second_so}
use Rattle.std.specs.List.{items_where_true}
use Rattle.std.proofs.lemmas.Bool.Decides.{nat_tests}
use Rattle.std.proofs.lemmas.List.{length-map, length-replicate, get_or-replicate, get_or_default}
use Rattle.vx_bits.specs.BitBuffer.{true_count_of}
use Rattle.vx_types.specs.RowValue.{RowValue, null}
use Rattle.vx_types.specs.TypeTree.{TypeTree}
use Rattle.vx_take.specs.Picks.{AreBelow, at, item_at}
use Rattle.vx_positions.specs.Positions.{AllThere}
use Rattle.vx_model.specs.Column.{Column}
use Rattle.vx_model.specs.Columns.{AreCuts, AreSteps, are_long, columns_depth, firsts_for_nulls, rows_across, types_in, with_fronts}
use Rattle.vx_mask.proofs.RangeCounts.{slice_range-replicate}
use Rattle.vx_model.proofs.Items.{items_where_true-replicate, length-slice_range}
use Rattle.vx_mask.proofs.RankedItems.{length-items_where_true}

-- ---- lists with one more item in front of each

module _ {X : Type 0} where
  none-with_fronts : (xs : List X) → with_fronts xs [] ≡ []
  none-with_fronts [] = refl
  none-with_fronts (x ∷ xs) = refl

  pub length-with_fronts : (xs : List X) (ls : List (List X)) → length xs ≡ length ls → length (with_fronts xs ls) ≡ length ls
  length-with_fronts [] [] h = refl
  length-with_fronts [] (l ∷ ls) h = absurd (omega arith)
  length-with_fronts (x ∷ xs) [] h = absurd (omega arith)
  length-with_fronts (x ∷ xs) (l ∷ ls) h = omega (arith, length-with_fronts xs ls (omega arith))

  pub get_or-with_fronts : (xs : List X) (ls : List (List X)) (i : ℕ) (x : X) (l d : List X) → i < length xs → i < length ls → get_or (with_fronts xs ls) i d ≡ get_or xs i x ∷ get_or ls i l
  get_or-with_fronts [] ls i x l d h k = absurd (omega arith)
  get_or-with_fronts (y ∷ xs) [] i x l d h k = absurd (omega arith)
  get_or-with_fronts (y ∷ xs) (m ∷ ls) zero x l d h k = refl
  get_or-with_fronts (y ∷ xs) (m ∷ ls) (suc i) x l d h k = get_or-with_fronts xs ls i x l d (omega arith) (omega arith)

  take-with_fronts : (n : ℕ) (xs : List X) (ls : List (List X)) → with_fronts (take n xs) (take n ls) ≡ take n (with_fronts xs ls)
  take-with_fronts zero xs ls = refl
  take-with_fronts (suc n) [] ls = refl
  take-with_fronts (suc n) (x ∷ xs) [] = refl
  take-with_fronts (suc n) (x ∷ xs) (l ∷ ls) = ap (λ r. (x ∷ l) ∷ r) (take-with_fronts n xs ls)

  drop-with_fronts : (n : ℕ) (xs : List X) (ls : List (List X)) → with_fronts (drop n xs) (drop n ls) ≡ drop n (with_fronts xs ls)
  drop-with_fronts zero xs ls = refl
  drop-with_fronts (suc n) [] ls = refl
  drop-with_fronts (suc n) (x ∷ xs) [] = none-with_fronts (drop n xs)
  drop-with_fronts (suc n) (x ∷ xs) (l ∷ ls) = drop-with_fronts n xs ls

  slice-with_fronts : (xs : List X) (ls : List (List X)) (s e : ℕ) → with_fronts (slice_range xs s e) (slice_range ls s e) ≡ slice_range (with_fronts xs ls) s e
  slice-with_fronts xs ls s e = take-with_fronts (e - s) (drop s xs) (drop s ls) ∙ ap (take (e - s)) (drop-with_fronts s xs ls)

  filter-with_fronts : (mask : List Bool) (xs : List X) (ls : List (List X)) → with_fronts (items_where_true mask xs) (items_where_true mask ls) ≡ items_where_true mask (with_fronts xs ls)
  filter-with_fronts [] xs ls = refl
  filter-with_fronts (b ∷ mask) [] ls = refl
  filter-with_fronts (b ∷ mask) (x ∷ xs) [] = none-with_fronts (items_where_true (b ∷ mask) (x ∷ xs))
  filter-with_fronts (true ∷ mask) (x ∷ xs) (l ∷ ls) = ap (λ r. (x ∷ l) ∷ r) (filter-with_fronts mask xs ls)
  filter-with_fronts (false ∷ mask) (x ∷ xs) (l ∷ ls) = filter-with_fronts mask xs ls

  at-with_fronts : (x : X) (picks : List (Option ℕ)) (n : ℕ) (xs : List X) (ls : List (List X)) → AllThere picks → AreBelow picks n → length xs ≡ n → length ls ≡ n → with_fronts (at x xs picks) (at [] ls picks) ≡ at [] (with_fronts xs ls) picks
  at-with_fronts x [] n xs ls there below h k = refl
  at-with_fronts x (None ∷ picks) n xs ls there below h k = cc
  at-with_fronts x (Some p ∷ picks) n xs ls there below h k =
      let in_range : p < n = below zero None (omega arith) in
      ap₂ ◌∷◌ (sym (get_or-with_fronts xs ls p x [] [] (omega (arith, h, in_range)) (omega (arith, k, in_range))))
      (at-with_fronts x picks n xs ls there (λ k d l. below (suc k) d (omega arith)) h k)

  at-none : (picks : List (Option ℕ)) (n : ℕ) → AllThere picks → AreBelow picks n → at [] (replicate n (let none : List X = [] in none)) picks ≡ replicate (length picks) []
  at-none [] n there below = refl
  at-none (None ∷ picks) n there below = cc
  at-none (Some p ∷ picks) n there below =
      ap₂ ◌∷◌ (get_or-replicate n p [] [] (below zero None (omega arith)))
      (at-none picks n there (λ k d l. below (suc k) d (omega arith)))

-- ---- columns of one length

long-first : (n : ℕ) (c : Column) (cs : List Column) → are_long n (c ∷ cs) ≡ true → length c.rows ≡ n
long-first n c cs h =
    let same : (length c.rows == n) ≡ true = first_so (length c.rows == n) (are_long n cs) h in
    grind (arith, nat_tests)

long-others : (n : ℕ) (c : Column) (cs : List Column) → are_long n (c ∷ cs) ≡ true → are_long n cs ≡ true
long-others n c cs h = second_so (length c.rows == n) (are_long n cs) h

long-both : (n : ℕ) (c : Column) (cs : List Column) → length c.rows ≡ n → are_long n cs ≡ true → are_long n (c ∷ cs) ≡ true
long-both n c cs h k =
    let same : (length c.rows == n) ≡ true = grind (arith, nat_tests) in
    rw (same, k) refl

pub long-get : (n : ℕ) (cs : List Column) (i : ℕ) (d : Column) → are_long n cs ≡ true → i < length cs → length (get_or cs i d).rows ≡ n
long-get n [] i d h l = absurd (omega arith)
long-get n (c ∷ cs) zero d h l = long-first n c cs h
long-get n (c ∷ cs) (suc i) d h l = long-get n cs i d (long-others n c cs h) (omega arith)

-- each column nests less deep than all
pub shallow-get : (cs : List Column) (i : ℕ) (d : Column) → i < length cs → (get_or cs i d).depth < columns_depth cs
shallow-get [] i d l = absurd (omega arith)
shallow-get (c ∷ cs) zero d l = omega arith
shallow-get (c ∷ cs) (suc i) d l = omega (arith, shallow-get cs i d (omega arith))

pub length-rows_across : (cs : List Column) (n : ℕ) → are_long n cs ≡ true → length (rows_across cs n) ≡ n
length-rows_across [] n h = length-replicate n []
length-rows_across (c ∷ cs) n h =
    let others = length-rows_across cs n (long-others n c cs h) in
    length-with_fronts c.rows (rows_across cs n) (long-first n c cs h ∙ sym others) ∙ others

-- row i of each
pub row-rows_across : (cs : List Column) (n i : ℕ) (d : List RowValue) → are_long n cs ≡ true → i < n → get_or (rows_across cs n) i d ≡ map (λ (c : Column). get_or c.rows i null) cs
row-rows_across [] n i d h l = get_or-replicate n i [] d l
row-rows_across (c ∷ cs) n i d h l =
    let long = long-first n c cs h in
    let others = length-rows_across cs n (long-others n c cs h) in
    get_or-with_fronts c.rows (rows_across cs n) i null d d (omega (arith, long)) (omega (arith, others))
    ∙ ap (λ r. get_or c.rows i null ∷ r) (row-rows_across cs n i d (long-others n c cs h) l)

-- ---- a step over each column

pub steps-cuts : (f : List RowValue → List RowValue) (cs left : List Column) → AreCuts f cs left → AreSteps f cs left
steps-cuts f [] [] h = tt
steps-cuts f [] (a ∷ left) h = absurd h
steps-cuts f (c ∷ cs) [] h = absurd h
steps-cuts f (c ∷ cs) (a ∷ left) h = (h.0.step, steps-cuts f cs left h.1)

pub depth-cuts : (f : List RowValue → List RowValue) (cs left : List Column) → AreCuts f cs left → columns_depth left ≤ columns_depth cs
depth-cuts f [] [] h = omega arith
depth-cuts f [] (a ∷ left) h = absurd h
depth-cuts f (c ∷ cs) [] h = absurd h
depth-cuts f (c ∷ cs) (a ∷ left) h = omega (arith, h.0.depth, depth-cuts f cs left h.1)

pub types-steps : (f : List RowValue → List RowValue) (cs left : List Column) → AreSteps f cs left → types_in left ≡ types_in cs
types-steps f [] [] h = refl
types-steps f [] (a ∷ left) h = absurd h
types-steps f (c ∷ cs) [] h = absurd h
types-steps f (c ∷ cs) (a ∷ left) h = ap₂ (λ (t : TypeTree) ts. t ∷ ts) h.0.dtype (types-steps f cs left h.1)

-- rows of n that leave m
module _ (f : List RowValue → List RowValue) (n m : ℕ) (count : (rows : List RowValue) → length rows ≡ n → length (f rows) ≡ m) where
  pub long-steps : (cs left : List Column) → are_long n cs ≡ true → AreSteps f cs left → are_long m left ≡ true
  long-steps [] [] h steps = refl
  long-steps [] (a ∷ left) h steps = absurd steps
  long-steps (c ∷ cs) [] h steps = absurd steps
  long-steps (c ∷ cs) (a ∷ left) h steps =
      long-both m a left (ap length steps.0.rows ∙ count c.rows (long-first n c cs h)) (long-steps cs left (long-others n c cs h) steps.1)

  -- what is left of the rows across is what g leaves of them
  pub across-steps : (g : List (List RowValue) → List (List RowValue)) → g (replicate n []) ≡ replicate m [] → ((xs : List RowValue) (ls : List (List RowValue)) → length xs ≡ n → length ls ≡ n → with_fronts (f xs) (g ls) ≡ g (with_fronts xs ls)) → (cs left : List Column) → are_long n cs ≡ true → AreSteps f cs left → rows_across left m ≡ g (rows_across cs n)
  across-steps g none fronts [] [] h steps = sym none
  across-steps g none fronts [] (a ∷ left) h steps = absurd steps
  across-steps g none fronts (c ∷ cs) [] h steps = absurd steps
  across-steps g none fronts (c ∷ cs) (a ∷ left) h steps =
      ap₂ with_fronts steps.0.rows (across-steps g none fronts cs left (long-others n c cs h) steps.1)
      ∙ fronts c.rows (rows_across cs n) (long-first n c cs h) (length-rows_across cs n (long-others n c cs h))

-- ---- slices, filters, takes

module _ (n : ℕ) (cs left : List Column) (long : are_long n cs ≡ true) where
  pub across-slice : (s e : ℕ) → s ≤ e → e ≤ n → AreSteps (λ rows. slice_range rows s e) cs left → rows_across left (e - s) ≡ slice_range (rows_across cs n) s e
  across-slice s e h l steps =
      across-steps (λ rows. slice_range rows s e) n (e - s) (λ rows k. length-slice_range rows s e h (omega (arith, k)))
      (λ ls. slice_range ls s e) (slice_range-replicate n [] s e h l) (λ xs ls _ _. slice-with_fronts xs ls s e) cs left long steps

  pub long-slice : (s e : ℕ) → s ≤ e → e ≤ n → AreSteps (λ rows. slice_range rows s e) cs left → are_long (e - s) left ≡ true
  long-slice s e h l steps =
      long-steps (λ rows. slice_range rows s e) n (e - s) (λ rows k. length-slice_range rows s e h (omega (arith, k))) cs left long steps

  pub across-filter : (mask : List Bool) → length mask ≡ n → AreSteps (items_where_true mask) cs left → rows_across left (true_count_of mask) ≡ items_where_true mask (rows_across cs n)
  across-filter mask h steps =
      across-steps (items_where_true mask) n (true_count_of mask) (λ rows k. length-items_where_true mask rows (h ∙ sym k))
      (items_where_true mask) (ap (λ k. items_where_true mask (replicate k [])) (sym h) ∙ items_where_true-replicate mask []) (λ xs ls _ _. filter-with_fronts mask xs ls) cs left long steps

  pub long-filter : (mask : List Bool) → length mask ≡ n → AreSteps (items_where_true mask) cs left → are_long (true_count_of mask) left ≡ true
  long-filter mask h steps =
      long-steps (items_where_true mask) n (true_count_of mask) (λ rows k. length-items_where_true mask rows (h ∙ sym k)) cs left long steps

  pub across-take : (picks : List (Option ℕ)) → AllThere picks → AreBelow picks n → AreSteps (λ rows. at null rows picks) cs left → rows_across left (length picks) ≡ at [] (rows_across cs n) picks
  across-take picks there below steps =
      across-steps (λ rows. at null rows picks) n (length picks) (λ rows k. length-map picks (item_at null rows))
      (λ ls. at [] ls picks) (at-none picks n there below) (λ xs ls h k. at-with_fronts null picks n xs ls there below h k) cs left long steps

  pub long-take : (picks : List (Option ℕ)) → AreSteps (λ rows. at null rows picks) cs left → are_long (length picks) left ≡ true
  long-take picks steps =
      long-steps (λ rows. at null rows picks) n (length picks) (λ rows k. length-map picks (item_at null rows)) cs left long steps

  pub across-same : AreSteps (λ rows. rows) cs left → rows_across left n ≡ rows_across cs n
  across-same steps = across-steps (λ rows. rows) n n (λ rows k. k) (λ ls. ls) refl (λ xs ls _ _. refl) cs left long steps

  pub long-same : AreSteps (λ rows. rows) cs left → are_long n left ≡ true
  long-same steps = long-steps (λ rows. rows) n n (λ rows k. k) cs left long steps

-- ---- the first position in place of each null

pub there-firsts : (picks : List (Option ℕ)) → AllThere (firsts_for_nulls picks)
there-firsts [] = refl
there-firsts (pick ∷ picks) = there-firsts picks

pub at-firsts : {X : Type 0} (missing : X) (items : List X) (picks : List (Option ℕ)) (n : ℕ) → AreBelow picks n → length items ≡ n → at missing items (firsts_for_nulls picks) ≡ at (get_or items 0 missing) items picks
at-firsts missing items [] n below long = refl
at-firsts missing items (None ∷ picks) n below long =
    ap (λ l. get_or items 0 missing ∷ l) (at-firsts missing items picks n (λ k d l. below (suc k) d (omega arith)) long)
at-firsts missing items (Some p ∷ picks) n below long =
    let in_range : p < n = below zero None (omega arith) in
    ap₂ ◌∷◌ (get_or_default items p missing (get_or items 0 missing) (omega (arith, in_range, long)))
    (at-firsts missing items picks n (λ k d l. below (suc k) d (omega arith)) long)
