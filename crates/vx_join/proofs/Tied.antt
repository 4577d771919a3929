-- Keys, the columns that they name, and what is found of them.
use Rattle.std.proofs.Common.{◌≡◌, ℕ, zero, suc, ◌+◌, ◌<◌, ◌≤◌, Bool, true, false, cond, List, [], ◌∷◌, ◌++◌, length, map, take, Option, None, Some, refl, sym, ◌∙◌, ap, ap₂, subst, arith}
use Rattle.std.specs.Prelude.{not, nat_lt, slice_get, slice_index}
use Rattle.std.specs.List.{All, cons_option, position_from}
use Rattle.std.proofs.lemmas.Bool.{ltb-true, and_parts}
use Rattle.std.proofs.lemmas.List.{length-map, map-append, take_more}
use Rattle.std.proofs.lemmas.List.Elements.{All-append, All-cons, All-nil, All-tail}
use Rattle.vx_types.specs.RowValue.{RowValue, null}
use Rattle.vx_types.specs.TypeTree.{also_nullable, is_flat}
use Rattle.vx_types.specs.declared.nullability.Nullability.{Nullability}
use Rattle.vx_types.specs.declared.nullability.Nullability.TheVariants.{NonNullable}
use Rattle.vx_take.specs.Picks.{at}
use Rattle.vx_model.specs.Plain.{is_unwrapped}
use Rattle.vx_model.proofs.Nullabilities.{also_nullable-none}
use Rattle.vx_model.specs.Column.{Column}
use Rattle.vx_positions.specs.Positions.{AllThere}
use Rattle.vx_table.specs.Table.{AreLong, TableValue}
use Rattle.vx_table.specs.Taken.{IsTaken, beside, items_by_number}
use Rattle.vx_table.proofs.Lists.{All-chosen, filter_map-more}
use Rattle.vx_table.proofs.Tables.{retyped}
use Rattle.vx_join.specs.Cells.{rows_of}
use Rattle.vx_join.specs.Join.{IsJoin, has_key_types, have_key_types, is_there}
use Rattle.vx_join.specs.Keys.{AreOfKeyTypes, AreThere, left_keys, right_keys, rows_from}
use Rattle.vx_join.specs.Numbers.{AreAlike, types_of}
use Rattle.vx_join.specs.Pairs.{lefts, pairs, pairs_from, positions_from, rights}

-- ---- pairs of keys that no rule refuses

-- where no item fails a test, each passes
all_pass : {X : Type 0} (p : X → Bool) (P : X → Type 0) → ((x : X) → p x ≡ true → P x) → (xs : List X) (k : ℕ) → position_from (λ x. not (p x)) k xs ≡ None → All P xs
all_pass p P sound [] k h = All-nil P
all_pass {X} p P sound (x ∷ xs) k h = by (p x) refl h (all_pass p P sound xs (k + 1))
  where
    by : (b : Bool) → p x ≡ b → cond (not b) (Some k) (position_from (λ y. not (p y)) (k + 1) xs) ≡ None → (position_from (λ y. not (p y)) (k + 1) xs ≡ None → All P xs) → All P (x ∷ xs)
    by true e g rest = All-cons P x xs (sound x e) (rest g)
    by false e g rest = absurd (cc)

module _ (left right : TableValue) (keys : List (ℕ × ℕ)) where
  pub none_missing : position_from (λ k. not (is_there left right k)) 0 keys ≡ None → AreThere left right keys
  none_missing h =
      all_pass (is_there left right) (λ k. (k.0 < length left.columns) × (k.1 < length right.columns))
      (λ k e. let parts = and_parts (nat_lt k.0 (length left.columns)) (nat_lt k.1 (length right.columns)) e in
      (ltb-true k.0 (length left.columns) parts.0, ltb-true k.1 (length right.columns) parts.1)) keys 0 h

  pub none_of_other_types : position_from (λ k. not (has_key_types left right k)) 0 keys ≡ None → AreOfKeyTypes left right keys
  none_of_other_types h = all_pass (has_key_types left right) (λ k. has_key_types left right k ≡ true) (λ k e. e) keys 0 h

All-map : {X Y : Type 0} (P : Y → Type 0) (f : X → Y) (xs : List X) → All (λ x. P (f x)) xs → All P (map f xs)
All-map P f [] h = All-nil P
All-map {X} P f (x ∷ xs) h = All-cons P (f x) (map f xs) (h zero x (omega arith)) (All-map P f xs (λ k d l. h (suc k) d (omega arith)))

pub left_within : (left right : TableValue) (keys : List (ℕ × ℕ)) → AreThere left right keys → All (λ i. i < length left.columns) (left_keys keys)
left_within left right keys h = All-map (λ i. i < length left.columns) (λ k. k.0) keys (λ k d l. (h k d l).0)

pub right_within : (left right : TableValue) (keys : List (ℕ × ℕ)) → AreThere left right keys → All (λ i. i < length right.columns) (right_keys keys)
right_within left right keys h = All-map (λ i. i < length right.columns) (λ k. k.1) keys (λ k d l. (h k d l).1)

-- ---- their columns

-- what is read of one chosen column more
pub chosen_more : {B : Type 0} (f : Column → B) (columns : List Column) (numbers : List ℕ) (k : ℕ) (keys : List Column) (x a : Column) → map f keys ≡ map f (items_by_number (take k numbers) columns) → k < length numbers
    → slice_get columns (slice_index numbers k) ≡ Some x → f a ≡ f x → map f (keys ++ a ∷ []) ≡ map f (items_by_number (take (k + 1) numbers) columns)
chosen_more f columns numbers k keys x a h within got same =
    map-append f keys (a ∷ []) ∙ ap₂ (λ l y. l ++ y ∷ []) h same ∙ sym (map-append f (items_by_number (take k numbers) columns) (x ∷ []))
    ∙ ap (map f) (sym (ap (λ ns. items_by_number ns columns) (take_more numbers k 0 within) ∙ filter_map-more (slice_get columns) (take k numbers) (slice_index numbers k) x got))

-- one column of a list of one, which are so long
pub one_long : (n : ℕ) (xs : List Column) (x : Column) → xs ≡ x ∷ [] → AreLong n xs → length x.rows ≡ n
one_long n xs x is h = let long = subst (AreLong n) is h in long zero x (omega arith)

alike_more : (o p : Option Column) (ls rs : List Column) → have_key_types o p ≡ true → AreAlike (types_of ls) (types_of rs) → AreAlike (types_of (cons_option o ls)) (types_of (cons_option p rs))
alike_more None p ls rs h rest = absurd (cc)
alike_more (Some a) None ls rs h rest = absurd (cc)
alike_more (Some a) (Some b) ls rs h rest = (h, rest)

pub are_alike : (left right : TableValue) (keys : List (ℕ × ℕ)) → AreOfKeyTypes left right keys → AreAlike (types_of (items_by_number (left_keys keys) left.columns)) (types_of (items_by_number (right_keys keys) right.columns))
are_alike left right [] h = tt
are_alike left right (k ∷ keys) h =
    alike_more (slice_get left.columns k.0) (slice_get right.columns k.1) (items_by_number (left_keys keys) left.columns) (items_by_number (right_keys keys) right.columns)
    (h zero k (omega arith)) (are_alike left right keys (All-tail (λ p. has_key_types left right p ≡ true) k keys h))

long_rows : (n : ℕ) (cs ds : List Column) → rows_of cs ≡ rows_of ds → AreLong n ds → AreLong n cs
long_rows n [] ds e h = All-nil (λ (c : Column). length c.rows ≡ n)
long_rows n (c ∷ cs) [] e h = absurd (cc)
long_rows n (c ∷ cs) (d ∷ ds) e h =
    let here : c.rows ≡ d.rows = cc in
    let rest : rows_of cs ≡ rows_of ds = cc in
    All-cons (λ (x : Column). length x.rows ≡ n) c cs (ap length here ∙ h zero d (omega arith)) (long_rows n cs ds rest (All-tail (λ (x : Column). length x.rows ≡ n) d ds h))

pub long_keys : (t : TableValue) (numbers : List ℕ) (columns : List Column) → AreLong t.len t.columns → rows_of columns ≡ rows_of (items_by_number numbers t.columns) → AreLong t.len columns
long_keys t numbers columns h e =
    long_rows t.len columns (items_by_number numbers t.columns) e (All-chosen (λ (c : Column). length c.rows ≡ t.len) t.columns numbers h)

-- ---- the positions are below the lengths

pub length-rows_from : (columns : List (List RowValue)) (at n : ℕ) → length (rows_from columns at n) ≡ n
length-rows_from columns at zero = refl
length-rows_from columns at (suc n) = ap suc (length-rows_from columns (at + 1) n)

module _ {X Y : Type 0} (m : X → Y → Bool) where
  lefts_same : (bound i : ℕ) (js : List ℕ) → i < bound → All (λ p. p < bound) (lefts (map (λ j. (i, j)) js))
  lefts_same bound i [] h = All-nil (λ p. p < bound)
  lefts_same bound i (j ∷ js) h = All-cons (λ p. p < bound) i (lefts (map (λ k. (i, k)) js)) h (lefts_same bound i js h)

  lefts_from : (bound i : ℕ) (xs : List X) (ys : List Y) → i + length xs ≤ bound → All (λ p. p < bound) (lefts (pairs_from m i xs ys))
  lefts_from bound i [] ys h = All-nil (λ p. p < bound)
  lefts_from bound i (x ∷ xs) ys h =
      let here = map (λ j. (i, j)) (positions_from (m x) 0 ys) in
      subst (All (λ p. p < bound)) (sym (map-append (λ p. p.0) here (pairs_from m (i + 1) xs ys)))
      (All-append (λ p. p < bound) (lefts here) (lefts (pairs_from m (i + 1) xs ys)) (lefts_same bound i (positions_from (m x) 0 ys) (omega arith)) (lefts_from bound (i + 1) xs ys (omega arith)))

  pub lefts_below : (bound : ℕ) (xs : List X) (ys : List Y) → length xs ≡ bound → All (λ p. p < bound) (lefts (pairs m xs ys))
  lefts_below bound xs ys h = lefts_from bound 0 xs ys (omega arith)

  positions_below : (bound at : ℕ) (test : Y → Bool) (ys : List Y) → at + length ys ≤ bound → All (λ p. p < bound) (positions_from test at ys)
  positions_below bound at test [] h = All-nil (λ p. p < bound)
  positions_below bound at test (y ∷ ys) h = by (test y) (positions_below bound (at + 1) test ys (omega arith)) (omega arith)
    where
      by : (b : Bool) → All (λ p. p < bound) (positions_from test (at + 1) ys) → at < bound → All (λ p. p < bound) (cond b (at ∷ positions_from test (at + 1) ys) (positions_from test (at + 1) ys))
      by true rest low = All-cons (λ p. p < bound) at (positions_from test (at + 1) ys) low rest
      by false rest low = rest

  rights_same : (i : ℕ) (js : List ℕ) → rights (map (λ j. (i, j)) js) ≡ js
  rights_same i [] = refl
  rights_same i (j ∷ js) = ap (λ l. j ∷ l) (rights_same i js)

  rights_from : (bound i : ℕ) (xs : List X) (ys : List Y) → length ys ≤ bound → All (λ p. p < bound) (rights (pairs_from m i xs ys))
  rights_from bound i [] ys h = All-nil (λ p. p < bound)
  rights_from bound i (x ∷ xs) ys h =
      let here = map (λ j. (i, j)) (positions_from (m x) 0 ys) in
      subst (All (λ p. p < bound)) (sym (map-append (λ p. p.1) here (pairs_from m (i + 1) xs ys)))
      (All-append (λ p. p < bound) (rights here) (rights (pairs_from m (i + 1) xs ys))
      (subst (All (λ p. p < bound)) (sym (rights_same i (positions_from (m x) 0 ys))) (positions_below bound 0 (m x) ys (omega arith)))
      (rights_from bound (i + 1) xs ys h))

  pub rights_below : (bound : ℕ) (xs : List X) (ys : List Y) → length ys ≡ bound → All (λ p. p < bound) (rights (pairs m xs ys))
  rights_below bound xs ys h = rights_from bound 0 xs ys (omega arith)

-- picks of positions are all there
pub all_some : (positions : List ℕ) → AllThere (map (λ (p : ℕ). Some p) positions)
all_some [] = refl
all_some (p ∷ positions) = all_some positions

-- ---- the joined table

-- a take that leaves no nulls leaves the types
pub plain_take : (t p : TableValue) (n : Nullability) (qs picks : List (Option ℕ)) → n ≡ NonNullable → qs ≡ picks → IsTaken t (λ u. also_nullable u n) qs p → IsTaken t (λ u. u) picks p
plain_take t p n qs picks none e h = retyped t p (λ u. also_nullable u n) (λ u. u) qs picks (λ u. ap (also_nullable u) none ∙ also_nullable-none u) e h

module _ (left right lt rt : TableValue) (ps : List (ℕ × ℕ)) (lp rp : List (Option ℕ)) (l : lp ≡ map (λ (p : ℕ). Some p) (lefts ps)) (r : rp ≡ map (λ (p : ℕ). Some p) (rights ps)) (hl : IsTaken left (λ u. u) lp lt) (hr : IsTaken right (λ u. u) rp rt) where
  left_count : lt.len ≡ length ps
  left_count = hl.len ∙ ap length l ∙ length-map (lefts ps) (λ (p : ℕ). Some p) ∙ length-map ps (λ p. p.0)

  right_count : rt.len ≡ length ps
  right_count = hr.len ∙ ap length r ∙ length-map (rights ps) (λ (p : ℕ). Some p) ∙ length-map ps (λ p. p.1)

  pub same_len : rt.len ≡ lt.len
  same_len = right_count ∙ sym left_count

  pub joined : (t : TableValue) → t ≡ beside lt rt → IsJoin left right ps t
  joined t is =
      subst (IsJoin left right ps) (sym is) (record {
        len = left_count;
        names = ap₂ ◌++◌ hl.names hr.names;
        types = map-append (λ (c : Column). c.dtype) lt.columns rt.columns ∙ ap₂ ◌++◌ hl.columns.types hr.columns.types;
        rows = map-append (λ (c : Column). c.rows) lt.columns rt.columns
            ∙ ap₂ ◌++◌ (hl.columns.rows ∙ ap (λ q. map (λ (c : Column). at null c.rows q) left.columns) l) (hr.columns.rows ∙ ap (λ q. map (λ (c : Column). at null c.rows q) right.columns) r);
        unwrapped = All-append (λ (c : Column). is_flat c.dtype ≡ true → is_unwrapped c ≡ true) lt.columns rt.columns hl.columns.unwrapped hr.columns.unwrapped;
      })
