-- A page of the table of a struct's fields is that page of the structs.
use Rattle.std.proofs.Common.{◌≡◌, ℕ, zero, suc, ◌+◌, Bool, true, false, List, [], ◌∷◌, ◌++◌, drop, map, length, get_or, Option, None, Some, refl, sym, ap, ap₂, ◌∙◌, subst, arith, eq-eqb}
use Rattle.std.specs.Prelude.{Result, IsErrAnd, ◌==◌, replicate, slice_get}
use Rattle.std.specs.Cmp.{second_so}
use Rattle.std.specs.List.{cons_option, filter_map, range_with_len}
use Rattle.std.proofs.lemmas.Bool.{eqb-true}
use Rattle.std.proofs.lemmas.List.{drop_all, length-map, map-id}
use Rattle.std.proofs.lemmas.List.FromFn.{map-range_with_len_more}
use Rattle.vx_types.specs.FieldTypes.{FieldTypes}
use Rattle.vx_types.specs.Fields.{fields_fault}
use Rattle.vx_types.specs.RowValue.{RowValue, null, fields, more, row_values}
use Rattle.vx_types.specs.TypeTree.{TypeTree, TypeTrees, more_types, struct_kind, types_of}
use Rattle.vx_types.specs.declared.nullability.Nullability.TheVariants.{NonNullable}
use Rattle.vx_take.specs.Picks.{at}
use Rattle.vx_model.specs.Column.{Column}
use Rattle.vx_model.specs.Columns.{are_long, rows_across, types_in, with_fronts}
use Rattle.vx_model.specs.Struct.{StructParts, fields_row, stored_structs, struct_column, struct_fault, struct_of}
use Rattle.vx_model.specs.Valid.{non_nullable, stored_rows}
use Rattle.vx_model.proofs.Across.{length-rows_across, long-get}
use Rattle.vx_model.proofs.ShownRows.{shown_rows-all}
use Rattle.vx_model.proofs.StructSteps.{fault-made, long-struct, rows-struct, trees-struct}
use Rattle.vx_model.proofs.Takes.{map-at}
use Rattle.vx_steps.specs.Answer.{answer_fault, answer_rows, type_after}
use Rattle.vx_steps.specs.Cause.{MatchError}
use Rattle.vx_steps.specs.Check.{HasCount}
use Rattle.vx_steps.specs.Compose.{IsUnbroken}
use Rattle.vx_steps.specs.Step.{StepValue}
use Rattle.vx_steps.specs.Walk.{Walk, walk_fault, walk_picks, walk}
use Rattle.vx_steps.specs.declared.cause.SelectError.{SelectError}
use Rattle.vx_steps.specs.declared.cause.SelectError.TheVariants.{Broken, NoMemory}
use Rattle.vx_select.specs.Select.{IsAnswer, IsRows}
use Rattle.vx_table.specs.Page.{IsPage, cut}
use Rattle.vx_table.specs.Table.{AreLong, TableValue, table_fault}
use Rattle.vx_table.specs.Taken.{IsTaken, columns_at}
use Rattle.vx_table.proofs.Lists.{drop_get, got}
use Rattle.vx_table.proofs.Tables.{no_fault}
use Rattle.vx_rows.specs.Pages.{nulls_for, page_answer, page_by_walk, page_type, types_after}
use Rattle.vx_rows.specs.Tables.{fields_table, table_structs}
use Rattle.vx_select.proofs.ChunkRows.{answered_err}
use Rattle.std.proofs.lemmas.List.Elements.{All-tail}
use Rattle.vx_types.proofs.Alike.{length-types_of}
use Rattle.vx_steps.proofs.Unbroken.{counted_walk}

-- ---- columns side by side, at picks

module _ {X : Type 0} where
  get_or-fronts : (xs : List X) (ls : List (List X)) (i : ℕ) (x : X) (l : List X) → length xs ≡ length ls → get_or (with_fronts xs ls) i (x ∷ l) ≡ get_or xs i x ∷ get_or ls i l
  get_or-fronts [] [] i x l h = refl
  get_or-fronts [] (m ∷ ls) i x l h = absurd (omega arith)
  get_or-fronts (y ∷ xs) [] i x l h = absurd (omega arith)
  get_or-fronts (y ∷ xs) (m ∷ ls) zero x l h = refl
  get_or-fronts (y ∷ xs) (m ∷ ls) (suc i) x l h = get_or-fronts xs ls i x l (omega arith)

  at-fronts : (x : X) (l : List X) (picks : List (Option ℕ)) (xs : List X) (ls : List (List X)) → length xs ≡ length ls → with_fronts (at x xs picks) (at l ls picks) ≡ at (x ∷ l) (with_fronts xs ls) picks
  at-fronts x l [] xs ls h = refl
  at-fronts x l (None ∷ picks) xs ls h = ap (λ r. (x ∷ l) ∷ r) (at-fronts x l picks xs ls h)
  at-fronts x l (Some p ∷ picks) xs ls h = ap₂ ◌∷◌ (sym (get_or-fronts xs ls p x l h)) (at-fronts x l picks xs ls h)

  get_or-none : (n i : ℕ) → get_or (replicate n (let none : List X = [] in none)) i [] ≡ []
  get_or-none zero i = refl
  get_or-none (suc n) zero = refl
  get_or-none (suc n) (suc i) = get_or-none n i

  at-none : (n : ℕ) (picks : List (Option ℕ)) → at [] (replicate n (let none : List X = [] in none)) picks ≡ replicate (length picks) []
  at-none n [] = refl
  at-none n (None ∷ picks) = ap (λ r. [] ∷ r) (at-none n picks)
  at-none n (Some p ∷ picks) = ap₂ ◌∷◌ (get_or-none n p) (at-none n picks)

-- a null for each column
abbrev nulls_in : List Column → List RowValue
nulls_in cs = map (λ (c : Column). null) cs

-- the rows across columns that are taken at picks
across-taken : (n : ℕ) (picks : List (Option ℕ)) (cs taken : List Column) → are_long n cs ≡ true → map (λ (c : Column). c.rows) taken ≡ map (λ (c : Column). at null c.rows picks) cs → rows_across taken (length picks) ≡ at (nulls_in cs) (rows_across cs n) picks
across-taken n picks [] [] h e = sym (at-none n picks)
across-taken n picks [] (a ∷ taken) h e = absurd (cc)
across-taken n picks (c ∷ cs) [] h e = absurd (cc)
across-taken n picks (c ∷ cs) (a ∷ taken) h e =
    let here : a.rows ≡ at null c.rows picks = cc in
    let rest : map (λ (x : Column). x.rows) taken ≡ map (λ (x : Column). at null x.rows picks) cs = cc in
    let others : are_long n cs ≡ true = second_so (length c.rows == n) (are_long n cs) h in
    let same : length c.rows ≡ length (rows_across cs n) = long-get n (c ∷ cs) 0 c h (omega arith) ∙ sym (length-rows_across cs n others) in
    ap₂ with_fronts here (across-taken n picks cs taken others rest)
    ∙ at-fronts null (nulls_in cs) picks c.rows (rows_across cs n) same

row-nulls : (cs : List Column) → row_values (nulls_in cs) ≡ nulls_for (types_of (types_in cs))
row-nulls [] = refl
row-nulls (c ∷ cs) = ap (more null) (row-nulls cs)

types-taken : (steps : List StepValue) (cs taken : List Column) → map (λ (c : Column). c.dtype) taken ≡ map (λ (c : Column). type_after c.dtype steps) cs → types_of (types_in taken) ≡ types_after steps (types_of (types_in cs))
types-taken steps [] [] e = refl
types-taken steps [] (a ∷ taken) e = absurd (cc)
types-taken steps (c ∷ cs) [] e = absurd (cc)
types-taken steps (c ∷ cs) (a ∷ taken) e =
    let here : a.dtype ≡ type_after c.dtype steps = cc in
    let rest : map (λ (x : Column). x.dtype) taken ≡ map (λ (x : Column). type_after x.dtype steps) cs = cc in
    ap₂ (λ (t : TypeTree) ts. more_types t.kind t.nullability ts) here (types-taken steps cs taken rest)

-- ---- all columns of a table

chosen-rest : {X : Type 0} (xs : List X) (a n : ℕ) → a + n ≡ length xs → filter_map (slice_get xs) (range_with_len a n) ≡ drop a xs
chosen-rest xs a zero h = sym (drop_all a xs (omega arith))
chosen-rest xs a (suc n) h =
    let here = got xs a (omega arith) in
    ap₂ cons_option here.1 (chosen-rest xs (a + 1) n (omega arith)) ∙ sym (drop_get xs a here.0 here.1)

chosen-all : {X : Type 0} (xs : List X) (n : ℕ) → n ≡ length xs → filter_map (slice_get xs) (range_with_len 0 n) ≡ xs
chosen-all xs n h = chosen-rest xs 0 n (omega arith)

projected-all : (t : TableValue) → length t.names ≡ length t.columns → columns_at t (range_with_len 0 (length t.columns)) ≡ t
projected-all t h =
    let names = chosen-all t.names (length t.columns) (sym h) in
    let columns = chosen-all t.columns (length t.columns) refl in
    λ i. record { names = names i; columns = columns i; len = t.len }

-- ---- the fields of structs are a table, and the columns of a table are fields

long_by : (n : ℕ) (cs : List Column) → AreLong n cs → are_long n cs ≡ true
long_by n [] h = refl
long_by n (c ∷ cs) h =
    let here : (length c.rows == n) ≡ true = eq-eqb (length c.rows) n (h zero c (omega arith)) in
    rw here (long_by n cs (All-tail (λ (x : Column). length x.rows ≡ n) c cs h))

pub many_names : (f : FieldTypes) → fields_fault f ≡ None → length f.names ≡ length f.types
many_names f h = by (length f.names == length f.types) refl
  where
    by : (b : Bool) → (length f.names == length f.types) ≡ b → length f.names ≡ length f.types
    by true e = eqb-true (length f.names) (length f.types) e
    by false e = absurd (cc)

module _ (s : StructParts) (h : struct_fault s ≡ None) (f : fields_fault s.types ≡ None) where
  pub as_many : length s.types.names ≡ length s.columns
  as_many =
      many_names s.types f ∙ sym (length-types_of (types_in s.columns) s.types.types (trees-struct s h))
      ∙ length-map s.columns (λ (c : Column). c.dtype)

  pub table_sound : table_fault (fields_table s) ≡ None
  table_sound = no_fault (fields_table s) as_many (λ k d l. long-get s.len s.columns k d (long-struct s h) l)

pub structs_sound : (t : TableValue) → AreLong t.len t.columns → struct_fault (table_structs t) ≡ None
structs_sound t long = fault-made (table_structs t) refl (long_by t.len t.columns long) refl

-- ---- the page

plain_rows : (p : StructParts) → p.valid ≡ non_nullable → (struct_column p).rows ≡ map fields_row (rows_across p.columns p.len)
plain_rows p h =
    let items = (stored_structs p).items in
    ap (λ v. stored_rows v items) h ∙ shown_rows-all (length items) items refl

module _ (s : StructParts) (h : struct_fault s ≡ None) (v : s.valid ≡ non_nullable) (steps : List StepValue) where
  abbrev all : List ℕ
  all = range_with_len 0 (length s.columns)

  page_rows : (picks : List (Option ℕ)) (p : TableValue) → IsTaken (fields_table s) (λ u. type_after u steps) picks p → (struct_column (table_structs p)).rows ≡ at (fields (nulls_for (types_of s.types.types))) (struct_column s).rows picks
  page_rows picks p t =
      plain_rows (table_structs p) refl
      ∙ ap (map fields_row) (ap (rows_across p.columns) t.len ∙ across-taken s.len picks s.columns p.columns (long-struct s h) t.columns.rows)
      ∙ map-at fields_row (nulls_in s.columns) (rows_across s.columns s.len) picks
      ∙ ap₂ (λ x r. at x r picks) (ap fields (row-nulls s.columns ∙ ap nulls_for (trees-struct s h))) (sym (plain_rows s v))

  page_dtype : (picks : List (Option ℕ)) (p : TableValue) → IsTaken (fields_table s) (λ u. type_after u steps) picks p → (struct_column (table_structs p)).dtype ≡ page_type (struct_of s.types) steps
  page_dtype picks p t =
      let T : List (List ℕ) → TypeTrees → TypeTree = λ names ts. record { kind = struct_kind names ts; nullability = NonNullable } in
      ap₂ T t.names (types-taken steps s.columns p.columns t.columns.types ∙ ap (types_after steps) (trees-struct s h))

  module _ (number len : ℕ) where
    by_count : page_answer number len (struct_column s) steps ≡ page_by_walk number len (struct_column s) steps (walk s.len steps)
    by_count = ap (λ (n : ℕ). page_by_walk number len (struct_column s) steps (walk n steps)) (rows-struct s h)

    -- the page of the table is that of the column
    pub paged : length s.types.names ≡ length s.columns → (p : TableValue) → IsPage (fields_table s) all steps number len (walk s.len steps) p
        → page_answer number len (struct_column s) steps ≡ answer_rows (struct_column (table_structs p)).dtype (struct_column (table_structs p)).rows
    paged many p q = by_count ∙ by (walk s.len steps) q
      where
        by : (w : Walk) → IsPage (fields_table s) all steps number len w p → page_by_walk number len (struct_column s) steps w ≡ answer_rows (struct_column (table_structs p)).dtype (struct_column (table_structs p)).rows
        by (walk_fault k cause) q = absurd q
        by (walk_picks picks) q =
            let P : TableValue → Type 0 = λ t. IsTaken t (λ u. type_after u steps) (cut number len picks) p in
            let taken = subst P (projected-all (fields_table s) many) q in
            ap₂ answer_rows (sym (page_dtype (cut number len picks) p taken)) (sym (page_rows (cut number len picks) p taken))

    -- the broken step that the check found
    pub page_broken : (e : SelectError) → MatchError e (λ k cause. walk s.len steps ≡ walk_fault k cause) ⊥ → MatchError e (λ k cause. page_answer number len (struct_column s) steps ≡ answer_fault k cause) (IsRows (page_answer number len (struct_column s) steps))
    page_broken (Broken k cause) q = by_count ∙ ap (page_by_walk number len (struct_column s) steps) q
    page_broken NoMemory q = absurd q

    -- the check found none
    pub page_sound : IsUnbroken (walk s.len steps) → IsRows (page_answer number len (struct_column s) steps)
    page_sound q = subst IsRows (sym by_count) (by (walk s.len steps) q)
      where
        by : (w : Walk) → IsUnbroken w → IsRows (page_by_walk number len (struct_column s) steps w)
        by (walk_fault k cause) q = absurd q
        by (walk_picks picks) q = tt

-- memory runs out, and the check found no broken step
pub wants_memory : (s : StructParts) → struct_fault s ≡ None → s.valid ≡ non_nullable → (steps : List StepValue) (number len count : ℕ) → HasCount (walk s.len steps) count → (r : Result Column SelectError) → IsErrAnd r (λ x. x ≡ NoMemory) → IsAnswer r (page_answer number len (struct_column s) steps)
wants_memory s h v steps number len count fine r is =
    answered_err r _ NoMemory is (page_sound s h v steps number len (counted_walk (walk s.len steps) count fine))

pub range_more : (k : ℕ) → range_with_len 0 (k + 1) ≡ range_with_len 0 k ++ k ∷ []
range_more k =
    sym (map-id (range_with_len 0 (k + 1)))
    ∙ map-range_with_len_more (λ j. j) 0 k k (omega arith)
    ∙ ap (λ l. l ++ k ∷ []) (map-id (range_with_len 0 k))
