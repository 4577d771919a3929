-- Tables: their lengths, and the rows of their columns at picks.
use Rattle.std.proofs.Common.{◌≡◌, ℕ, zero, ◌+◌, ◌-◌, ◌<◌, Bool, true, false, cond, List, [], ◌∷◌, ◌++◌, length, map, get_or, Option, Some, None, refl, sym, ap, ap₂, ◌∙◌, subst, arith, eq-eqb}
use Rattle.std.specs.Prelude.{Result, Ok, Err, not, slice_get, ◌==◌, if◌then◌else◌}
use Rattle.std.specs.List.{All, position_from}
use Rattle.std.specs.Option.{option_map}
use Rattle.std.proofs.lemmas.Bool.{eqb-true}
use Rattle.std.proofs.lemmas.List.{length-append, length-map, map-append}
use Rattle.std.proofs.lemmas.List.Elements.{All-append, All-cons, All-nil, All-tail}
use Rattle.std.proofs.lemmas.Option.{slice_get_read}
use Rattle.std.specs.Rc.{rc_str_bytes}
use Rattle.std.specs.declared.rc.RcStr.{RcStr}
use Rattle.std.specs.declared.alloc.Global.{Global}
use Rattle.vx_types.specs.RowValue.{null}
use Rattle.vx_types.specs.TypeTree.{TypeTree, also_nullable, is_flat}
use Rattle.vx_types.specs.declared.nullability.Nullability.{Nullability}
use Rattle.vx_take.specs.Picks.{at}
use Rattle.vx_model.specs.Column.{Column}
use Rattle.vx_model.specs.Plain.{is_unwrapped}
use Rattle.vx_model.proofs.Takes.{length-at}
use Rattle.vx_pieces.specs.Indices.{IndexValue, index_fault, index_nullability, index_picks}
use Rattle.vx_steps.specs.Step.{StepValue, take_step}
use Rattle.vx_steps.specs.Walk.{Walk, all_positions, apply, cause_of, unless_broken, walk, walk_fault, walk_picks}
use Rattle.vx_steps.specs.Answer.{answer, answer_fault, answer_rows, type_after}
use Rattle.vx_steps.specs.declared.cause.Cause.{Cause}
use Rattle.vx_steps.specs.declared.cause.SelectError.{SelectError}
use Rattle.vx_steps.specs.declared.cause.SelectError.TheVariants.{Broken}
use Rattle.vx_select.specs.Select.{IsSelection}
use Rattle.vx_steps.specs.Compose.{takes_nullability}
use Rattle.vx_steps.proofs.Walks.{length-all_positions}
use Rattle.vx_select.proofs.Selecting.{answered, at-all_positions, at-apply}
use Rattle.vx_table.specs.Table.{AreLong, TableValue, names_of, table_fault}
use Rattle.vx_table.specs.Taken.{AreTaken, IsTaken, beside, columns_at}
use Rattle.vx_table.specs.Page.{IsCutOf, IsPage, cut}
use Rattle.vx_table.specs.declared.error.TableError.TheVariants.{WrongCount, WrongLength}
use Rattle.vx_table.proofs.Lists.{All-chosen, length-chosen, slice_get-map}
use Rattle.vx_steps.proofs.StepTypes.{type_after-takes}

-- ---- names

pub names_of-more : (names : List (RcStr Global)) (name : RcStr Global) → names_of (names ++ name ∷ []) ≡ names_of names ++ names_of (name ∷ [])
names_of-more names name = map-append (λ (x : RcStr Global). rc_str_bytes x) names (name ∷ [])

-- a copy of a name that is there
pub name_at : (names : List (RcStr Global)) (i : ℕ) (name copy : RcStr Global) → i < length names → name ≡ get_or names i name → rc_str_bytes copy ≡ rc_str_bytes name → slice_get (names_of names) i ≡ Some (rc_str_bytes copy)
name_at names i name copy h is same =
    slice_get-map (λ (x : RcStr Global). rc_str_bytes x) names i
    ∙ ap (option_map (λ (x : RcStr Global). rc_str_bytes x)) (slice_get_read names (length names) i name refl h is)
    ∙ ap Some (sym same)

-- ---- lengths

-- no column has another length
pub all_long : (n : ℕ) (columns : List Column) (k : ℕ) → position_from (λ (c : Column). not (length c.rows == n)) k columns ≡ None → AreLong n columns
all_long n [] k h = All-nil (λ (c : Column). length c.rows ≡ n)
all_long n (c ∷ columns) k h = by (length c.rows == n) refl h (all_long n columns (k + 1))
  where
    by : (b : Bool) → (length c.rows == n) ≡ b → cond (not b) (Some k) (position_from (λ (x : Column). not (length x.rows == n)) (k + 1) columns) ≡ None
        → (position_from (λ (x : Column). not (length x.rows == n)) (k + 1) columns ≡ None → AreLong n columns) → AreLong n (c ∷ columns)
    by true e h rest = All-cons (λ (x : Column). length x.rows ≡ n) c columns (eqb-true (length c.rows) n e) (rest h)
    by false e h rest = absurd (cc)

pub none_other : (n : ℕ) (columns : List Column) (k : ℕ) → AreLong n columns → position_from (λ (c : Column). not (length c.rows == n)) k columns ≡ None
none_other n [] k h = refl
none_other n (c ∷ columns) k h =
    ap (λ b. cond (not b) (Some k) (position_from (λ (x : Column). not (length x.rows == n)) (k + 1) columns)) (eq-eqb (length c.rows) n (h zero c (omega arith)))
    ∙ none_other n columns (k + 1) (All-tail (λ (x : Column). length x.rows ≡ n) c columns h)

-- what makes a table
pub no_fault : (t : TableValue) → length t.names ≡ length t.columns → AreLong t.len t.columns → table_fault t ≡ None
no_fault t count long =
    ap (λ b. if b then option_map WrongLength (position_from (λ (c : Column). not (length c.rows == t.len)) 0 t.columns) else Some WrongCount) (eq-eqb (length t.names) (length t.columns) count)
    ∙ ap (option_map WrongLength) (none_other t.len t.columns 0 long)

no_error : {X Y : Type 0} (f : X → Y) (o : Option X) → option_map f o ≡ None → o ≡ None
no_error f None h = refl
no_error f (Some x) h = cc

by_fault : (t : TableValue) → table_fault t ≡ None → (length t.names ≡ length t.columns) × AreLong t.len t.columns
by_fault t h = by (length t.names == length t.columns) refl h
  where
    by : (b : Bool) → (length t.names == length t.columns) ≡ b → (if b then option_map WrongLength (position_from (λ (c : Column). not (length c.rows == t.len)) 0 t.columns) else Some WrongCount) ≡ None → (length t.names ≡ length t.columns) × AreLong t.len t.columns
    by true e h = (eqb-true (length t.names) (length t.columns) e, all_long t.len t.columns 0 (no_error WrongLength _ h))
    by false e h = absurd (cc)

pub same_count : (t : TableValue) → table_fault t ≡ None → length t.names ≡ length t.columns
same_count t h = (by_fault t h).0

pub long_columns : (t : TableValue) → table_fault t ≡ None → AreLong t.len t.columns
long_columns t h = (by_fault t h).1

-- a length that is another, and one that isn't
pub is_other : (m n : ℕ) → (m ≡ n → ⊥) → not (m == n) ≡ true
is_other m n h = by (m == n) refl
  where
    by : (b : Bool) → (m == n) ≡ b → not b ≡ true
    by true e = absurd (h (eqb-true m n e))
    by false e = refl

pub is_same : (m n : ℕ) → m ≡ n → not (m == n) ≡ false
is_same m n h = ap not (eq-eqb m n h)

abbrev pub table_with : List (List ℕ) → List Column → ℕ → TableValue
table_with names columns len = record { names = names; columns = columns; len = len }

pub same_table : (names names' : List (List ℕ)) (columns columns' : List Column) (len len' : ℕ) → names ≡ names' → columns ≡ columns' → len ≡ len' → table_with names columns len ≡ table_with names' columns' len'
same_table names names' columns columns' len len' n c l = λ i. table_with (n i) (c i) (l i)

-- ---- some columns, and the columns of two tables

module _ (t : TableValue) (valid : table_fault t ≡ None) where
  pub projected_sound : (projection : List ℕ) → All (λ i. i < length t.columns) projection → table_fault (columns_at t projection) ≡ None
  projected_sound projection h =
      let count = same_count t valid in
      let named : All (λ i. i < length t.names) projection = λ k d l. let low : get_or projection k d < length t.columns = h k d l in omega (arith, low, count) in
      no_fault (columns_at t projection) (length-chosen t.names projection named ∙ sym (length-chosen t.columns projection h))
      (All-chosen (λ (c : Column). length c.rows ≡ t.len) t.columns projection (long_columns t valid))

  pub beside_sound : (other : TableValue) → table_fault other ≡ None → other.len ≡ t.len → table_fault (beside t other) ≡ None
  beside_sound other h same =
      let long : AreLong t.len other.columns = subst (λ n. AreLong n other.columns) same (long_columns other h) in
      no_fault (beside t other)
      (length-append t.names other.names ∙ ap₂ ◌+◌ (same_count t valid) (same_count other h) ∙ sym (length-append t.columns other.columns))
      (All-append (λ (c : Column). length c.rows ≡ t.len) t.columns other.columns (long_columns t valid) long)

-- ---- one column

-- a has the rows that the indices name
pub record IsTakenColumn (c : Column) (v : IndexValue) (a : Column) : Type 0 where
  pub dtype : a.dtype ≡ also_nullable c.dtype (index_nullability v)
  pub rows : a.rows ≡ at null c.rows (index_picks v)
  pub unwrapped : is_flat a.dtype ≡ true → is_unwrapped a ≡ true

-- the answer to one take
module _ (c : Column) (v : IndexValue) (sound : index_fault v (length c.rows) ≡ None) where
  walked : walk (length c.rows) (take_step v ∷ []) ≡ walk_picks (apply None (take_step v) (all_positions (length c.rows)))
  walked =
      let picks = apply None (take_step v) (all_positions (length c.rows)) in
      let at_all : index_fault v (length (all_positions (length c.rows))) ≡ None = ap (index_fault v) (length-all_positions (length c.rows)) ∙ sound in
      ap (λ f. unless_broken (option_map (cause_of (length (all_positions (length c.rows)))) f) 0 (walk_picks picks)) at_all

  pub one_take : answer c (take_step v ∷ []) ≡ answer_rows (also_nullable c.dtype (index_nullability v)) (at null c.rows (index_picks v))
  one_take =
      answered c (take_step v ∷ []) (apply None (take_step v) (all_positions (length c.rows))) (also_nullable c.dtype (index_nullability v)) (at null c.rows (index_picks v))
      walked refl (at-apply c.rows (take_step v) (all_positions (length c.rows)) c.rows (at-all_positions c.rows))

  -- it is what a selection has
  pub selected : (r : Result Column SelectError) → IsSelection c (take_step v ∷ []) r → (a : Column) → r ≡ Ok a → IsTakenColumn c v a
  selected r h a e =
      let s = subst (IsSelection c (take_step v ∷ [])) e h in
      let is : answer_rows (also_nullable c.dtype (index_nullability v)) (at null c.rows (index_picks v)) ≡ answer_rows a.dtype a.rows = sym one_take ∙ s.answer in
      let dtype : a.dtype ≡ also_nullable c.dtype (index_nullability v) = cc in
      let rows : a.rows ≡ at null c.rows (index_picks v) = cc in
      record { dtype = dtype; rows = rows; unwrapped = λ flat. s.unwrapped (ap is_flat (sym dtype) ∙ flat) }

  pub not_broken : (r : Result Column SelectError) → IsSelection c (take_step v ∷ []) r → (k : ℕ) (cause : Cause) → r ≡ Err (Broken k cause) → ⊥
  not_broken r h k cause e =
      let s = subst (IsSelection c (take_step v ∷ [])) e h in
      let is : answer_rows (also_nullable c.dtype (index_nullability v)) (at null c.rows (index_picks v)) ≡ answer_fault k cause = sym one_take ∙ s.answer in
      cc

-- ---- columns

pub none_taken : (after : TypeTree → TypeTree) (picks : List (Option ℕ)) → AreTaken [] after picks []
none_taken after picks = record { types = refl; rows = refl; unwrapped = All-nil (λ (c : Column). is_flat c.dtype ≡ true → is_unwrapped c ≡ true) }

pub taken_more : (columns : List Column) (after : TypeTree → TypeTree) (picks : List (Option ℕ)) (taken : List Column) (c a : Column) → AreTaken columns after picks taken
    → a.dtype ≡ after c.dtype → a.rows ≡ at null c.rows picks → (is_flat a.dtype ≡ true → is_unwrapped a ≡ true) → AreTaken (columns ++ c ∷ []) after picks (taken ++ a ∷ [])
taken_more columns after picks taken c a h dtype rows flat =
    record {
      types = map-append (λ (x : Column). x.dtype) taken (a ∷ []) ∙ ap₂ (λ l t. l ++ t ∷ []) h.types dtype ∙ sym (map-append (λ (x : Column). after x.dtype) columns (c ∷ []));
      rows = map-append (λ (x : Column). x.rows) taken (a ∷ []) ∙ ap₂ (λ l r. l ++ r ∷ []) h.rows rows ∙ sym (map-append (λ (x : Column). at null x.rows picks) columns (c ∷ []));
      unwrapped = All-append (λ (x : Column). is_flat x.dtype ≡ true → is_unwrapped x ≡ true) taken (a ∷ []) h.unwrapped
          (All-cons (λ (x : Column). is_flat x.dtype ≡ true → is_unwrapped x ≡ true) a [] flat (All-nil (λ (x : Column). is_flat x.dtype ≡ true → is_unwrapped x ≡ true)));
    }

rows_long : (picks : List (Option ℕ)) (columns taken : List Column) → map (λ (c : Column). c.rows) taken ≡ map (λ (c : Column). at null c.rows picks) columns → AreLong (length picks) taken
rows_long picks columns [] h = All-nil (λ (c : Column). length c.rows ≡ length picks)
rows_long picks [] (a ∷ taken) h = absurd (cc)
rows_long picks (c ∷ columns) (a ∷ taken) h =
    let here : a.rows ≡ at null c.rows picks = cc in
    let rest : map (λ (x : Column). x.rows) taken ≡ map (λ (x : Column). at null x.rows picks) columns = cc in
    All-cons (λ (x : Column). length x.rows ≡ length picks) a taken (ap length here ∙ length-at null c.rows picks) (rows_long picks columns taken rest)

-- columns at picks are as many, and as long as there are picks
module _ (columns : List Column) (after : TypeTree → TypeTree) (picks : List (Option ℕ)) (taken : List Column) (h : AreTaken columns after picks taken) where
  pub taken_long : AreLong (length picks) taken
  taken_long = rows_long picks columns taken h.rows

  pub length-taken : length taken ≡ length columns
  length-taken = sym (length-map taken (λ (c : Column). c.dtype)) ∙ ap length h.types ∙ length-map columns (λ (c : Column). after c.dtype)

-- a table of such columns
pub taken_sound : (t : TableValue) (after : TypeTree → TypeTree) (picks : List (Option ℕ)) (names : List (List ℕ)) (taken : List Column) (n : ℕ) → table_fault t ≡ None → names ≡ t.names → AreTaken t.columns after picks taken → length picks ≡ n
    → table_fault (table_with names taken n) ≡ None
taken_sound t after picks names taken n valid same h count =
    let long : AreLong n taken = subst (λ m. AreLong m taken) count (taken_long t.columns after picks taken h) in
    no_fault (table_with names taken n) (ap length same ∙ same_count t valid ∙ sym (length-taken t.columns after picks taken h)) long

-- the names once again and the rows at the picks are the table that a take wants
pub taken_table : (t : TableValue) (v : IndexValue) (names front last : List (List ℕ)) (from columns : List Column) (n : ℕ) → table_fault t ≡ None
    → names ≡ front ++ last → front ≡ [] → last ≡ t.names → from ≡ t.columns → AreTaken from (λ u. also_nullable u (index_nullability v)) (index_picks v) columns → length (index_picks v) ≡ n
    → (table_fault (table_with names columns n) ≡ None) × IsTaken t (λ u. also_nullable u (index_nullability v)) (index_picks v) (table_with names columns n)
taken_table t v names front last from columns n valid both none names_is from_is h count =
    let after : TypeTree → TypeTree = λ u. also_nullable u (index_nullability v) in
    let named : names ≡ t.names = both ∙ ap₂ ◌++◌ none names_is in
    let P : List Column → Type 0 = λ cs. AreTaken cs after (index_picks v) columns in
    let taken = subst P from_is h in
    (taken_sound t after (index_picks v) names columns n valid named taken count, record { len = sym count; names = named; columns = taken })

-- ---- the page

same_types : (f g : TypeTree → TypeTree) → ((u : TypeTree) → f u ≡ g u) → (columns : List Column) → map (λ (c : Column). f c.dtype) columns ≡ map (λ (c : Column). g c.dtype) columns
same_types f g same [] = refl
same_types f g same (c ∷ columns) = ap₂ ◌∷◌ (same c.dtype) (same_types f g same columns)

-- the same table, of types that are said otherwise
pub retyped : (t p : TableValue) (f g : TypeTree → TypeTree) (picks qs : List (Option ℕ)) → ((u : TypeTree) → f u ≡ g u) → picks ≡ qs → IsTaken t f picks p → IsTaken t g qs p
retyped t p f g picks qs same e h =
    let P : List (Option ℕ) → Type 0 = λ q. IsTaken t g q p in
    subst P e (record {
      len = h.len;
      names = h.names;
      columns = record {
        types = h.columns.types ∙ same_types f g same t.columns;
        rows = h.columns.rows;
        unwrapped = h.columns.unwrapped;
      };
    })

-- the rows at the cut are the page
pub is_page : (t p : TableValue) (projection : List ℕ) (steps : List StepValue) (page len : ℕ) (w : Walk) (n : Nullability) (part : List (Option ℕ)) → n ≡ takes_nullability steps
    → IsCutOf w page len part → IsTaken (columns_at t projection) (λ u. also_nullable u n) part p → IsPage t projection steps page len w p
is_page t p projection steps page len (walk_fault k cause) n part none h taken = absurd h
is_page t p projection steps page len (walk_picks picks) n part none h taken =
    retyped (columns_at t projection) p (λ u. also_nullable u n) (λ u. type_after u steps) part (cut page len picks)
    (λ u. ap (also_nullable u) none ∙ sym (type_after-takes u steps)) h taken
