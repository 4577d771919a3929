-- The rows of a part of a column.
use Rattle.std.proofs.Common.{◌≡◌, ℕ, ◌+◌, ◌-◌, ◌≤◌, List, length, take_all, slice_range, refl, sym, ap, ◌∙◌, true, arith}
use Rattle.std.proofs.Common.{Bool, false, subst}
use Rattle.std.specs.Prelude.{replicate, Option, Some, None, IfSome, is_some}
use Rattle.std.specs.List.{items_where_true}
use Rattle.std.proofs.lemmas.List.{length-replicate}
use Rattle.std.proofs.lemmas.List.Sums.{count_by-le-length}
use Rattle.vx_bits.specs.BitBuffer.{true_count_of}
use Rattle.vx_types.specs.RowValue.{RowValue, null}
use Rattle.vx_column.specs.Truth.{true_bits}
use Rattle.vx_reading.proofs.TruthBits.{length-true_bits}
use Rattle.vx_model.specs.Column.{Column}
use Rattle.vx_model.specs.Null.{null_column}
use Rattle.vx_model.specs.Plain.{is_lazy_layout, is_unwrapped}
use Rattle.vx_model.specs.Step.{IsStep}
use Rattle.vx_mask.proofs.RangeCounts.{slice_range-replicate}
use Rattle.vx_model.proofs.Items.{length-slice_range, items_where_true-all, items_where_true-replicate}
use Rattle.vx_steps.proofs.Cuts.{slice_range-slice_range}

-- all rows
pub all_rows : (c : Column) → record c { rows = slice_range c.rows 0 (length c.rows) } ≡ c
all_rows c = ap (λ r. record c { rows = r }) (take_all (length c.rows - 0) c.rows (omega arith))

-- a part of a part
pub part_of_part : (c : Column) (s e t f : ℕ) → s ≤ e → e ≤ length c.rows → t ≤ f → f ≤ length (slice_range c.rows s e) → record c { rows = slice_range c.rows (s + t) (s + f) } ≡ record c { rows = slice_range (slice_range c.rows s e) t f }
part_of_part c s e t f h k l m =
    let within : f ≤ e - s = omega (arith, m, length-slice_range c.rows s e h k) in
    ap (λ r. record c { rows = r }) (sym (slice_range-slice_range c.rows s e t f h k l within))

-- the whole of a column
pub whole_part : (c : Column) (s e : ℕ) → s ≡ 0 → e ≡ length c.rows → record c { rows = slice_range c.rows s e } ≡ c
whole_part c s e h k = rw (h, k) (all_rows c)

-- a column as it is
pub same_step : (c a : Column) → a ≡ c → IsStep c c.rows c.dtype a
same_step c a h =
    record {
      rows = ap (λ (x : Column). x.rows) h;
      dtype = ap (λ (x : Column). x.dtype) h;
      layout = λ _. ap (λ (x : Column). x.layout) h;
      unwrapped = λ u. ap is_unwrapped h ∙ u;
      direct = λ d. ap (λ (x : Column). is_lazy_layout x.layout) h ∙ d;
      form = ap (λ (x : Column). x.dense) h;
    }

-- and what a mask of all rows keeps of it
pub kept_whole : (c : Column) (n : ℕ) (bits : List Bool) → bits ≡ replicate n true → length bits ≡ length c.rows → IsStep c (items_where_true bits c.rows) c.dtype c
kept_whole c n bits h long =
    let count : n ≡ length c.rows = sym (length-replicate n true) ∙ ap length (sym h) ∙ long in
    record {
      rows = items_where_true-all n c.rows count ∙ ap (λ b. items_where_true b c.rows) (sym h);
      dtype = refl;
      layout = λ _. refl;
      unwrapped = λ u. u;
      direct = λ d. d;
      form = refl;
    }

-- of nulls alone, those at the set bits are as many from the first on
kept_nulls : (rows : List RowValue) (bits : List Bool) → rows ≡ replicate (length rows) null → length bits ≡ length rows → slice_range rows 0 (true_count_of bits) ≡ items_where_true bits rows
kept_nulls rows bits h long =
    let count = true_count_of bits in
    let few : count ≤ length rows = omega (arith, count_by-le-length (λ b. b) bits, long) in
    let same : count - 0 ≡ count = omega arith in
    ap (λ r. slice_range r 0 count) h
    ∙ slice_range-replicate (length rows) null 0 count (omega arith) few
    ∙ ap (λ n. replicate n null) same
    ∙ sym (items_where_true-replicate bits null)
    ∙ ap (λ n. items_where_true bits (replicate n null)) long
    ∙ ap (items_where_true bits) (sym h)

pub null_step : (c a : Column) (bits : List Bool) (count : ℕ) → count ≡ true_count_of bits → a ≡ record c { rows = slice_range c.rows 0 count } → c.rows ≡ replicate (length c.rows) null → length bits ≡ length c.rows → IsStep c (items_where_true bits c.rows) c.dtype a
null_step c a bits count e is nulls long =
    let P : Column → Type 0 = λ x. IsStep c (items_where_true bits c.rows) c.dtype x in
    subst P (sym is) (record {
      rows = ap (slice_range c.rows 0) e ∙ kept_nulls c.rows bits nulls long;
      dtype = refl;
      layout = λ _. refl;
      unwrapped = λ h. h;
      direct = λ h. h;
      form = refl;
    })

-- a part of layout `Null` has nulls alone
null_part : (column part : Column) (n s e : ℕ) → column ≡ null_column n → s ≤ e → e ≤ length column.rows → record column { rows = slice_range column.rows s e } ≡ part → part.rows ≡ replicate (length part.rows) null
null_part column part n s e is h k view =
    let long : length column.rows ≡ n = ap (λ (c : Column). length c.rows) is ∙ length-replicate n null in
    let rows : part.rows ≡ replicate (e - s) null =
    sym (ap (λ (c : Column). c.rows) view) ∙ ap (λ (c : Column). slice_range c.rows s e) is ∙ slice_range-replicate n null s e h (omega (arith, long)) in
    let count : length part.rows ≡ e - s = ap length rows ∙ length-replicate (e - s) null in
    rows ∙ ap (λ m. replicate m null) (sym count)

no_some : false ≡ true → ⊥
no_some h = cc

pub null_part_if : {X : Type 0} (nulls : Option X) (length_of : X → ℕ) (column part : Column) (s e : ℕ) → IfSome nulls (λ x. null_column (length_of x) ≡ column) → is_some nulls ≡ true → s ≤ e → e ≤ length column.rows → record column { rows = slice_range column.rows s e } ≡ part → part.rows ≡ replicate (length part.rows) null
null_part_if (Some x) length_of column part s e is told h k view =
    null_part column part (length_of x) s e (sym is) h k view
null_part_if None length_of column part s e is told h k view = absurd (no_some told)

-- no more rows are true than there are
pub few_true : (column : Column) (count n : ℕ) → count ≡ true_count_of (true_bits column) → length column.rows ≡ n → count ≤ n
few_true column count n e long = omega (arith, e, count_by-le-length (λ b. b) (true_bits column), length-true_bits column, long)

-- what the rows at which a column is true are
pub ruleset true_rows = (null_step, few_true, length-true_bits)
