-- Rows of columns of nulls alone.
use Rattle.std.proofs.Common.{◌≡◌, ℕ, zero, suc, ◌+◌, ◌<◌, ◌≤◌, List, [], ◌∷◌, ◌++◌, length, map, replicate, take, get_or, Option, Some, None, refl, sym, ap, ap₂, ◌∙◌, subst}
use Rattle.std.specs.Prelude.{slice_index_or}
use Rattle.std.specs.List.{All, sum}
use Rattle.std.proofs.lemmas.List.{length-replicate, replicate-append-replicate, take_all, take_more}
use Rattle.std.proofs.lemmas.List.Concat.{flat_map-cons}
use Rattle.std.proofs.lemmas.List.Elements.{All-append, All-cons, All-head, All-nil, All-tail}
use Rattle.std.proofs.lemmas.List.Sums.{sum_by-cons}
use Rattle.vx_types.specs.RowValue.{RowValue, null}
use Rattle.vx_model.specs.Column.{Column}
use Rattle.vx_model.specs.Null.{null_column}
use Rattle.vx_interleave.specs.Places.{interleaved, joined, list_of}
use Rattle.vx_interleave.specs.Sources.{rows_of}
use Rattle.vx_interleave.specs.declared.place.Place.{Place}

-- a column's rows are nulls
abbrev pub IsNulls : Column → Type 0
IsNulls c = c.rows ≡ replicate (length c.rows) null

-- those of layout `Null` are
pub own_nulls : (n : ℕ) (c : Column) → null_column n ≡ c → c.rows ≡ replicate (length c.rows) null
own_nulls n c is =
    sym (ap (λ (d : Column). d.rows) is) ∙ ap (λ (m : ℕ). replicate m null) (sym (length-replicate n null) ∙ ap (λ (d : Column). length d.rows) is)

-- ---- columns one by one

module _ (P : Column → Type 0) (cs : List Column) where
  pub one_more : (i : ℕ) (d : Column) → i < length cs → All P (take i cs) → P (get_or cs i d) → All P (take (i + 1) cs)
  one_more i d h before here =
      subst (All P) (sym (take_more cs i d h)) (All-append P (take i cs) (get_or cs i d ∷ []) before (All-cons P (get_or cs i d) [] here (All-nil P)))

  pub each_one : (i : ℕ) → length cs ≤ i → All P (take i cs) → All P cs
  each_one i h all = subst (All P) (take_all i cs h) all

-- ---- at places

null_at : (n i : ℕ) → slice_index_or (replicate n null) i null ≡ null
null_at zero i = refl
null_at (suc n) zero = refl
null_at (suc n) (suc i) = null_at n i

null_in : (cs : List Column) → All IsNulls cs → (k i : ℕ) → slice_index_or (list_of (rows_of cs) k) i null ≡ null
null_in [] all k i = refl
null_in (c ∷ cs) all zero i = ap (λ (l : List RowValue). slice_index_or l i null) (All-head IsNulls c cs all) ∙ null_at (length c.rows) i
null_in (c ∷ cs) all (suc k) i = null_in cs (All-tail IsNulls c cs all) k i

pub nulls_at : (cs : List Column) (order : List (Option Place)) → All IsNulls cs → replicate (length order) null ≡ interleaved null (rows_of cs) order
nulls_at cs [] all = refl
nulls_at cs (None ∷ order) all = ap (λ (l : List RowValue). null ∷ l) (nulls_at cs order all)
nulls_at cs (Some place ∷ order) all = ap₂ (λ (x : RowValue) (l : List RowValue). x ∷ l) (sym (null_in cs all place.column place.row)) (nulls_at cs order all)

-- ---- one column behind another

pub nulls_joined : (cs : List Column) → All IsNulls cs → replicate (sum (map length (rows_of cs))) null ≡ joined (rows_of cs)
nulls_joined [] all = refl
nulls_joined (c ∷ cs) all =
    let n = length c.rows in let m = sum (map length (rows_of cs)) in
    ap (λ (k : ℕ). replicate k null) (sum_by-cons (λ (x : ℕ). x) n (map length (rows_of cs)))
    ∙ sym (replicate-append-replicate n m null)
    ∙ ap₂ (λ (a b : List RowValue). a ++ b) (sym (All-head IsNulls c cs all)) (nulls_joined cs (All-tail IsNulls c cs all))
    ∙ sym (flat_map-cons (λ (l : List RowValue). l) c.rows (rows_of cs))
