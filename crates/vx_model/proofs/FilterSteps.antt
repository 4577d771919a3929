-- What a step leaves of a lazy filter.
use Rattle.std.proofs.Common.{◌≡◌, ℕ, ◌≤◌, Bool, true, List, [], ◌∷◌, false, map, length, take, slice_range, Option, None, Some, refl, sym, ap, ap₂, ◌∙◌, arith}
use Rattle.std.specs.List.{items_where_true}
use Rattle.vx_bits.specs.BitBuffer.{true_count_of}
use Rattle.vx_mask.specs.Mask.{mask_bits}
use Rattle.vx_mask.specs.Positions.{rank_of, set_of}
use Rattle.vx_mask.specs.declared.mask.Mask.{Mask}
use Rattle.vx_types.specs.TypeTree.{TypeTree}
use Rattle.vx_types.specs.RowValue.{RowValue, null}
use Rattle.vx_types.specs.declared.nullability.Nullability.{Nullability}
use Rattle.vx_take.specs.Ranks.{positions_by_rank}
use Rattle.vx_take.specs.Picks.{AreBelow}
use Rattle.vx_take.proofs.TakenLists.{take_of_filter}
use Rattle.vx_positions.specs.Positions.{AllThere, first_bad}
use Rattle.vx_model.specs.Column.{Column}
use Rattle.vx_model.specs.Filter.{FilterParts, filter_fault, filter_column}
use Rattle.vx_model.specs.Numbers.{numbers_of, number_in}
use Rattle.vx_model.specs.Step.{IsStep, IsCut, IsSlice, IsTake}
use Rattle.vx_model.proofs.Items.{map-items_where_true}
use Rattle.vx_model.proofs.LazyRows.{long-filter}
use Rattle.vx_model.proofs.KeptItems.{slice-items, kept-by-both}
use Rattle.vx_model.proofs.CodeNumbers.{first_bad-filter}

-- from a place with so many kept rows before it up to such a place
pub is_slice-filter : (p : FilterParts) (child : Column) (mask : Mask) (s e lo hi : ℕ) → filter_fault p ≡ None → lo ≤ hi → hi ≤ length (mask_bits p.mask) → true_count_of (take lo (mask_bits p.mask)) ≡ s → true_count_of (take hi (mask_bits p.mask)) ≡ e → mask_bits mask ≡ slice_range (mask_bits p.mask) lo hi → IsSlice p.child lo hi child → IsSlice (filter_column p) s e (filter_column (record { child = child; mask = mask }))
is_slice-filter p child mask s e lo hi f h l at_lo at_hi same cut =
    record {
      step = record {
        rows = ap₂ items_where_true same cut.step.rows ∙ sym (slice-items (mask_bits p.mask) p.child.rows s e lo hi (long-filter p f) h l at_lo at_hi);
        dtype = cut.step.dtype;
        layout = λ _. refl;
        unwrapped = λ h. h;
        direct = λ h. h;
        form = cut.step.form;
      };
      plain = λ h. h;
      depth = omega (arith, cut.depth);
    }

-- a filter is no layout that stores its rows
pub is_step-filter : (p : FilterParts) (left : List RowValue) (t : TypeTree) (a : Column) → a.rows ≡ left → a.dtype ≡ t → a.dense ≡ p.child.dense → IsStep (filter_column p) left t a
is_step-filter p left t a rows dtype form =
    record {
      rows = rows;
      dtype = dtype;
      layout = λ h. let no : false ≡ true = h in cc;
      unwrapped = λ h. let no : false ≡ true = h in cc;
      direct = λ h. let no : true ≡ false = h in cc;
      form = form;
    }

-- the child's rows that both masks keep: the set positions whose ranks the other one selects
pub is_filter-filter : (p : FilterParts) (other both : List Bool) (a : Column) → filter_fault p ≡ None → length other ≡ true_count_of (mask_bits p.mask) → set_of both ≡ map (rank_of (mask_bits p.mask)) (set_of other) → length both ≡ length (mask_bits p.mask) → IsCut p.child (items_where_true both p.child.rows) a → IsCut (filter_column p) (items_where_true other (filter_column p).rows) a
is_filter-filter p other both a f few set long cut =
    record {
      step = is_step-filter p _ _ a (cut.step.rows ∙ kept-by-both (mask_bits p.mask) other both p.child.rows (long-filter p f) few set long) cut.step.dtype cut.step.form;
      plain = λ h. let no : false ≡ true = h in cc;
      depth = omega (arith, cut.depth);
    }

-- the child's rows at the set positions that the ranks name
pub is_take-filter : (p : FilterParts) (picks : List (Option ℕ)) (n : Nullability) (a : Column) → filter_fault p ≡ None → AreBelow picks (true_count_of (mask_bits p.mask)) → IsTake p.child (positions_by_rank (mask_bits p.mask) picks) n a → IsTake (filter_column p) picks n a
is_take-filter p picks n a f below step =
    is_step-filter p _ _ a (step.rows ∙ sym (take_of_filter null (mask_bits p.mask) p.child.rows picks (long-filter p f) below)) step.dtype step.form

-- the child's unwrapped form, cut by the mask
pub execute-filter : (p : FilterParts) (child a : Column) → IsStep p.child p.child.rows p.child.dtype child → IsCut child (items_where_true (mask_bits p.mask) child.rows) a → IsStep (filter_column p) (filter_column p).rows (filter_column p).dtype a
execute-filter p child a same cut =
    is_step-filter p _ _ a (cut.step.rows ∙ ap (items_where_true (mask_bits p.mask)) same.rows) (cut.step.dtype ∙ same.dtype) (cut.step.form ∙ same.form)

-- ---- ranks and positions

-- the position of a rank that is there
pub there-translated : (bits : List Bool) (ranks : List (Option ℕ)) → AllThere ranks → AllThere (positions_by_rank bits ranks)
there-translated bits [] h = refl
there-translated bits (None ∷ ranks) h = cc
there-translated bits (Some k ∷ ranks) h = there-translated bits ranks h

-- where each of the child's is, each row is
pub sound-child : (p : FilterParts) (n : ℕ) → first_bad n (numbers_of p.child) ≡ None → first_bad n (numbers_of (filter_column p)) ≡ None
sound-child p n h =
    ap (first_bad n) (map-items_where_true (number_in p.child.dtype.kind) (mask_bits p.mask) p.child.rows)
    ∙ first_bad-filter n (mask_bits p.mask) (numbers_of p.child) h
