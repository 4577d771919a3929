-- What a step leaves of a layout that nests others makes what it leaves of its column.
use Rattle.std.proofs.Common.{◌≡◌, ◌≤◌, Bool, true, false, List, refl, sym, ap₂, ◌∙◌, arith}
use Rattle.std.specs.Prelude.{◌&&◌, ◌||◌}
use Rattle.vx_types.specs.TypeTree.{TypeKind, TypeTree}
use Rattle.vx_types.specs.RowValue.{RowValue}
use Rattle.vx_types.specs.declared.nullability.Nullability.{Nullability}
use Rattle.vx_model.specs.Plain.{is_in_place, is_lazy_layout, is_null_layout, is_plain, is_row_layout, is_unwrapped}
use Rattle.vx_model.specs.Step.{IsCut, IsStep}
use Rattle.vx_model.specs.Stored.{StoredParts, stored_column}
use Rattle.vx_model.specs.Valid.{cover_by, is_constant_form, is_flat_cover, nullability_by, stored_rows, IsLeft, IsAsPlain}

-- ---- such a column is neither unwrapped nor plain

neither : (a b c : Bool) → (a || b) ≡ false → (a || (b && c)) ≡ false
neither false false c h = refl
neither false true c h = cc
neither true b c h = cc

not_unwrapped : (p : StoredParts) → is_in_place p.layout ≡ false → is_unwrapped (stored_column p) ≡ false
not_unwrapped p h = neither (is_null_layout p.layout) (is_row_layout p.layout) (is_flat_cover (cover_by p.valid)) h

not_plain : (p : StoredParts) → is_in_place p.layout ≡ false → is_plain (stored_column p) ≡ false
not_plain p h = neither (is_null_layout p.layout) (is_row_layout p.layout) (is_constant_form (cover_by p.valid)) h

-- ---- steps

module _ (p q : StoredParts) (from : is_in_place p.layout ≡ false) (to : is_lazy_layout q.layout ≡ false) (kind : q.kind ≡ p.kind) (left : List RowValue) (bits : List Bool) (rows : stored_rows q.valid q.items ≡ left) where
  -- a step whose rows and validity are these
  pub is_step-nested : (n : Nullability) → IsLeft p.valid n bits q.valid → IsStep (stored_column p) left (record { kind = p.kind; nullability = n }) (stored_column q)
  is_step-nested n now =
      record {
        rows = rows;
        dtype = ap₂ (λ (k : TypeKind) (m : Nullability). let t : TypeTree = record { kind = k; nullability = m } in t) kind now.nullability;
        layout = λ h. let no : true ≡ false = sym h ∙ from in cc;
        unwrapped = λ h. let no : true ≡ false = sym h ∙ not_unwrapped p from in cc;
        direct = λ _. to;
        form = refl;
      }

  -- a step whose rows and validity are these, and which keeps the type
  pub is_cut-nested : IsLeft p.valid (nullability_by p.valid) bits q.valid → IsAsPlain p.valid q.valid → q.inner ≤ p.inner → IsCut (stored_column p) left (stored_column q)
  is_cut-nested now plain inner =
      record {
        step = is_step-nested (nullability_by p.valid) now;
        plain = λ h. let no : true ≡ false = sym h ∙ not_plain p from in cc;
        depth = omega (arith, plain.depth, inner);
      }
