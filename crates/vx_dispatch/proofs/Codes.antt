-- Codes and indices are numbers that name positions.
use Rattle.std.proofs.Common.{◌≡◌, ℕ, Bool, true, false, List, Option, None, Some, refl, ap, ◌∙◌, arith}
use Rattle.std.specs.Prelude.{ℤ, if◌then◌else◌}
use Rattle.std.specs.Option.{option_map}
use Rattle.vx_types.specs.RowValue.{RowValue, null}
use Rattle.vx_types.specs.TypeTree.{TypeTree, also_nullable}
use Rattle.vx_take.specs.Picks.{at}
use Rattle.vx_positions.specs.Positions.{positions_of}
use Rattle.vx_model.specs.Step.{IsStep}
use Rattle.vx_types.specs.TypeTree.{is_int_type}
use Rattle.vx_positions.specs.Positions.{first_bad}
use Rattle.vx_model.specs.Column.{Column}
use Rattle.vx_model.specs.Numbers.{numbers_of}
use Rattle.vx_model.specs.Dict.{DictParts, dict_column, dict_fault}
use Rattle.vx_model.proofs.DictSteps.{numbers_of-execute}
use Rattle.vx_pieces.specs.declared.fault.IndexFault.TheVariants.{InvalidIndices, OutOfBounds}
use Rattle.vx_pieces.specs.Indices.{column_fault}

-- ---- a take's indices

none_bad : (int : Bool) (bad : Option ℤ) → (if int then option_map OutOfBounds bad else Some InvalidIndices) ≡ None → bad ≡ None
none_bad true None h = refl
none_bad true (Some z) h = cc
none_bad false bad h = cc

-- indices that are unwrapped
module _ (p c : Column) (n : ℕ) (same : IsStep p p.rows p.dtype c) where
  pub int-indices : column_fault p n ≡ None → is_int_type c.dtype ≡ true
  int-indices h =
      let int : is_int_type p.dtype ≡ true = grind arith in
      ap is_int_type same.dtype ∙ int

  pub sound-indices : column_fault p n ≡ None → first_bad n (numbers_of c) ≡ None
  sound-indices h =
      ap (first_bad n) (numbers_of-execute p c same) ∙ none_bad (is_int_type p.dtype) (first_bad n (numbers_of p)) h

pub ruleset indices = (int-indices, sound-indices)

-- ---- the same codes, over values that say the same

module _ (p : DictParts) (v : Column) (same : IsStep p.values p.values.rows p.values.dtype v) where
  pub sound-other_values : dict_fault p ≡ None → dict_fault (record { codes = p.codes; values = v }) ≡ None
  sound-other_values h = rw same.rows h

  pub step-other_values : IsStep (dict_column p) (dict_column p).rows (dict_column p).dtype (dict_column (record { codes = p.codes; values = v }))
  step-other_values =
      record {
        rows = ap (λ (rows : List RowValue). at null rows (positions_of (numbers_of p.codes))) same.rows;
        dtype = ap (λ (t : TypeTree). also_nullable t p.codes.dtype.nullability) same.dtype;
        layout = λ e. let no : false ≡ true = e in cc;
        unwrapped = λ e. let no : false ≡ true = e in cc;
        direct = λ e. let no : true ≡ false = e in cc;
        form = same.form;
      }

pub ruleset other_values = (sound-other_values, step-other_values)
