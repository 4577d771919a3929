-- Takes from a filtered column that are better made from its materialized rows.
use Rattle.std.specs.Prelude.{ℕ, ◌*◌, nat_le, length, Bool, true, ◌&&◌, ◌||◌}
use Rattle.vx_mask.specs.declared.policy.PolicyFields.{PolicyFields}
use Rattle.vx_types.specs.TypeTree.{TypeKind, bool_kind, primitive_kind, decimal_kind}
use Rattle.vx_model.specs.Column.{Column}

-- at least as many indices as rows, of a column of many rows
abbrev pub is_whole_take : PolicyFields → ℕ → ℕ → Bool
is_whole_take fields rows indices =
    nat_le fields.big_filtered_len rows && nat_le rows indices

-- many indices, and at least so many times as many as rows
abbrev pub is_big_take : PolicyFields → ℕ → ℕ → Bool
is_big_take fields rows indices =
    nat_le fields.big_take_len indices && nat_le (fields.big_take_ratio * rows) indices

-- by the kind: bools always, numbers also for a big take
abbrev pub is_materialized_by : PolicyFields → TypeKind → ℕ → ℕ → Bool
is_materialized_by fields bool_kind rows indices = true
is_materialized_by fields (primitive_kind p) rows indices =
    is_whole_take fields rows indices || is_big_take fields rows indices
is_materialized_by fields (decimal_kind p s w) rows indices =
    is_whole_take fields rows indices || is_big_take fields rows indices
is_materialized_by fields k rows indices = is_whole_take fields rows indices

-- a take of so many indices from a filtered column
abbrev pub is_materialized : PolicyFields → Column → ℕ → Bool
is_materialized fields c indices = is_materialized_by fields c.dtype.kind (length c.rows) indices
