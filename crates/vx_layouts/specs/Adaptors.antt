-- What a layout answers to a dictionary of its columns: a take at the dictionary's codes.
use Rattle.std.specs.Prelude.{◌≡◌, ℕ, Bool, length, Option, Result, true}
use Rattle.vx_types.specs.TypeTree.{is_int_type}
use Rattle.vx_model.specs.Column.{Codes, Column}
use Rattle.vx_model.specs.Numbers.{numbers_of}
use Rattle.vx_pieces.specs.Indices.{by_column}
use Rattle.vx_layouts.specs.Answers.{AnswersTake}
use Rattle.vx_layouts.specs.declared.taking.TakeError.{TakeError}

-- the codes that the numbers of a column are
abbrev pub codes_of : Column → Codes
codes_of k = record { numbers = numbers_of k; nullability = k.dtype.nullability }

-- the answer of a layout, which says what takes it declines, to a take from c at these codes
pub record AnswersCodes (c : Column) (codes : Codes) (declines : Column → ℕ → Bool)
    (result : Result (Option Column) TakeError) : Type 0 where
  -- a column of integers that are the codes
  pub indices : Column
  pub integers : is_int_type indices.dtype ≡ true
  pub same : codes_of indices ≡ codes
  pub answer : AnswersTake c (by_column indices) (declines c (length indices.rows)) result
