-- What a layout answers to one step over a column of its own: the rows of the step, or none where
-- it leaves the step to its caller.
use Rattle.std.specs.Prelude.{◌≡◌, ℕ, ◌==◌, ◌||◌, Bool, false, List, length, Option, is_none, Result}
use Rattle.std.specs.Prelude.{IfOk, IfSome}
use Rattle.std.specs.List.{items_where_true}
use Rattle.vx_bits.specs.BitBuffer.{true_count_of}
use Rattle.vx_bits.specs.Results.{FailsBy}
use Rattle.vx_bits.specs.declared.error.NoMemory.{NoMemory}
use Rattle.vx_model.specs.Column.{Column}
use Rattle.vx_model.specs.Step.{IsCut, IsSlice}
use Rattle.vx_pieces.specs.Indices.{IndexValue}
use Rattle.vx_layouts.specs.Taking.{IsTakeBy, take_fault}
use Rattle.vx_layouts.specs.declared.taking.TakeError.{TakeError}
use Rattle.vx_layouts.specs.declared.taking.TakeError.TheVariants.{NoMemory as OutOfMemory}

-- a has the rows of p at the set bits, of parts whose column is this
abbrev pub IsFilterOf : {P : Type 0} → (P → Column) → P → List Bool → P → Type 0
IsFilterOf column p bits a = IsCut (column p) (items_where_true bits (column p).rows) (column a)

-- no bit is set, or each is
abbrev pub are_alike : List Bool → Bool
are_alike bits = (true_count_of bits == 0) || (true_count_of bits == length bits)

-- the answer to a take by these indices, of which a layout says whether it declines it
pub record AnswersTake (c : Column) (indices : IndexValue) (declines : Bool)
    (result : Result (Option Column) TakeError) : Type 0 where
  pub taken : IfOk result (λ r. IfSome r (IsTakeBy indices c))
  -- none exactly where it declines
  pub declined : IfOk result (λ r. is_none r ≡ declines)
  -- exactly the indices' fault, where they have one, before anything else
  pub fault : FailsBy result (take_fault c indices) OutOfMemory

-- the answer to a filter by the bits of a mask
pub record AnswersFilter (c : Column) (bits : List Bool) (declines : Bool)
    (result : Result (Option Column) NoMemory) : Type 0 where
  pub kept : IfOk result (λ r. IfSome r (IsCut c (items_where_true bits c.rows)))
  pub declined : IfOk result (λ r. is_none r ≡ declines)

-- the answer to a slice from one position up to another, which no layout declines
pub record AnswersSlice (c : Column) (start end : ℕ) (result : Result (Option Column) NoMemory)
    : Type 0 where
  pub cut : IfOk result (λ r. IfSome r (IsSlice c start end))
  pub never_none : IfOk result (λ r. is_none r ≡ false)
