-- The answer over a file, and its errors.
use Rattle.std.proofs.Common.{◌≡◌, ℕ, List, Option, length, sym, ap, ap₂, subst, ◌∙◌}
use Rattle.std.proofs.lemmas.List.FromFn.{length-map-range_with_len}
use Rattle.vx_types.specs.PType.{width}
use Rattle.vx_types.specs.RowValue.{bytes}
use Rattle.vx_take.specs.Picks.{BoundedPicks}
use Rattle.vx_packed.specs.Parts.{record_of}
use Rattle.vx_steps.specs.Step.{StepValue}
use Rattle.vx_steps.specs.Walk.{walk, walk_picks}
use Rattle.vx_steps.specs.declared.cause.SelectError.{SelectError}
use Rattle.vx_steps.specs.declared.cause.SelectError.TheVariants as select_errors
use Rattle.vx_file.specs.Errors.{IfUnbroken, of_select}
use Rattle.vx_file.specs.File.{file_rows, number_at}
use Rattle.vx_file.specs.Reading.{IsReadError}
use Rattle.vx_file.specs.Shape.{ShapeValue}
use Rattle.vx_file.specs.Touched.{picks_of_steps, picks_by}
use Rattle.vx_file.specs.declared.error.FileError.{FileError}
use Rattle.vx_file.specs.declared.error.FileError.TheVariants.{ReadFault, BadHeader, Damaged, Broken, NoMemory}

pub length-file_rows : (blocks : List (List ℕ)) (s : ShapeValue) → length (file_rows blocks s) ≡ s.len
length-file_rows blocks s = length-map-range_with_len (λ p. bytes (record_of (width s.ptype) (number_at blocks p))) 0 s.len

-- the walk over the rows of the shape
pub walk_same : (p : BoundedPicks) (n len : ℕ) (steps : List StepValue) → walk n steps ≡ walk_picks p.picks → n ≡ len → walk len steps ≡ walk_picks p.picks
walk_same p n len steps e same = ap (λ m. walk m steps) (sym same) ∙ e

pub same_picks : (p : BoundedPicks) (n len : ℕ) (steps : List StepValue) → walk n steps ≡ walk_picks p.picks → p.bound ≡ n → n ≡ len → p ≡ picks_of_steps len steps
same_picks p n len steps e bound same =
    let f : List (Option ℕ) → ℕ → BoundedPicks = λ picks m. record { picks = picks; bound = m } in
    ap₂ f (sym (ap picks_by (walk_same p n len steps e same))) (bound ∙ same)

pub select_err : (P : Type 0) (Q : FileError → Type 0) (error : SelectError) (e : FileError) → e ≡ of_select error → P → Q NoMemory → IfUnbroken P Q e
select_err P Q (select_errors.Broken step cause) e same p q = subst (IfUnbroken P Q) (sym same) p
select_err P Q select_errors.NoMemory e same p q = subst (IfUnbroken P Q) (sym same) q

pub read_err : (P : Type 0) (width : ℕ) (picks : BoundedPicks) (spare : ℕ) (Raised : Type 0) (before after : Option (List ℕ)) (blocks : Option (List (List ℕ))) (e : FileError) → IsReadError width picks spare Raised before after blocks e → IfUnbroken P (IsReadError width picks spare Raised before after blocks) e
read_err P width picks spare Raised before after blocks ReadFault m = m
read_err P width picks spare Raised before after blocks BadHeader m = m
read_err P width picks spare Raised before after blocks (Damaged block) m = m
read_err P width picks spare Raised before after blocks (Broken step cause) m = absurd m
read_err P width picks spare Raised before after blocks NoMemory m = m
