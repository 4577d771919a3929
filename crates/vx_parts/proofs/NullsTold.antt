-- A plan's order has a null only where its steps may leave one.
use Rattle.std.proofs.Common.{◌≡◌, ℕ, false, true, List, [], ◌∷◌, map, Option, Some, None, refl, sym, subst}
use Rattle.std.specs.Prelude.{is_some}
use Rattle.std.specs.List.{list_all}
use Rattle.vx_types.specs.Nullability.{either_nullable}
use Rattle.vx_types.specs.declared.nullability.Nullability.{Nullability}
use Rattle.vx_types.specs.declared.nullability.Nullability.TheVariants.{NonNullable, Nullable}
use Rattle.vx_positions.specs.Positions.{AllThere}
use Rattle.vx_steps.specs.Step.{StepValue, slice_step, filter_step, filter_by_step, take_step}
use Rattle.vx_steps.specs.Compose.{step_nullability, takes_nullability}
use Rattle.vx_interleave.specs.declared.place.Place.{Place}
use Rattle.vx_parts.specs.Cuts.{from_take}
use Rattle.vx_parts.specs.Own.{AreCut, pick_at}

-- where picks are there, each has a place
order_there : (bounds : List ℕ) (own : List (List ℕ)) (order : List (Option Place)) → AllThere (map (pick_at bounds own) order) → list_all is_some order ≡ true
order_there bounds own [] h = refl
order_there bounds own (None ∷ order) h = let no : false ≡ true = h in cc
order_there bounds own (Some place ∷ order) h = order_there bounds own order h

pub cut_there : (bounds : List ℕ) (picks : List (Option ℕ)) (own : List (List ℕ)) (order : List (Option Place)) → AreCut bounds picks own order → AllThere picks → list_all is_some order ≡ true
cut_there bounds picks own order cut there = order_there bounds own order (subst AllThere (sym cut.named) there)

neither : (a b : Nullability) → either_nullable a b ≡ NonNullable → b ≡ NonNullable
neither NonNullable b h = h
neither Nullable b h = let no : Nullable ≡ NonNullable = h in cc

-- where no step leaves a null, none from the first take on does
pub takes_from : (ss : List StepValue) → takes_nullability ss ≡ NonNullable → takes_nullability (from_take ss) ≡ NonNullable
takes_from [] h = h
takes_from (slice_step start end ∷ ss) h = takes_from ss (neither (step_nullability (slice_step start end)) (takes_nullability ss) h)
takes_from (filter_step bits ∷ ss) h = takes_from ss (neither (step_nullability (filter_step bits)) (takes_nullability ss) h)
takes_from (filter_by_step column ∷ ss) h = takes_from ss (neither (step_nullability (filter_by_step column)) (takes_nullability ss) h)
takes_from (take_step indices ∷ ss) h = h
