-- Where no pick is null each place is within, and else where all are tested.
use Rattle.std.proofs.Common.{◌≡◌, ◌∙◌, ℕ, List, [], ◌∷◌, length, refl, ap, sym, true, arith}
use Rattle.std.specs.Prelude.{◌==◌}
use Rattle.std.proofs.lemmas.Bool.{eqb-true}
use Rattle.vx_arrow_image.specs.Image.{is_valid}
use Rattle.vx_arrow_columns.proofs.PickReads.{below_each, place_below}
use Rattle.vx_arrow_columns.proofs.places.are_rows.Goals as goal

empty_of : (vs : List ℕ) → true ≡ (length vs == 0) → vs ≡ []
empty_of [] h = refl
empty_of (v ∷ vs) h = let none : length (v ∷ vs) ≡ 0 = eqb-true (length (v ∷ vs)) 0 (sym h) in absurd (omega arith)

pub returns-then-is_empty : goal.returns-then-is_empty
returns-then-is_empty c e k h =
    let q = c.args.picks.now in
    let none : q.valid.now ≡ [] = empty_of q.valid.now c.if-is_empty.ensures in
    place_below q.places.now q.valid.now q.add c.args.len k c.requires h (ap (λ (v : List ℕ). is_valid v k) none)

pub returns-then-picks-eq0 : goal.returns-then-picks-eq0
returns-then-picks-eq0 c e k h =
    let q = c.args.picks.now in
    let low = below_each q.places.now c.args.len k (sym c.are_all_below.ensures ∙ e) h in
    omega (arith, low, c.if-picks-eq0.true)
