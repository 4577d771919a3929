-- Lists that are no pairs, by their length.
use Rattle.std.proofs.Common.{◌≡◌, ◌<◌, ◌≤◌, List, [], ◌∷◌, length, None, refl, arith}
use Rattle.serde_json.specs.View.{items_view}
use Rattle.serde_json.specs.declared.value.Value.{Value}
use Rattle.vx_json.specs.Wholes.{pair_in}

pub pair_in-short : (vs : List Value) → length vs < 2 → pair_in (items_view vs) ≡ None
unfolding pair_in
pair_in-short [] h = refl
pair_in-short (a ∷ []) h = refl
pair_in-short (a ∷ b ∷ vs) h = absurd (omega arith)

pub pair_in-long : (vs : List Value) → 3 ≤ length vs → pair_in (items_view vs) ≡ None
unfolding pair_in
pair_in-long [] h = absurd (omega arith)
pair_in-long (a ∷ []) h = absurd (omega arith)
pair_in-long (a ∷ b ∷ []) h = absurd (omega arith)
pair_in-long (a ∷ b ∷ c ∷ vs) h = refl
