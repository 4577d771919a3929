-- The place of the variant of an id.
use Rattle.std.proofs.Common.{◌≡◌, ℕ, suc, ◌+◌, ◌<◌, ◌≤◌, List, drop, length, get_or, Option, None, Some, refl, ap, arith}
use Rattle.std.specs.Prelude.{◌==◌, if◌then◌else◌}
use Rattle.std.specs.Option.{option_map}
use Rattle.std.proofs.lemmas.List.{at_drop_all, at_drop_more}
use Rattle.vx_types.specs.Variants.{index_of}

pub index-more : (ids : List ℕ) (id k d : ℕ) → k < length ids → index_of (drop k ids) id ≡ (if get_or ids k d == id then Some 0 else option_map suc (index_of (drop (k + 1) ids) id))
index-more ids id k d h = at_drop_more (λ l. index_of l id) ids k d h

pub index-end : (ids : List ℕ) (id k : ℕ) → length ids ≤ k → index_of (drop k ids) id ≡ None
index-end ids id k h = at_drop_all (λ l. index_of l id) ids k h

pub index-start : (o : Option ℕ) → option_map (λ j. 0 + j) o ≡ o
index-start None = refl
index-start (Some j) = ap Some (let e : 0 + j ≡ j = omega arith in e)

pub index-next : (o : Option ℕ) (k : ℕ) → option_map (λ j. k + j) (option_map suc o) ≡ option_map (λ j. k + 1 + j) o
index-next None k = refl
index-next (Some j) k = ap Some (let e : k + suc j ≡ k + 1 + j = omega arith in e)

pub ruleset places = (index-more, index-end, index-start, index-next)
