-- What a join of two tables answers, and why there is none.
use Rattle.std.specs.Prelude.{◌≡◌, ℕ, nat_lt, ◌&&◌, ◌==◌, not, Bool, true, false, List, [], ◌∷◌, ◌++◌, length, map, slice_get, Option, Some, refl}
use Rattle.std.specs.Coded.{Coded, code_by, coded×, coded_ℕ, coded_list, coded_option}
use Rattle.std.specs.List.{All, position_from}
use Rattle.std.specs.Option.{option_map, option_or}
use Rattle.std.specs.Ordering.{int_eq}
use Rattle.vx_types.specs.RowValue.{null}
use Rattle.vx_types.specs.TypeTree.{TypeKind, TypeTree, null_kind, bool_kind, primitive_kind, decimal_kind, is_flat}
use Rattle.vx_types.specs.contracts.ptype.PTypePartialEq.TheImpl as ptypes
use Rattle.vx_take.specs.Picks.{BoundedPicks, at}
use Rattle.vx_model.specs.Column.{Column}
use Rattle.vx_model.specs.Plain.{is_unwrapped}
use Rattle.vx_table.specs.Table.{TableValue}
use Rattle.vx_join.specs.Pairs.{lefts, rights}
use Rattle.vx_join.specs.declared.error.JoinError.{JoinError}
use Rattle.vx_join.specs.declared.error.JoinError.TheVariants.{NoKeys, NoKey, KeyTypes}

-- ---- refusals

-- both are flat, and alike but for nullability
abbrev pub are_key_kinds : TypeKind → TypeKind → Bool
are_key_kinds null_kind null_kind = true
are_key_kinds bool_kind bool_kind = true
are_key_kinds (primitive_kind p) (primitive_kind q) = ptypes.ghosts.eq p q
are_key_kinds (decimal_kind p s w) (decimal_kind q t v) = (p == q) && int_eq s t && (w == v)
are_key_kinds k l = false

abbrev pub are_key_types : TypeTree → TypeTree → Bool
are_key_types t u = are_key_kinds t.kind u.kind

-- both columns of a pair are there
abbrev pub is_there : TableValue → TableValue → ℕ × ℕ → Bool
is_there left right k =
    nat_lt k.0 (length left.columns) && nat_lt k.1 (length right.columns)

abbrev pub have_key_types : Option Column → Option Column → Bool
have_key_types (Some a) (Some b) = are_key_types a.dtype b.dtype
have_key_types a b = false

-- and their types are those of a pair of keys
abbrev pub has_key_types : TableValue → TableValue → ℕ × ℕ → Bool
has_key_types left right k =
    have_key_types (slice_get left.columns k.0) (slice_get right.columns k.1)

-- why there is no join, the first that holds
abbrev pub join_fault : TableValue → TableValue → List (ℕ × ℕ) → Option JoinError
join_fault left right [] = Some NoKeys
join_fault left right (k ∷ keys) =
    option_or
    (option_map NoKey (position_from (λ p. not (is_there left right p)) 0 (k ∷ keys)))
    (option_map KeyTypes (position_from (λ p. not (has_key_types left right p)) 0 (k ∷ keys)))

-- ---- the answer

-- what contracts see of `JoinIndices`
pub record JoinValue : Type 0 where
  pub left : BoundedPicks
  pub right : BoundedPicks

-- picks of these positions, none of them a null
abbrev pub picks_at : List ℕ → ℕ → BoundedPicks
picks_at positions bound = record { picks = map Some positions; bound = bound }

-- the two lists of rows of these pairs
abbrev pub rows_of_pairs : TableValue → TableValue → List (ℕ × ℕ) → JoinValue
rows_of_pairs left right ps =
    record { left = picks_at (lefts ps) left.len; right = picks_at (rights ps) right.len }

-- t has a row a pair: the left row in the left columns, and the right row in the right ones, which
-- come behind them, with their names and types. A flat column is unwrapped
pub record IsJoin (left right : TableValue) (ps : List (ℕ × ℕ)) (t : TableValue) : Type 0 where
  pub len : t.len ≡ length ps
  pub names : t.names ≡ left.names ++ right.names
  pub types : map (λ c. c.dtype) t.columns
      ≡ map (λ c. c.dtype) left.columns ++ map (λ c. c.dtype) right.columns
  pub rows : map (λ c. c.rows) t.columns
      ≡ map (λ c. at null c.rows (map Some (lefts ps))) left.columns
      ++ map (λ c. at null c.rows (map Some (rights ps))) right.columns
  pub unwrapped : All (λ c. is_flat c.dtype ≡ true → is_unwrapped c ≡ true) t.columns

-- ---- the code of the indices
abbrev coded_picks : Coded BoundedPicks
coded_picks =
    code_by (List (Option ℕ) × ℕ) (coded× (coded_list (coded_option coded_ℕ)) coded_ℕ)
    (λ p. (p.picks, p.bound)) (λ f. record { picks = f.0; bound = f.1 }) (λ _. refl)

abbrev pub coded_join : Coded JoinValue
coded_join =
    code_by (BoundedPicks × BoundedPicks) (coded× coded_picks coded_picks)
    (λ j. (j.left, j.right)) (λ f. record { left = f.0; right = f.1 }) (λ _. refl)
