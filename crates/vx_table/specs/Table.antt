-- What contracts see of a `Table`, and why there is none.
use Rattle.std.specs.Prelude.{◌≡◌, ℕ, ◌==◌, List, Vec, length, map, not, Option, Some, if◌then◌else◌, refl}
use Rattle.std.specs.Coded.{Coded, code_by, coded×, coded_ℕ, coded_list}
use Rattle.std.specs.List.{All, position_from}
use Rattle.std.specs.Option.{option_map}
use Rattle.std.specs.Rc.{rc_str_bytes}
use Rattle.std.specs.declared.rc.RcStr.{RcStr}
use Rattle.std.specs.declared.alloc.Global.{Global}
use Rattle.vx_model.specs.Column.{Column}
use Rattle.vx_model.specs.ColumnCode.{coded_column}
use Rattle.vx_table.specs.declared.error.TableError.{TableError}
use Rattle.vx_table.specs.declared.error.TableError.TheVariants.{WrongCount, WrongLength}

-- names as the bytes of their texts, a name a column; each column has `len` rows
pub record TableValue : Type 0 where
  pub names : List (List ℕ)
  pub columns : List Column
  pub len : ℕ

abbrev pub names_of : List (RcStr Global) → List (List ℕ)
names_of names = map (λ (name : RcStr Global). rc_str_bytes name) names

abbrev pub table_of : Vec (RcStr Global) Global → List Column → ℕ → TableValue
table_of names columns len = record { names = names_of names.items; columns = columns; len = len }

-- why these are no table, the first that holds
abbrev pub table_fault : TableValue → Option TableError
table_fault t =
    if length t.names == length t.columns then
    option_map WrongLength (position_from (λ c. not (length c.rows == t.len)) 0 t.columns)
    else Some WrongCount

-- each column has so many rows
abbrev pub AreLong : ℕ → List Column → Type 0
AreLong n columns = All (λ (c : Column). length c.rows ≡ n) columns

-- ---- its code
abbrev pub coded_table : Coded TableValue
coded_table =
    code_by (List (List ℕ) × (List Column × ℕ))
    (coded× (coded_list (coded_list coded_ℕ)) (coded× (coded_list coded_column) coded_ℕ))
    (λ t. (t.names, (t.columns, t.len)))
    (λ f. record { names = f.0; columns = f.1.0; len = f.1.1 }) (λ _. refl)
