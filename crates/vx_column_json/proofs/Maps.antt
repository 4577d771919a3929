-- Maps of list views.
use Rattle.std.proofs.Common.{◌≡◌, Bool, true, false, Some, None, refl, sym}
use Rattle.std.specs.Prelude.{if◌then◌else◌}
use Rattle.vx_types.specs.declared.error.ColumnError.TheVariants.{WrongType}
use Rattle.vx_model.specs.Column.{Column}
use Rattle.vx_model.specs.ListView.{ListViewParts, listview_column}
use Rattle.vx_model.specs.Map.{map_column, map_fault}
use Rattle.vx_types.specs.TypeTree.{is_entry_type}
use Rattle.vx_model.specs.Plain.{is_listview_layout}
use Rattle.vx_json.specs.Meaning.{unless_fault}
use Rattle.vx_column_json.specs.Map.{map_made}

by_test : (b : Bool) (c : Column) → (if b then Some c else None) ≡ unless_fault (if b then None else Some WrongType) c
by_test true c = refl
by_test false c = refl

-- where they are a map's entries
pub map_made-views : (p : ListViewParts) (entries : Column) → listview_column p ≡ entries → map_made entries ≡ unless_fault (map_fault p) (map_column p)
unfolding map_made
map_made-views p entries is = rw (sym is) (by_test (is_entry_type p.elements.dtype) (map_column p))

-- of another layout
pub map_made-none : (entries : Column) → is_listview_layout entries.layout ≡ false → map_made entries ≡ None
unfolding map_made
map_made-none entries h = rw h refl
