-- What the entries of maps are.
use Rattle.std.specs.Prelude.{ℕ, ◌+◌, ◌-◌, Bool, true, false, ◌&&◌, ◌||◌, ◌==◌, nat_lt, List, [], length, slice_index_or, Option, Some, None}
use Rattle.vx_arrow_image.specs.declared.format.Format.{Format}
use Rattle.vx_arrow_image.specs.declared.format.Format.TheVariants.{Struct, List as Lists}
use Rattle.vx_arrow_image.specs.declared.format.Offsets.TheVariants.{Short}
use Rattle.vx_arrow_image.specs.Image.{Part, holds_offsets, is_placed, offset_at}
use Rattle.vx_arrow_strict.specs.declared.flaw.Extra.{Extra}
use Rattle.vx_arrow_strict.specs.Nulls.{has_no_nulls}

-- what stands at a place past the nodes
abbrev pub absent : Part
absent = record {
  format = None;
  width = 0;
  len = 0;
  offset = 0;
  children = 0;
  valid = [];
  offsets = [];
  values = [];
  sizes = [];
}

abbrev pub is_list : Option Format → Bool
is_list (Some (Lists Short)) = true
is_list f = false

abbrev pub is_struct : Option Format → Bool
is_struct (Some Struct) = true
is_struct f = false

-- the first entry of the lists, and how many there are from it on
abbrev pub first_entry : Part → ℕ
first_entry p = offset_at Short p.offsets p.offset

abbrev pub entry_count : Part → ℕ
entry_count p = offset_at Short p.offsets (p.offset + p.len) - first_entry p

-- no entry that the lists span is null, and no key of one; the keys are the entries' first child
unfoldable pub has_keys : Part → Part → Part → Bool
has_keys p entries keys =
    has_no_nulls entries (entries.offset + first_entry p) (entry_count p)
    && has_no_nulls keys (keys.offset + (entries.offset + first_entry p)) (entry_count p)

-- the lists' child is a struct of two children, the first of them the keys
unfoldable pub is_map : Part → Part → Part → Bool
is_map p entries keys =
    is_list p.format
    && (is_struct entries.format
    && ((entries.children == 2)
    && (is_placed p
    && (is_placed entries
    && (is_placed keys && (holds_offsets Short p && has_keys p entries keys))))))

-- a map has entries as it should; the nodes behind it begin with the entries and the keys
unfoldable pub maps_hold : Part → Extra → List Part → Bool
maps_hold p x below =
    (x.map == 0)
    || (nat_lt 1 (length below)
    && is_map p (slice_index_or below 0 absent) (slice_index_or below 1 absent))
