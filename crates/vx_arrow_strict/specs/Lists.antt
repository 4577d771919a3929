-- What list views are.
use Rattle.std.specs.Prelude.{ℕ, ◌+◌, Bool, true, ◌&&◌, nat_lt, List, length, slice_index_or, Option, Some}
use Rattle.std.specs.List.{list_all, range_with_len}
use Rattle.vx_arrow_image.specs.declared.format.Format.{Format}
use Rattle.vx_arrow_image.specs.declared.format.Format.TheVariants.{ListView}
use Rattle.vx_arrow_image.specs.declared.format.Offsets.{Offsets}
use Rattle.vx_arrow_image.specs.Image.{Part, holds_starts, is_list_view, is_placed}
use Rattle.vx_arrow_strict.specs.Maps.{absent}

-- each row lies within so many items, nulls too
unfoldable pub are_lists : Offsets → Part → ℕ → Bool
are_lists z p count =
    is_placed p
    && (holds_starts z p.offsets (p.offset + p.len)
    && (holds_starts z p.sizes (p.offset + p.len)
    && list_all (is_list_view z p count) (range_with_len p.offset p.len)))

-- the child of the lists is the node behind them
abbrev pub lists_hold : Option Format → Part → List Part → Bool
lists_hold (Some (ListView z)) p below =
    nat_lt 0 (length below) && are_lists z p (slice_index_or below 0 absent).len
lists_hold f p below = true
