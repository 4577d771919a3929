-- Whether an array fits its layout, and how many bytes each of its buffers has.
use Rattle.std.specs.Prelude.{ℕ, ◌+◌, ◌-◌, ◌*◌, ◌/◌, ◌^◌, Bool, not, ◌&&◌, ◌||◌, ◌==◌, nat_le, nat_lt, if◌then◌else◌, Option, Some, None}
use Rattle.vx_arrow_formats.specs.declared.layout.Layout.{Layout}
use Rattle.vx_arrow_formats.specs.declared.shape.Measure.{Measure}
use Rattle.vx_arrow_formats.specs.declared.shape.Misfit.{Misfit}
use Rattle.vx_arrow_formats.specs.declared.shape.Misfit.TheVariants as misfits
use Rattle.vx_arrow_formats.specs.declared.shape.Shape.{Shape}
use Rattle.vx_arrow_image.specs.declared.format.Format.{Format}
use Rattle.vx_arrow_image.specs.declared.format.Format.TheVariants.{Bits, Fixed, Text, List as Lists, TextView, ListView, Union, DenseUnion}
use Rattle.vx_arrow_image.specs.Image.{format_in, size_of}

-- ---- what fits

abbrev pub is_set : ℕ → Bool
is_set flag = not (flag == 0)

-- the rows up to the last one, with those before the first
abbrev pub rows_of : Shape → ℕ
rows_of s = s.offset + s.len

-- neither is negative, and an offset behind the last row can be counted
abbrev pub has_length : Shape → Bool
has_length s = nat_lt (rows_of s) (2 ^ 63 - 1)

-- views have validity, views, data buffers and these buffers' lengths; other layouts say how many
abbrev pub has_buffers : Layout → Shape → Bool
has_buffers l s =
    (if l.format == 9 then nat_le 3 s.buffers && nat_lt s.buffers (2 ^ 31)
    else s.buffers == l.buffers)
    && ((s.buffers == 0) || is_set s.has_buffers)

-- as many as the schema has, and as many as the layout says, unless that is 2^64 - 1
abbrev pub has_children : Layout → Shape → Bool
has_children l s =
    ((s.schema_children == s.children) && nat_lt s.children (2 ^ 63))
    && (((l.children == 2 ^ 64 - 1) || (l.children == s.children))
    && ((s.children == 0) || is_set s.has_children))

-- validity, where there are nulls and the layout has any
abbrev pub has_validity : Layout → Shape → Bool
has_validity l s =
    ((s.null_count == 0) || nat_le (2 ^ 63) s.null_count)
    || ((l.valid == 0) || is_set s.has_first)

-- a dictionary of both, whose codes are integers, or of neither
abbrev pub has_dictionary : Layout → Shape → Bool
has_dictionary l s =
    if s.schema_dictionary == 0 then s.has_dictionary == 0
    else is_set s.has_dictionary && is_set l.codes

-- what doesn't fit, in this order
abbrev pub misfit_in : Layout → Shape → Option Misfit
misfit_in l s =
    if not (has_length s) then Some misfits.Length
    else if not (has_buffers l s) then Some misfits.Buffers
    else if not (has_children l s) then Some misfits.Children
    else if not (has_validity l s) then Some misfits.Validity
    else if not (has_dictionary l s) then Some misfits.Dictionary
    else if nat_le (2 ^ 60) (rows_of s) then Some misfits.Rows
    else None

-- ---- how many bytes, by Arrow's table of buffers

-- no memory holds 2^63 bytes
abbrev pub in_memory : ℕ → ℕ
in_memory bytes = if nat_lt bytes (2 ^ 63) then bytes else 0

-- a bit a row
abbrev pub bits_len : ℕ → ℕ
bits_len rows = (rows + 7) / 8

-- an offset a row and one more, but none for no rows; of views of lists and dense unions one a row
abbrev pub offsets_len : Option Format → ℕ → ℕ
offsets_len (Some (Text z)) rows = if rows == 0 then 0 else in_memory ((rows + 1) * size_of z)
offsets_len (Some (Lists z)) rows = if rows == 0 then 0 else in_memory ((rows + 1) * size_of z)
offsets_len (Some (ListView z)) rows = in_memory (rows * size_of z)
offsets_len (Some DenseUnion) rows = in_memory (rows * 4)
offsets_len _ rows = 0

-- a value a row; of unions a type id, a byte
abbrev pub values_len : Option Format → ℕ → ℕ → ℕ
values_len (Some Bits) width rows = bits_len rows
values_len (Some Fixed) width rows = in_memory (rows * width)
values_len (Some TextView) width rows = in_memory (rows * 16)
values_len (Some Union) width rows = rows
values_len (Some DenseUnion) width rows = rows
values_len _ width rows = 0

-- a size a row; of views of strings eight bytes for each data buffer
abbrev pub sizes_len : Option Format → ℕ → ℕ → ℕ
sizes_len (Some (ListView z)) rows children = in_memory (rows * size_of z)
sizes_len (Some TextView) rows children = in_memory (children * 8)
sizes_len _ rows children = 0

-- the children; of views of strings the data buffers
abbrev pub children_of : Option Format → Shape → ℕ
children_of (Some TextView) s = s.buffers - 3
children_of _ s = s.children

abbrev pub measure_of : Layout → Shape → Measure
measure_of l s =
    record {
      children = children_of (format_in l.format) s;
      valid = if l.valid == 0 then 0 else bits_len (rows_of s);
      offsets = offsets_len (format_in l.format) (rows_of s);
      values = values_len (format_in l.format) l.width (rows_of s);
      sizes = sizes_len (format_in l.format) (rows_of s) (children_of (format_in l.format) s);
    }
