-- What string views are.
use Rattle.std.specs.Prelude.{ℕ, ◌+◌, ◌*◌, ◌-◌, ◌^◌, Bool, true, false, ◌&&◌, ◌==◌, nat_le, nat_lt, List, length, take, slice_index, slice_index_or, if◌then◌else◌, Option, Some}
use Rattle.std.specs.List.{list_all, range_with_len}
use Rattle.vx_arrow_image.specs.declared.format.Format.{Format}
use Rattle.vx_arrow_image.specs.declared.format.Format.TheVariants.{Fixed, TextView}
use Rattle.vx_arrow_image.specs.Image.{Part, is_placed, view_buffer, view_len, view_start}
use Rattle.vx_arrow_strict.specs.Maps.{absent}

abbrev pub is_fixed : Option Format → Bool
is_fixed (Some Fixed) = true
is_fixed f = false

-- a data buffer: values of one byte
unfoldable pub is_buffer : Part → Bool
is_buffer b =
    is_fixed b.format
    && ((b.width == 1)
    && ((b.children == 0) && (is_placed b && nat_le (b.offset + b.len) (length b.values))))

-- byte k of the 12 behind the length of view i
abbrev pub view_byte : Part → ℕ → ℕ → ℕ
view_byte p i k = slice_index p.values (16 * i + 4 + k)

-- the bytes behind a short text are 0
unfoldable pub is_padded : Part → ℕ → Bool
is_padded p i =
    list_all (λ k. view_byte p i k == 0) (range_with_len (view_len p i) (12 - view_len p i))

-- the first four bytes of a long text in a data buffer are those of its view
unfoldable pub is_prefixed : Part → Part → ℕ → Bool
is_prefixed p b i =
    list_all (λ k. view_byte p i k == slice_index b.values (b.offset + view_start p i + k))
    (range_with_len 0 4)

-- a long text lies within a data buffer
unfoldable pub lies_in : Part → Part → ℕ → Bool
lies_in p b i =
    nat_lt (view_start p i) (2 ^ 31)
    && (nat_le (view_start p i + view_len p i) b.len && is_prefixed p b i)

-- the data buffers are the first of the nodes behind the views
unfoldable pub is_long : Part → List Part → ℕ → Bool
is_long p below i =
    nat_lt (view_buffer p i) p.children
    && lies_in p (slice_index_or below (view_buffer p i) absent) i

unfoldable pub is_text : Part → List Part → ℕ → Bool
is_text p below i =
    nat_lt (view_len p i) (2 ^ 31)
    && (if nat_le (view_len p i) 12 then is_padded p i else is_long p below i)

-- each row is a text, nulls too
unfoldable pub are_texts : Part → List Part → Bool
are_texts p below =
    is_placed p
    && (nat_le (16 * (p.offset + p.len)) (length p.values)
    && (nat_le p.children (length below)
    && (list_all is_buffer (take p.children below)
    && list_all (is_text p below) (range_with_len p.offset p.len))))

abbrev pub texts_hold : Option Format → Part → List Part → Bool
texts_hold (Some TextView) p below = are_texts p below
texts_hold f p below = true
