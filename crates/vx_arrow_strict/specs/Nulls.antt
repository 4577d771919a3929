-- Which rows are null, and how many.
use Rattle.std.specs.Prelude.{ℕ, Bool, true, false, not, ◌||◌, ◌&&◌, ◌^◌, ◌-◌, ◌==◌, if◌then◌else◌, Option, Some}
use Rattle.std.specs.List.{count_by, list_all, range_with_len}
use Rattle.vx_arrow_image.specs.declared.format.Format.{Format}
use Rattle.vx_arrow_image.specs.declared.format.Format.TheVariants.{Nulls}
use Rattle.vx_arrow_image.specs.Image.{Part, is_placed, is_valid}
use Rattle.vx_arrow_strict.specs.declared.flaw.Extra.{Extra}

abbrev pub is_nulls : Option Format → Bool
is_nulls (Some Nulls) = true
is_nulls f = false

-- row j, counted from the start of its lists, isn't null
abbrev pub is_present : Part → ℕ → Bool
is_present p j = if is_nulls p.format then false else is_valid p.valid j

-- how many rows are null
unfoldable pub null_count : Part → ℕ
null_count p = count_by (λ j. not (is_present p j)) (range_with_len p.offset p.len)

-- none of n rows from row a on is null
unfoldable pub has_no_nulls : Part → ℕ → ℕ → Bool
has_no_nulls p a n = list_all (is_present p) (range_with_len a n)

-- the number of nulls is told as it is, or not known
unfoldable pub counts_nulls : Part → Extra → Bool
counts_nulls p x =
    (x.null_count == 2 ^ 64 - 1) || (is_placed p && (null_count p == x.null_count))
