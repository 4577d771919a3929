-- What each byte packs of each byte.
use Rattle.std.specs.Prelude.{ℕ, ◌/◌, ◌%◌, List, map}
use Rattle.std.specs.List.{range_with_len}
use Rattle.vx_bitfilter.specs.Pext.{pext}

-- the first n entries: entry `256 * mask + src` has the bits of the byte `src` at the set positions
-- of the byte `mask`, packed from bit 0
unfoldable pub first_entries : ℕ → List ℕ
first_entries n = map (λ i. pext (i % 256) (i / 256)) (range_with_len 0 n)

-- all of them
abbrev pub pext_entries : List ℕ
pext_entries = first_entries 65536
