-- Rows that are bits.
use Rattle.std.proofs.Common.{◌≡◌, ℕ, ◌<◌, Bool, false, List, map, length, get_or, sym, ap, ◌∙◌}
use Rattle.std.proofs.lemmas.List.{length-map, get_or-map}
use Rattle.vx_types.specs.RowValue.{RowValue, null, bit}
use Rattle.vx_model.specs.Valid.{is_yes}

pub bits_long : (rows : List RowValue) (bits : List Bool) → rows ≡ map bit bits → length bits ≡ length rows
bits_long rows bits are = sym (ap length are ∙ length-map bits bit)

-- a row is true where its bit is set
pub bit_there : (rows : List RowValue) (bits : List Bool) (i : ℕ) → rows ≡ map bit bits → i < length bits → get_or bits i false ≡ is_yes (get_or rows i null)
bit_there rows bits i are l =
    ap is_yes (sym (get_or-map bit bits i false null l)) ∙ ap (λ r. is_yes (get_or r i null)) (sym are)

pub ruleset bit_rows = (bits_long, bit_there)
