-- What a JSON value means as the validity of a column.
use Rattle.std.specs.Prelude.{ℕ, List, Bool, if◌then◌else◌, Option, Some, None, codes, bytes_eq}
use Rattle.serde_json.specs.Data.{Data, Items}
use Rattle.serde_json.specs.Find.{get, as_str, as_array, as_bool}
use Rattle.vx_model.specs.Column.{Column}
use Rattle.vx_model.specs.Valid.{Valid, non_nullable, all_valid, all_invalid, by_column}
use Rattle.vx_model.specs.Bool.{bits_column}
use Rattle.vx_json.specs.Meaning.{◌>>=◌}
use Rattle.vx_json.specs.Items.{each}
use Rattle.vx_json.specs.Bools.{has_null, presence_of}

-- a column of bools, none of them null
abbrev pub by_bits : List Bool → Valid
by_bits bits = by_column (bits_column bits 0)

-- the constant forms
unfoldable pub validity_named : List ℕ → Option Valid
validity_named s =
    if bytes_eq s (codes "NonNullable") then Some non_nullable
    else if bytes_eq s (codes "AllValid") then Some all_valid
    else if bytes_eq s (codes "AllInvalid") then Some all_invalid
    else None

abbrev pub validity_listed : Items → Option Valid
validity_listed ds = each as_bool ds >>= λ bits. Some (by_bits bits)

-- a text, a list of bools, or else the column that the value means
abbrev pub validity_by : Option (List ℕ) → Option Items → Option Column → Option Valid
validity_by (Some s) items column = validity_named s
validity_by None (Some ds) column = validity_listed ds
validity_by None None column = column >>= λ c. Some (by_column c)

unfoldable pub validity_from : Data → Option Column → Option Valid
validity_from d column = validity_by (as_str d) (as_array d) column

-- a validity where the member is there
abbrev pub stated_by : Option Data → Option Column → Option (Option Valid)
stated_by None column = Some None
stated_by (Some d) column = validity_from d column >>= λ v. Some (Some v)

-- the validity that the object states, if it states one; `inner` is the column that each of its
-- members means
unfoldable pub validity_stated : Data → (List ℕ → Option Column) → Option (Option Valid)
validity_stated d inner = stated_by (get (codes "validity") d) (inner (codes "validity"))

-- the one that is stated, if one is
abbrev pub validity_alone : Option Valid → Valid
validity_alone None = non_nullable
validity_alone (Some v) = v

abbrev pub by_presence : Option (List Bool) → Valid
by_presence None = non_nullable
by_presence (Some bits) = by_bits bits

-- the validity of listed values: the one that is stated, where none of them is null; or, where none
-- is stated, that by which of them are there
unfoldable pub validity_beside : Option Valid → Items → Option Valid
validity_beside None ds = Some (by_presence (presence_of ds))
validity_beside (Some v) ds = if has_null ds then None else Some v
