-- What a test of a table finds.
use Rattle.std.specs.Prelude.{◌≡◌, ◌<◌, ◌+◌, ⊤, List, [], Option, None, length}
use Rattle.vx_arrow_image.specs.declared.refusal.Lack.{Lack}
use Rattle.vx_arrow_image.specs.declared.refusal.Lack.TheVariants as lacks
use Rattle.vx_arrow_image.specs.declared.refusal.Refusal.{Refusal}
use Rattle.vx_arrow_image.specs.declared.refusal.Refusal.TheVariants as refusals
use Rattle.vx_arrow_image.specs.Image.{Part}
use Rattle.vx_arrow_image.specs.Rows.{RowValue}

-- a refusal by want of meaning comes only where there is none, and no other but `NoMemory`
abbrev pub IsUnsound : Option (List RowValue) → Refusal → Type 0
IsUnsound column (refusals.NoMeaning node lack) = column ≡ None
IsUnsound column refusals.Beyond = ⊥
IsUnsound column refusals.NullPick = ⊥
IsUnsound column (refusals.Room node) = ⊥
IsUnsound column (refusals.Overflow node) = ⊥
IsUnsound column refusals.NoMemory = ⊤

-- a union lacks this: it has a validity, no children, or too few ids of children or of rows
abbrev pub LacksIds : Part → Lack → Type 0
LacksIds p lacks.Valid = p.valid ≡ [] → ⊥
LacksIds p lacks.Children = p.children ≡ 0
LacksIds p lacks.Sizes = length p.sizes < p.children
LacksIds p lacks.Values = length p.values < p.offset + p.len
LacksIds p lack = ⊥
