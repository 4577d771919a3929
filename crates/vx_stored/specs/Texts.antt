-- Copies of one text, as they are stored.
use Rattle.std.specs.Prelude.{◌≡◌}
use Rattle.vx_types.specs.TypeTree.{primitive_kind}
use Rattle.vx_types.specs.declared.ptype.PType.TheVariants.{U64}
use Rattle.vx_model.specs.Column.{Column}
use Rattle.vx_model.specs.VarBin.{varbin_column}
use Rattle.vx_model.specs.VarBinView.{views_column}
use Rattle.vx_stored.specs.declared.texts.TextCopies.{TextCopies}
use Rattle.vx_stored.specs.declared.texts.TextCopies.TheVariants.{Views, Texts}

-- the column of copies
abbrev pub copies_column : TextCopies → Column
copies_column (Views p) = views_column p
copies_column (Texts p) = varbin_column p

-- offsets, where there are some, are of type `U64`
abbrev pub HasWideOffsets : TextCopies → Type 0
HasWideOffsets (Views p) = Unit {0}
HasWideOffsets (Texts p) = p.offsets.kind ≡ primitive_kind U64
