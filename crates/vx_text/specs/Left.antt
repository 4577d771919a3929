-- What a call leaves of a column of texts.
use Rattle.std.specs.Prelude.{◌≡◌, ℕ, ◌+◌, List, length, slice_range}
use Rattle.vx_types.specs.TypeTree.{primitive_kind}
use Rattle.vx_types.specs.declared.text.TextKind.{TextKind}
use Rattle.vx_model.specs.Records.{records_with}
use Rattle.vx_model.specs.Valid.{Valid, non_nullable}
use Rattle.vx_model.specs.VarBin.{VarBinParts, varbin_texts}
use Rattle.vx_model.specs.VarBinView.{ViewParts, view_texts}
use Rattle.vx_offsets.specs.Cut.{type_of}
use Rattle.vx_text.specs.Building.{type_for}

-- these texts, with the kind of the column that they come of, and offsets that come of its own
pub record LeavesTexts (p : VarBinParts) (left : List (List ℕ)) (handed : Valid) (a : VarBinParts)
    : Type 0 where
  pub kind : a.kind ≡ p.kind
  pub offsets : a.offsets.kind ≡ primitive_kind (type_for (type_of p.offsets.kind) (length a.bytes))
  pub texts : (varbin_texts a).texts ≡ left
  pub valid : a.valid ≡ handed

-- the texts from a start up to an end: the offsets between, into the same bytes
pub record LeavesSlice (p : VarBinParts) (start end : ℕ) (handed : Valid) (a : VarBinParts)
    : Type 0 where
  pub kind : a.kind ≡ p.kind
  pub offsets : a.offsets
      ≡ records_with p.offsets (slice_range p.offsets.records start (end + 1)) non_nullable
  pub bytes : a.bytes ≡ p.bytes
  pub texts : (varbin_texts a).texts ≡ slice_range (varbin_texts p).texts start end
  pub valid : a.valid ≡ handed

-- views of these texts in these buffers
pub record LeavesViews (of : TextKind) (among : List (List ℕ)) (left : List (List ℕ))
    (handed : Valid) (a : ViewParts) : Type 0 where
  pub kind : a.kind ≡ of
  pub buffers : a.buffers ≡ among
  pub texts : (view_texts a).texts ≡ left
  pub valid : a.valid ≡ handed
