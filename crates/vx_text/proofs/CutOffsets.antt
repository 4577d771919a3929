-- Offsets from one to another cut the lists between them.
use Rattle.std.proofs.Common.{◌≡◌, ℕ, ◌+◌, ◌-◌, ◌<◌, ◌≤◌, true, List, [], ◌∷◌, map, length, slice_range, Option, None, refl, sym, ap, subst, ◌∙◌, arith}
use Rattle.std.specs.Prelude.{ℤ, IfSome}
use Rattle.std.specs.List.{All}
use Rattle.std.proofs.lemmas.List.{length-map}
use Rattle.vx_types.specs.TypeTree.{is_int_kind}
use Rattle.vx_types.specs.declared.error.ColumnError.TheVariants.{WrongType, BadValidity, BadOffsets}
use Rattle.vx_types.specs.declared.text.TextKind.{TextKind}
use Rattle.vx_take.specs.Picks.{AreBelow}
use Rattle.vx_positions.specs.Positions.{position_of}
use Rattle.vx_offsets.specs.Offsets.{are_offsets, offset_positions, spans, items_in, lists_at}
use Rattle.vx_model.specs.Valid.{Valid, is_fitting, non_nullable}
use Rattle.vx_model.specs.Numbers.{integer_by, integers_of}
use Rattle.vx_model.specs.Records.{RecordParts, records_with}
use Rattle.vx_model.specs.VarBin.{VarBinParts, are_integers, is_never_null, row_count, varbin_fault, varbin_texts}
use Rattle.vx_model.proofs.Items.{map-slice_range, length-slice_range}
use Rattle.vx_model.proofs.Spans.{spans-slice}
use Rattle.vx_offsets.proofs.Cuts.{are_offsets-slice}
use Rattle.vx_text.proofs.PickedRows.{next_rows}
use Rattle.vx_model.proofs.Texts.{integers-varbin, offsets-varbin, texts-varbin}
use Rattle.std.proofs.lemmas.Bool.{and_from}
use Rattle.std.specs.Cmp.{first_so}
use Rattle.vx_lemmas.proofs.Options.{no_fault}

-- ---- the lists between them

pub lists_at-slice : {X : Type 0} (offsets : List ℕ) (items : List X) (s e : ℕ) → s ≤ e → lists_at (slice_range offsets s (e + 1)) items ≡ slice_range (lists_at offsets items) s e
lists_at-slice offsets items s e h =
    ap (map (items_in items)) (spans-slice offsets s e h) ∙ map-slice_range (items_in items) (spans offsets) s e

-- ---- the column that they leave

pub sound-varbin : (p : VarBinParts) → are_integers p.offsets ≡ true → is_fitting p.valid (row_count p.offsets) ≡ true → are_offsets (integers_of p.offsets) (length p.bytes) ≡ true → varbin_fault p ≡ None
sound-varbin p h k l = no_fault WrongType BadValidity BadOffsets (are_integers p.offsets) (is_fitting p.valid (row_count p.offsets)) (are_offsets (integers_of p.offsets) (length p.bytes)) h k l

module _ (p : VarBinParts) (s e : ℕ) where
  abbrev pub offsets_cut : RecordParts
  offsets_cut = records_with p.offsets (slice_range p.offsets.records s (e + 1)) non_nullable

  integers-cut : integers_of offsets_cut ≡ slice_range (integers_of p.offsets) s (e + 1)
  integers-cut = map-slice_range (integer_by p.offsets.kind) p.offsets.records s (e + 1)

  pub texts-cut : s ≤ e → lists_at (offset_positions (integers_of offsets_cut)) p.bytes ≡ slice_range (varbin_texts p).texts s e
  texts-cut h =
      ap (λ zs. lists_at (offset_positions zs) p.bytes) integers-cut
      ∙ ap (λ l. lists_at l p.bytes) (map-slice_range position_of (integers_of p.offsets) s (e + 1))
      ∙ lists_at-slice (offset_positions (integers_of p.offsets)) p.bytes s e h

  some_offset : varbin_fault p ≡ None → 0 < length p.offsets.records
  some_offset h = some (integers_of p.offsets) (offsets-varbin p h) (length-map p.offsets.records (integer_by p.offsets.kind))
    where
      some : {m : ℕ} (zs : List ℤ) → are_offsets zs (length p.bytes) ≡ true → length zs ≡ m → 0 < m
      some [] k l = cc
      some (z ∷ zs) k l = omega (arith, l)

  pub end-within : varbin_fault p ≡ None → e ≤ length (varbin_texts p).texts → e + 1 ≤ length p.offsets.records
  end-within h l = omega (arith, some_offset h, texts-varbin p, l)

  sound-cut : (v : Valid) → varbin_fault p ≡ None → s ≤ e → e ≤ length (varbin_texts p).texts → is_fitting v (e - s) ≡ true → varbin_fault (record p { offsets = offsets_cut; valid = v }) ≡ None
  sound-cut v h o l f =
      let within = end-within h l in
      let long = length-slice_range p.offsets.records s (e + 1) (omega (arith, o)) within in
      let rows : row_count offsets_cut ≡ e - s = omega (arith, o, long) in
      let many : e + 1 ≤ length (integers_of p.offsets) = omega (arith, within, length-map p.offsets.records (integer_by p.offsets.kind)) in
      sound-varbin (record p { offsets = offsets_cut; valid = v })
      (and_from (is_int_kind p.offsets.kind) true (first_so (is_int_kind p.offsets.kind) (is_never_null p.offsets.valid) (integers-varbin p h)) refl)
      (ap (is_fitting v) rows ∙ f)
      (ap (λ zs. are_offsets zs (length p.bytes)) integers-cut ∙ are_offsets-slice (length p.bytes) (integers_of p.offsets) s (e + 1) (omega (arith, o)) many (offsets-varbin p h))

  -- parts that are equal to these make a column too
  pub sound-as_cut : (v : Valid) (k : TextKind) (o : RecordParts) (b : List ℕ) → o ≡ offsets_cut → b ≡ p.bytes → varbin_fault p ≡ None → s ≤ e → e ≤ length (varbin_texts p).texts → is_fitting v (e - s) ≡ true → varbin_fault (record { kind = k; offsets = o; bytes = b; valid = v }) ≡ None
  sound-as_cut v k o b is same h q l f =
      subst (λ (x : RecordParts). varbin_fault (record { kind = k; offsets = x; bytes = b; valid = v }) ≡ None) (sym is)
      (subst (λ (y : List ℕ). varbin_fault (record { kind = k; offsets = offsets_cut; bytes = y; valid = v }) ≡ None) (sym same) (sound-cut v h q l f))

-- each pick below the number of texts has an offset behind it
pub picked_rows : (p : VarBinParts) (picks : List (Option ℕ)) (bound : ℕ) → varbin_fault p ≡ None → bound ≤ length (varbin_texts p).texts → AreBelow picks bound → All (λ pick. IfSome pick (λ row. row + 1 < length (integers_of p.offsets))) picks
picked_rows p picks bound sound within below =
    next_rows picks bound (length (integers_of p.offsets)) below
    (omega (arith, end-within p 0 bound sound within, length-map p.offsets.records (integer_by p.offsets.kind)))
