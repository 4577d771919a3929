-- The column of texts that stand one after another.
use Rattle.std.proofs.Common.{◌≡◌, ℕ, List, length, map, true, None, sym, ap, subst, ◌∙◌}
use Rattle.std.specs.Prelude.{pos}
use Rattle.vx_types.specs.RowValue.{bytes}
use Rattle.vx_types.specs.TypeTree.{is_int_kind}
use Rattle.vx_types.specs.declared.text.TextKind.{TextKind}
use Rattle.vx_offsets.specs.Offsets.{lists_at}
use Rattle.vx_model.specs.Numbers.{integers_of}
use Rattle.vx_model.specs.Records.{RecordParts}
use Rattle.vx_model.specs.Valid.{Valid, is_fitting, non_nullable, stored_rows}
use Rattle.vx_model.specs.VarBin.{varbin_column, varbin_fault}
use Rattle.vx_offsets.specs.Cut.{is_cut}
use Rattle.vx_text.proofs.BuiltTexts.{built, built_texts}

module _ (k : TextKind) (o : RecordParts) (b text : List ℕ) (v : Valid) (numbers : List ℕ) (same : b ≡ text) (read : integers_of o ≡ map pos numbers) where
  pub text_sound : is_int_kind o.kind ≡ true → o.valid ≡ non_nullable → is_cut numbers (length text) ≡ true → is_fitting v (length (lists_at numbers text)) ≡ true → varbin_fault (record { kind = k; offsets = o; bytes = b; valid = v }) ≡ None
  text_sound int there cut fit =
      subst (λ (x : List ℕ). varbin_fault (record { kind = k; offsets = o; bytes = x; valid = v }) ≡ None) (sym same)
      (built k o text v numbers read int there cut fit)

  pub text_rows : (varbin_column (record { kind = k; offsets = o; bytes = b; valid = v })).rows ≡ stored_rows v (map bytes (lists_at numbers text))
  text_rows =
      ap (λ (ts : List (List ℕ)). stored_rows v (map bytes ts))
      (built_texts k o b v numbers read ∙ ap (lists_at numbers) same)
