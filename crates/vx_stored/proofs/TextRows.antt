-- What `vx_text` requires of a step, by what the step requires of the rows.
use Rattle.std.proofs.Common.{◌≡◌, ℕ, ◌-◌, ◌≤◌, true, None, length, slice_range, refl, sym, ap, ◌∙◌, arith}
use Rattle.vx_types.specs.declared.nullability.Nullability.{Nullability}
use Rattle.vx_model.specs.Valid.{Valid, is_fitting, present_bits, IsLeft}
use Rattle.vx_model.specs.Text.{stored_texts}
use Rattle.vx_model.specs.VarBin.{VarBinParts, varbin_fault, varbin_texts}
use Rattle.vx_model.specs.VarBinView.{ViewParts, view_texts, views_fault}
use Rattle.vx_model.proofs.Items.{length-slice_range}
use Rattle.vx_model.proofs.Steps.{fitting-slice, fitting-take}
use Rattle.vx_model.proofs.Texts.{fits-varbin, fits-views, items-texts, items-varbin}

pub picked-varbin : (p : VarBinParts) (k : ℕ) → k ≡ length (stored_texts (varbin_texts p)).items → k ≤ length (varbin_texts p).texts
picked-varbin p k h = omega (arith, h, items-varbin p)

pub picked-views : (p : ViewParts) (k : ℕ) → k ≡ length (stored_texts (view_texts p)).items → k ≤ length (view_texts p).texts
picked-views p k h = omega (arith, h, items-texts (view_texts p))

pub ruleset picked_texts = (fitting-take, picked-varbin, picked-views)

pub cut-varbin : (p : VarBinParts) (k : ℕ) → k ≤ length (stored_texts (varbin_texts p)).items → k ≤ length (varbin_texts p).texts
cut-varbin p k h = omega (arith, h, items-varbin p)

pub cut-views : (p : ViewParts) (k : ℕ) → k ≤ length (stored_texts (view_texts p)).items → k ≤ length (view_texts p).texts
cut-views p k h = omega (arith, h, items-texts (view_texts p))

pub cut_fits-varbin : (p : VarBinParts) (w : Valid) (n : Nullability) (s e : ℕ) → varbin_fault p ≡ None → s ≤ e → e ≤ length (stored_texts (varbin_texts p)).items → IsLeft p.valid n (slice_range (present_bits p.valid (length (stored_texts (varbin_texts p)).items)) s e) w → is_fitting w (e - s) ≡ true
cut_fits-varbin p w n s e sound h l left =
    let items = (stored_texts (varbin_texts p)).items in
    ap (is_fitting w) (sym (length-slice_range items s e h l))
    ∙ fitting-slice items p.valid w n _ refl (fits-varbin p sound) s e h l left

pub cut_fits-views : (p : ViewParts) (w : Valid) (n : Nullability) (s e : ℕ) → views_fault p ≡ None → s ≤ e → e ≤ length (stored_texts (view_texts p)).items → IsLeft p.valid n (slice_range (present_bits p.valid (length (stored_texts (view_texts p)).items)) s e) w → is_fitting w (e - s) ≡ true
cut_fits-views p w n s e sound h l left =
    let items = (stored_texts (view_texts p)).items in
    ap (is_fitting w) (sym (length-slice_range items s e h l))
    ∙ fitting-slice items p.valid w n _ refl (fits-views p sound) s e h l left

pub ruleset cut_texts = (cut-varbin, cut-views, cut_fits-varbin, cut_fits-views)
