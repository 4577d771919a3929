-- The texts that are kept make what is kept of the column.
use Rattle.std.proofs.Common.{◌≡◌, true, refl, sym, ◌∙◌}
use Rattle.vx_bits.specs.BitBuffer.{true_count_of}
use Rattle.vx_model.specs.Valid.{is_fitting, nullability_by}
use Rattle.vx_model.specs.Text.{stored_texts}
use Rattle.vx_model.specs.VarBin.{varbin_texts}
use Rattle.vx_model.proofs.Steps.{fitting-filter}
use Rattle.vx_model.proofs.Texts.{fits-varbin, items-varbin}
use Rattle.vx_model.proofs.TextSteps.{is_filter-kept}
use Rattle.vx_column.specs.Validity.{valid_of}
use Rattle.vx_stored.proofs.varbin.VarBinArrayStoredRows.filter.Goals as goal
use Rattle.vx_mask.proofs.RankedItems.{length-items_where_true}

pub filter_varbin-requires : goal.filter_varbin-requires
filter_varbin-requires c =
    let p = c.args.self.now in let items = (stored_texts (varbin_texts p)).items in let w = valid_of c.args.valid in
    record {
      long = c.requires.long ∙ items-varbin p;
      fitting = fitting-filter items p.valid w (nullability_by p.valid) _ refl (fits-varbin p c.bytes.ensures.valid) c.args.mask.now.bits.bits c.requires.long c.requires.left;
    }

pub returns : goal.returns
returns c =
    let p = c.args.self.now in let w = valid_of c.args.valid in let made = c.in_ok-kept.ensures in
    let mask = c.args.mask.now.bits.bits in let items = (stored_texts (varbin_texts p)).items in
    let fits : is_fitting w (true_count_of mask) ≡ true =
    fitting-filter items p.valid w (nullability_by p.valid) _ refl (fits-varbin p c.bytes.ensures.valid) mask c.requires.long c.requires.left in
    let count = sym (length-items_where_true mask (varbin_texts p).texts (c.requires.long ∙ items-varbin p)) in
    rw c.into_array.ensures
    (is_filter-kept (varbin_texts p) (varbin_texts c.in_ok-kept.kept) w refl refl made.kind made.valid (fits-varbin p c.bytes.ensures.valid) mask (true_count_of mask) c.requires.long count fits made.texts c.requires.left c.requires.plain)
