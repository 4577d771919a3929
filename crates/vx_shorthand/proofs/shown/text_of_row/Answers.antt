-- The text is of ASCII alone.
use Rattle.vx_shorthand.proofs.Ascii.{row_utf8}
use Rattle.vx_shorthand.proofs.shown.text_of_row.Goals as goal

pub as_text-requires : goal.as_text-requires
as_text-requires c = row_utf8 c.args.column.now.dtype _ _ c.in_ok-row_bytes.ensures
