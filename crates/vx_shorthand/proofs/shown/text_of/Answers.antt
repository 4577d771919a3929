-- The text is of ASCII alone.
use Rattle.std.proofs.Common.{List, ℕ, sym, subst}
use Rattle.std.specs.Str.{IsUtf8}
use Rattle.vx_shorthand.proofs.Ascii.{column_utf8}
use Rattle.vx_shorthand.proofs.shown.text_of.Goals as goal

pub as_text-requires : goal.as_text-requires
as_text-requires c = subst (λ (l : List ℕ). IsUtf8 l) (sym c.in_ok-text_of.ensures) (column_utf8 _ _)
