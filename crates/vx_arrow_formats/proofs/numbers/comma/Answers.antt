-- A place within the text.
use Rattle.std.proofs.Common.{ap, ◌∙◌, length}
use Rattle.std.specs.Prelude.{unwrap_or}
use Rattle.vx_arrow_formats.proofs.CommaFields.{comma_within}
use Rattle.vx_arrow_formats.proofs.numbers.comma.Goals as goal

pub returns-clause-within : goal.returns-clause-within
returns-clause-within c =
    comma_within c.args.text.now c.unwrap_or.result (c.unwrap_or.ensures ∙ ap (λ o. unwrap_or o (length c.args.text.now)) c.first_comma.ensures)
