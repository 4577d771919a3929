-- A text without a comma, and one with a comma.
use Rattle.vx_arrow_formats.proofs.CommaFields.{cut_at, whole_at}
use Rattle.vx_arrow_formats.proofs.numbers.first_field.Goals as goal

pub returns-then-end-text-clause-cut : goal.returns-then-end-text-clause-cut
returns-then-end-text-clause-cut c = whole_at c.args.text.now c.comma-end.result c.comma-end.ensures.place c.if-end-text.true

pub returns-clause-cut : goal.returns-clause-cut
returns-clause-cut c = cut_at c.args.text.now c.comma-end.result c.comma-end.ensures.place c.comma-end.ensures.within c.if-end-text.false
