-- The table has what each byte is.
use Rattle.std.proofs.Common.{◌<◌, false, ap, ◌∙◌, arith}
use Rattle.vx_quote.specs.Quoted.{is_plain}
use Rattle.vx_quote.proofs.Quotes.{listed_byte}
use Rattle.vx_quote.proofs.quoted.is_listed.Goals as goal

pub returns : goal.returns
returns c =
    let small : c.from.result < 256 = omega (arith, c.from.ensures, c.ranges.byte.fits) in
    listed_byte c.from.result false small ∙ ap is_plain c.from.ensures
