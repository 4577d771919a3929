use Rattle.std.proofs.Common.{◌*◌, ◌^◌, ◌%◌, bit_or, ap₂, ◌∙◌}
use Rattle.vx_bits.proofs.BuiltLists.{joined_is}
use Rattle.vx_bits.proofs.bit_builder.joined.Goals as goal

pub returns : goal.returns
returns c = ap₂ (λ a b. bit_or a (b * 2 ^ (c.args.held % 64) % 2 ^ 128)) c.from.ensures c.from-2.ensures ∙ joined_is c.args.next c.args.held c.args.more c.requires.clean c.requires.open_word c.ranges.more.fits
