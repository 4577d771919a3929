use Rattle.vx_words.proofs.BitWords.{length-bits_at}
use Rattle.vx_words.proofs.bits.Bits.new.Goals as goal

pub returns-clause-len : goal.returns-clause-len
returns-clause-len c = length-bits_at c.args.words.now c.args.offset c.args.len c.requires
