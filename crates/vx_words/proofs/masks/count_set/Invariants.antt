use Rattle.std.proofs.Common.{◌≡◌, take}
use Rattle.vx_words.specs.Masks.{count_of}
use Rattle.vx_words.proofs.masks.count_set.Given as goal

abbrev pub invariant-loop-word : goal.invariant-loop-word
invariant-loop-word l = l.count ≡ count_of (take l.word-index l.words)
