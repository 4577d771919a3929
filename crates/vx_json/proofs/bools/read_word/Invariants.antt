-- What a loop over the items of a word keeps.
use Rattle.std.proofs.Common.{◌≡◌, ◌-◌, ◌^◌, ◌<◌, Some, length, drop}
use Rattle.serde_json.specs.View.{items_view}
use Rattle.vx_bits.specs.Words.{word_bits}
use Rattle.vx_json.specs.Items.{each}
use Rattle.vx_json.proofs.bools.read_word.Given as goal

-- the items that were passed mean the word's bits
abbrev pub invariant-loop-passed : goal.invariant-loop-passed
invariant-loop-passed g l = record {
  reading : each (g.R.ReadBit.bit l.reader) (items_view (drop (length l.items - l.passed) l.items)) ≡ Some (word_bits l.word l.passed);
  below : l.word < 2 ^ l.passed;
}
