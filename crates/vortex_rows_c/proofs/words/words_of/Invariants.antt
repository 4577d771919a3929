use Rattle.std.proofs.Common.{◌≡◌, ◌++◌, drop, map, string_bytes}
use Rattle.vortex_rows_c.specs.Running.{words_behind, words_in}
use Rattle.vortex_rows_c.proofs.words.words_of.Given as goal

abbrev pub invariant-loop-byte : goal.invariant-loop-byte
invariant-loop-byte l =
    words_in l.bytes ≡ map string_bytes l.words.items ++ words_behind l.word.items (drop l.byte-index l.bytes)
