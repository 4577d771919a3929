use Rattle.std.proofs.Common.{◌≡◌, ◌++◌, take}
use Rattle.std.specs.Prelude.{flat_map}
use Rattle.vx_print.specs.Reads.{read_text}
use Rattle.vx_print.proofs.reads.push_reads.Given as goal

-- the first blocks stand behind what was there
abbrev pub invariant-loop-block : goal.invariant-loop-block
invariant-loop-block l =
    l.text.items ≡ l.initial.text.items ++ flat_map read_text (take l.block-index l.blocks)
