-- What a loop over blocks keeps.
use Rattle.serde_json.specs.View.{items_view}
use Rattle.vx_json.specs.Items.{each}
use Rattle.vx_json.proofs.Reading.{IsReading}
use Rattle.vx_rows.specs.FileDocument.{block_of}
use Rattle.vx_rows.proofs.file_document.blocks_in.Given as goal

-- the blocks so far are read
abbrev pub invariant-loop-item : goal.invariant-loop-item
invariant-loop-item l =
    IsReading block_of l.items.items l.item-index l.blocks (each block_of (items_view l.items.items))
