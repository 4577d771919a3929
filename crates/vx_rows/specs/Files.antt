-- What a `FileDocument` stands for.
use Rattle.std.specs.Prelude.{◌≡◌, [], map}
use Rattle.vx_steps.specs.Step.{step_value}
use Rattle.vx_file.specs.Blocks.{new_reader}
use Rattle.vx_rows.specs.FileDocument.{FileValue}
use Rattle.vx_rows.specs.declared.file_blocks.TheConstants.{ROOM}
use Rattle.vx_rows.specs.declared.file_document.FileDocument.{FileDocument}

abbrev pub file_value : FileDocument → FileValue
file_value d =
    record { blocks = d.blocks.blocks; steps = map step_value d.steps; policy = d.policy }

-- no block was read yet, and there is room for the reads of every file
abbrev pub IsUnread : FileDocument → Type 0
IsUnread d = d.blocks ≡ new_reader d.blocks.blocks [] ROOM
