-- What errors say.
use Rattle.std.specs.Prelude.{ℕ, List, ◌++◌, codes, decimal}
use Rattle.vx_steps.specs.Messages.{broken_text}
use Rattle.vx_file.specs.declared.error.FileError.{FileError}
use Rattle.vx_file.specs.declared.error.FileError.TheVariants.{ReadFault, BadHeader, Damaged, Broken, NoMemory}

abbrev pub file_error_text : FileError → List ℕ
file_error_text ReadFault = codes "a block could not be read"
file_error_text BadHeader = codes "block 0 is no header"
file_error_text (Damaged block) = codes "block " ++ decimal block ++ codes " is damaged"
file_error_text (Broken step cause) = broken_text step cause
file_error_text NoMemory = codes "out of memory"
