-- What errors say.
use Rattle.std.specs.Prelude.{ℕ, List, ◌++◌, codes, decimal}
use Rattle.vx_steps.specs.Messages.{broken_text}
use Rattle.vx_table.specs.declared.error.PageError.{PageError}
use Rattle.vx_table.specs.declared.error.PageError.TheVariants.{NoColumn, EmptyPage, Broken, NoMemory}
use Rattle.vx_table.specs.declared.error.TableError.{TableError}
use Rattle.vx_table.specs.declared.error.TableError.TheVariants.{WrongCount, WrongLength}

abbrev pub table_error_text : TableError → List ℕ
table_error_text WrongCount = codes "there are not as many names as columns"
table_error_text (WrongLength column) =
    codes "column " ++ decimal column ++ codes " has another length"

abbrev pub page_error_text : PageError → List ℕ
page_error_text (NoColumn index) = codes "there is no column " ++ decimal index
page_error_text EmptyPage = codes "a page has no rows"
page_error_text (Broken step cause) = broken_text step cause
page_error_text NoMemory = codes "out of memory"
