-- What errors say.
use Rattle.std.specs.Prelude.{ℕ, List, codes}
use Rattle.vx_json.specs.declared.error.DocError.{DocError}
use Rattle.vx_json.specs.declared.error.DocError.TheVariants as cases

abbrev pub doc_error_text : DocError → List ℕ
doc_error_text cases.Malformed = codes "the value has no meaning here"
doc_error_text cases.NoMemory = codes "out of memory"
