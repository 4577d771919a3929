-- What errors say.
use Rattle.std.specs.Prelude.{ℕ, List, ◌++◌, codes, decimal}
use Rattle.vx_parts.specs.declared.arriving.ArrivalError.{ArrivalError}
use Rattle.vx_parts.specs.declared.arriving.ArrivalError.TheVariants.{Missing, NoMemory}
use Rattle.vx_parts.specs.declared.error.PutError.{PutError}
use Rattle.vx_parts.specs.declared.error.PutError.TheVariants as put

abbrev pub arrival_error_text : ArrivalError → List ℕ
arrival_error_text (Missing part) = codes "no answer came from part " ++ decimal part
arrival_error_text NoMemory = codes "out of memory"

abbrev pub put_error_text : PutError → List ℕ
put_error_text put.WrongCount = codes "there are not as many answers as parts"
put_error_text (put.WrongType part) =
    codes "the answer of part " ++ decimal part ++ codes " has another type"
put_error_text (put.WrongLength part) =
    codes "the answer of part " ++ decimal part ++ codes " has not as many rows as planned"
put_error_text put.WrongOrder = codes "the order names a row that is not there"
put_error_text put.NoMemory = codes "out of memory"
