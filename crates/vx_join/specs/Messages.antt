-- What errors say.
use Rattle.std.specs.Prelude.{ℕ, List, ◌++◌, codes, decimal}
use Rattle.vx_join.specs.declared.error.JoinError.{JoinError}
use Rattle.vx_join.specs.declared.error.JoinError.TheVariants.{NoKeys, NoKey, KeyTypes, NoMemory}

abbrev pub join_error_text : JoinError → List ℕ
join_error_text NoKeys = codes "there is no pair of keys"
join_error_text (NoKey pair) = codes "pair " ++ decimal pair ++ codes " names no column"
join_error_text (KeyTypes pair) =
    codes "pair " ++ decimal pair ++ codes " has no common flat type"
join_error_text NoMemory = codes "out of memory"
