-- What refusals say.
use Rattle.std.specs.Prelude.{ℕ, List, ◌++◌, codes, decimal}
use Rattle.vx_arrow_image.specs.declared.refusal.Lack.{Lack}
use Rattle.vx_arrow_image.specs.declared.refusal.Lack.TheVariants as lacks
use Rattle.vx_arrow_image.specs.declared.refusal.Refusal.{Refusal}
use Rattle.vx_arrow_image.specs.declared.refusal.Refusal.TheVariants as refusals

abbrev pub lack_text : Lack → List ℕ
lack_text lacks.Format = codes "a number that names a format"
lack_text lacks.Tree = codes "the place of a tree"
lack_text lacks.Rows = codes "fewer than 2^60 rows"
lack_text lacks.Valid = codes "a bit of validity for each row"
lack_text lacks.Children = codes "as many children as its format has"
lack_text lacks.Values = codes "values for all rows"
lack_text lacks.Offsets = codes "an offset for each row"
lack_text lacks.Sizes = codes "a size for each row"
lack_text lacks.Id = codes "the id of a child in each row"
lack_text lacks.Items = codes "items where its offsets say"
lack_text lacks.Length = codes "as many rows as its parent asks for"

-- a node's number is counted from 0
abbrev pub refusal_text : Refusal → List ℕ
refusal_text (refusals.NoMeaning node lack) =
    codes "node " ++ decimal node ++ codes " lacks " ++ lack_text lack
refusal_text refusals.Beyond = codes "a pick is past the rows"
refusal_text refusals.NullPick = codes "a pick of a union is null"
refusal_text (refusals.Room node) =
    codes "the room of node " ++ decimal node ++ codes " is too small"
refusal_text (refusals.Overflow node) =
    codes "the rows of node " ++ decimal node ++ codes " are too many"
refusal_text refusals.NoMemory = codes "out of memory"
