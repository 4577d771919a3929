-- What the lists of a table read, whether or not each row has a meaning.
use Rattle.std.specs.Prelude.{List, [], ◌∷◌, take, drop, slice_index_or}
use Rattle.vx_arrow_image.specs.Rows.{RowValue}
use Rattle.vx_arrow_image.specs.Image.{Part, column_of}

-- the columns of a table, each over those of its children
unfoldable pub columns_read : List Part → List (List RowValue)
columns_read [] = []
columns_read (p ∷ ps) =
    column_of p (take p.children (columns_read ps)) ∷ drop p.children (columns_read ps)

-- the rows of the first one
abbrev pub rows_read : List Part → List RowValue
rows_read ps = slice_index_or (columns_read ps) 0 []
