-- Columns as the lists of a table read.
use Rattle.std.proofs.Common.{zero, suc, ◌≡◌, ℕ, ◌+◌, ◌<◌, true, List, [], ◌∷◌, length, get_or, take, drop, Some, ap, sym, ◌∙◌, refl, arith}
use Rattle.vx_arrow_image.specs.declared.image.Node as image
use Rattle.vx_arrow_image.specs.Rows.{RowValue}
use Rattle.vx_arrow_image.specs.Image.{Part, is_sound, column_of, columns_in, column_in, part_of, parts_of}
use Rattle.vx_arrow_image.proofs.SoundNodes.{length_column}
use Rattle.vx_arrow_columns.specs.Answer.{AreKeptSound}
use Rattle.vx_arrow_columns.specs.Picks.{Picking}
use Rattle.vx_arrow_columns.specs.Planned.{child_lens, first_len}
use Rattle.vx_arrow_columns.specs.Read.{columns_read, rows_read}
use Rattle.vx_arrow_columns.proofs.Trees.{child_columns, drop_first, drop_next, only_some, opened}

pub read_more : (p : Part) (ps : List Part) → columns_read (p ∷ ps) ≡ column_of p (take p.children (columns_read ps)) ∷ drop p.children (columns_read ps)
unfolding columns_read
read_more p ps = refl

pub read_none : columns_read [] ≡ []
unfolding columns_read
read_none = refl

pub first_rows : (p : Part) (ps : List Part) → rows_read (p ∷ ps) ≡ column_of p (take p.children (columns_read ps))
first_rows p ps = ap (λ (l : List (List RowValue)). get_or l 0 []) (read_more p ps)

-- how many rows the first column has
pub rows_len : (nodes : List image.Node) → length (rows_read (parts_of nodes)) ≡ first_len nodes
rows_len [] = ap (λ (l : List (List RowValue)). length (get_or l 0 [])) read_none
rows_len (n ∷ nodes) = ap length (first_rows (part_of n) (parts_of nodes)) ∙ length_column (part_of n) (take n.children (columns_read (parts_of nodes)))

-- ---- tables that mean columns

-- these are the columns that are read
pub columns_meant : (ps : List Part) (cs : List (List RowValue)) → columns_in ps ≡ Some cs → columns_read ps ≡ cs
columns_meant [] cs e = read_none ∙ (let f : Some [] ≡ Some cs = e in cc)
columns_meant (p ∷ ps) cs e =
    let op = opened p ps cs e in
    read_more p ps ∙ ap (λ (l : List (List RowValue)). column_of p (take p.children l) ∷ drop p.children l) (columns_meant ps op.columns op.rest) ∙ sym op.joined.whole

pub rows_meant : (ps : List Part) (rows : List RowValue) → column_in ps ≡ Some rows → rows_read ps ≡ rows
rows_meant ps rows e = ap (λ (l : List (List RowValue)). get_or l 0 []) (columns_meant ps (rows ∷ []) (only_some (columns_in ps) rows e))

-- how many rows it has
pub rows_first : (nodes : List image.Node) (rows : List RowValue) → column_in (parts_of nodes) ≡ Some rows → length rows ≡ first_len nodes
rows_first nodes rows e = ap length (sym (rows_meant (parts_of nodes) rows e)) ∙ rows_len nodes

-- each node is sound
each_sound : (ps : List Part) (cs : List (List RowValue)) (k : ℕ) (d : Part) → columns_in ps ≡ Some cs → k < length ps → is_sound (get_or ps k d) (child_lens (get_or ps k d) (drop (k + 1) ps)) ≡ true
each_sound [] cs k d e h = absurd (omega arith)
each_sound (p ∷ ps) cs zero d e h =
    let op = opened p ps cs e in
    ap (λ (l : List Part). is_sound p (child_lens p l)) (drop_first p ps) ∙ ap (is_sound p) (child_columns p ps op.columns op.rest) ∙ op.joined.sound
each_sound (p ∷ ps) cs (suc k) d e h =
    let op = opened p ps cs e in
    ap (λ (l : List Part). is_sound (get_or ps k d) (child_lens (get_or ps k d) l)) (drop_next p ps k) ∙ each_sound ps op.columns k d op.rest (omega arith)

pub kept_sound : (ps : List Part) (q : Picking) (rows : List RowValue) → column_in ps ≡ Some rows → AreKeptSound ps q
kept_sound ps q rows e = record { sound = λ k d r h own. each_sound ps (rows ∷ []) k d (only_some (columns_in ps) rows e) h }
