-- The key columns are as long as their tables, and alike; what is found lies below the lengths.
use Rattle.std.proofs.Common.{◌≡◌, ◌∙◌, ◌<◌, ℕ, List, length, ap, sym, subst}
use Rattle.std.specs.List.{All}
use Rattle.vx_types.specs.TypeTree.{TypeTree}
use Rattle.vx_table.specs.Table.{AreLong}
use Rattle.vx_table.specs.Taken.{items_by_number}
use Rattle.vx_join.specs.Cells.{rows_of}
use Rattle.vx_join.specs.Keys.{left_keys, right_keys, rows_from, rows_match}
use Rattle.vx_join.specs.Numbers.{AreAlike, types_of}
use Rattle.vx_join.proofs.Tied.{are_alike, left_within, length-rows_from, lefts_below, long_keys, right_within, rights_below}
use Rattle.vx_join.proofs.joining.matched.Goals as goal

pub key_columns-requires : goal.key_columns-requires
key_columns-requires c =
    let t = c.args.left.now in
    let P : ℕ → Type 0 = λ n. All (λ i. i < n) c.deref.result.now in
    subst P (ap length (sym c.columns.ensures.value))
    (subst (All (λ i. i < length t.columns)) (sym (c.deref.ensures.value ∙ c.in_ok-left_keys.ensures)) (left_within t c.args.right.now c.args.keys.now c.requires.there))

pub key_columns-requires-2 : goal.key_columns-requires-2
key_columns-requires-2 c =
    let t = c.args.right.now in
    let P : ℕ → Type 0 = λ n. All (λ i. i < n) c.deref-2.result.now in
    subst P (ap length (sym c.columns-2.ensures.value))
    (subst (All (λ i. i < length t.columns)) (sym (c.deref-2.ensures.value ∙ c.in_ok-right_keys.ensures)) (right_within c.args.left.now t c.args.keys.now c.requires.there))

pub join_columns-requires-clause-left : goal.join_columns-requires-clause-left
join_columns-requires-clause-left c =
    let t = c.args.left.now in
    let rows = ap rows_of c.deref-3.ensures.value ∙ c.in_ok-left_columns.ensures.rows ∙ ap (λ cs. rows_of (items_by_number c.deref.result.now cs)) c.columns.ensures.value in
    let P : ℕ → Type 0 = λ n. AreLong n c.deref-3.result.now in
    subst P (sym c.len.ensures) (long_keys t c.deref.result.now c.deref-3.result.now c.columns.ensures.long rows)

pub join_columns-requires-clause-right : goal.join_columns-requires-clause-right
join_columns-requires-clause-right c =
    let t = c.args.right.now in
    let rows = ap rows_of c.deref-4.ensures.value ∙ c.in_ok-right_columns.ensures.rows ∙ ap (λ cs. rows_of (items_by_number c.deref-2.result.now cs)) c.columns-2.ensures.value in
    let P : ℕ → Type 0 = λ n. AreLong n c.deref-4.result.now in
    subst P (sym c.len-2.ensures) (long_keys t c.deref-2.result.now c.deref-4.result.now c.columns-2.ensures.long rows)

pub join_columns-requires-clause-alike : goal.join_columns-requires-clause-alike
join_columns-requires-clause-alike c =
    let left = c.args.left.now in let right = c.args.right.now in let keys = c.args.keys.now in
    let l : types_of c.deref-3.result.now ≡ types_of (items_by_number (left_keys keys) left.columns) =
    ap types_of c.deref-3.ensures.value ∙ c.in_ok-left_columns.ensures.types ∙ (λ i. types_of (items_by_number ((c.deref.ensures.value ∙ c.in_ok-left_keys.ensures) i) (c.columns.ensures.value i))) in
    let r : types_of c.deref-4.result.now ≡ types_of (items_by_number (right_keys keys) right.columns) =
    ap types_of c.deref-4.ensures.value ∙ c.in_ok-right_columns.ensures.types ∙ (λ i. types_of (items_by_number ((c.deref-2.ensures.value ∙ c.in_ok-right_keys.ensures) i) (c.columns-2.ensures.value i))) in
    let P : List TypeTree → Type 0 = λ t. AreAlike t (types_of c.deref-4.result.now) in
    let Q : List TypeTree → Type 0 = λ u. AreAlike (types_of (items_by_number (left_keys keys) left.columns)) u in
    subst P (sym l) (subst Q (sym r) (are_alike left right keys c.requires.types))

pub of-requires-clause-left : goal.of-requires-clause-left
of-requires-clause-left c =
    let xs = rows_from (rows_of c.deref-3.result.now) 0 c.len.result in let ys = rows_from (rows_of c.deref-4.result.now) 0 c.len-2.result in
    subst (All (λ p. p < c.len-3.result)) (sym c.in_ok-found.ensures.left)
    (lefts_below rows_match c.len-3.result xs ys (length-rows_from (rows_of c.deref-3.result.now) 0 c.len.result ∙ c.len.ensures ∙ sym c.len-3.ensures))

pub of-requires-clause-right : goal.of-requires-clause-right
of-requires-clause-right c =
    let xs = rows_from (rows_of c.deref-3.result.now) 0 c.len.result in let ys = rows_from (rows_of c.deref-4.result.now) 0 c.len-2.result in
    subst (All (λ p. p < c.len-4.result)) (sym c.in_ok-found.ensures.right)
    (rights_below rows_match c.len-4.result xs ys (length-rows_from (rows_of c.deref-4.result.now) 0 c.len-2.result ∙ c.len-2.ensures ∙ sym c.len-4.ensures))
