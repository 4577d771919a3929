use Rattle.std.proofs.Common.{◌≡◌, IfOk, length, map, ◌∙◌, ap, sym, subst}
use Rattle.vx_join.specs.Cells.{key_parts}
use Rattle.std.proofs.lemmas.List.{length-map}
use Rattle.vx_join.specs.Pairs.{lefts, rights}
use Rattle.vx_join.specs.Cells.{rows_of, value_of}
use Rattle.vx_join.proofs.CellRows.{cells_len}
use Rattle.vx_join.proofs.KeyPrefixes.{pairs_of_prefixed}
use Rattle.vx_join.proofs.prefixes.join_cells.Goals as goal

pub row_keys-requires : goal.row_keys-requires
row_keys-requires c =
    cells_len (rows_of c.args.left.now) (length c.args.left.now) c.args.left_len c.deref.result.now (sym (length-map c.args.left.now _))
    (ap (map value_of) c.deref.ensures.value ∙ c.in_ok-left_cells.ensures)

pub row_keys-requires-2 : goal.row_keys-requires-2
row_keys-requires-2 c =
    cells_len (rows_of c.args.right.now) (length c.args.right.now) c.args.right_len c.deref-2.result.now (sym (length-map c.args.right.now _))
    (ap (map value_of) c.deref-2.ensures.value ∙ c.in_ok-right_cells.ensures)

pub returns-clause-left : goal.returns-clause-left
returns-clause-left c =
    subst (λ ps. IfOk c.join_keys.result (λ found. found.left.items ≡ lefts ps))
    (pairs_of_prefixed (rows_of c.args.left.now) (rows_of c.args.right.now) (length c.args.left.now) (length c.args.right.now) c.args.left_len c.args.right_len
    c.deref.result.now c.deref-2.result.now c.deref-3.result.now c.deref-4.result.now
    (record { long = sym (length-map c.args.left.now _); values = ap (map value_of) c.deref.ensures.value ∙ c.in_ok-left_cells.ensures; parts = ap (map key_parts) c.deref-3.ensures.value ∙ c.in_ok-left_keys.ensures })
    (record { long = sym (length-map c.args.right.now _); values = ap (map value_of) c.deref-2.ensures.value ∙ c.in_ok-right_cells.ensures; parts = ap (map key_parts) c.deref-4.ensures.value ∙ c.in_ok-right_keys.ensures })) c.join_keys.ensures.left

pub returns-clause-right : goal.returns-clause-right
returns-clause-right c =
    subst (λ ps. IfOk c.join_keys.result (λ found. found.right.items ≡ rights ps))
    (pairs_of_prefixed (rows_of c.args.left.now) (rows_of c.args.right.now) (length c.args.left.now) (length c.args.right.now) c.args.left_len c.args.right_len
    c.deref.result.now c.deref-2.result.now c.deref-3.result.now c.deref-4.result.now
    (record { long = sym (length-map c.args.left.now _); values = ap (map value_of) c.deref.ensures.value ∙ c.in_ok-left_cells.ensures; parts = ap (map key_parts) c.deref-3.ensures.value ∙ c.in_ok-left_keys.ensures })
    (record { long = sym (length-map c.args.right.now _); values = ap (map value_of) c.deref-2.ensures.value ∙ c.in_ok-right_cells.ensures; parts = ap (map key_parts) c.deref-4.ensures.value ∙ c.in_ok-right_keys.ensures })) c.join_keys.ensures.right
