-- The key at a number, by whether the pick is there.
use Rattle.std.proofs.Common.{◌≡◌, ◌∙◌, true, false, Some, None, slice_index, ap, sym, cond, Bool}
use Rattle.vx_arrow_image.specs.Image.{is_valid}
use Rattle.vx_chunk_plan.specs.Keys.{key_of}
use Rattle.vx_chunk_plan.proofs.KeyLists.{key_at}
use Rattle.vx_chunk_plan.proofs.picks.key.Goals as goal

pub returns-then-is_there : goal.returns-then-is_there
returns-then-is_there c =
    let a = c.args in
    let there : is_valid a.valid.now a.j ≡ true = sym c.is_there.ensures ∙ c.if-is_there.true in
    sym (key_at a.chunks a.chunk_len a.places.now a.valid.now a.j c.requires.index
    ∙ ap (λ (b : Bool). key_of a.chunks a.chunk_len (cond b (Some (slice_index a.places.now a.j)) None)) there)

pub returns-else-is_there : goal.returns-else-is_there
returns-else-is_there c =
    let a = c.args in
    let there : is_valid a.valid.now a.j ≡ false = sym c.is_there.ensures ∙ c.if-is_there.false in
    sym (key_at a.chunks a.chunk_len a.places.now a.valid.now a.j c.requires.index
    ∙ ap (λ (b : Bool). key_of a.chunks a.chunk_len (cond b (Some (slice_index a.places.now a.j)) None)) there)
