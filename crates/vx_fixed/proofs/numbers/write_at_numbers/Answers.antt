use Rattle.std.proofs.Common.{◌≡◌, ◌+◌, ◌*◌, ◌≤◌, length, map, ℕ, List, [], ◌∷◌, ◌++◌, take, sym, ap, ◌∙◌, subst, arith, refl, get_or}
use Rattle.std.proofs.lemmas.List.{length-map, length-take-le}
use Rattle.vx_types.specs.PType.{number}
use Rattle.vx_positions.specs.Positions.{position_of}
use Rattle.vx_positions.proofs.NumberLists.{place_more}
use Rattle.vx_fixed.specs.Rows.{ArePut}
use Rattle.vx_fixed.proofs.Rows.{none_put, one_more, row_put, rows_in, times_mono}
use Rattle.vx_fixed.proofs.numbers.write_at_numbers.Goals as goal

pub loop-k-init : goal.loop-k-init
loop-k-init g c = none_put g.row.W c.args.src.now c.args.from c.args.out.now

pub overflow_add-from : goal.overflow_add-from
overflow_add-from g c = omega (arith, rows_in g.row.W (c.args.from + c.args.rows) _ c.requires.wide c.requires.there, c.place_of-place.ensures.below)

pub overflow_mul-from : goal.overflow_mul-from
overflow_mul-from g c = omega (arith, times_mono (c.args.from + c.place_of-place.result) (c.args.from + c.args.rows) g.row.W (omega (arith, c.place_of-place.ensures.below)), c.requires.there)

pub put_block-requires-clause-there : goal.put_block-requires-clause-there
put_block-requires-clause-there g c =
    omega (arith, one_more (c.args.from + c.place_of-place.result) g.row.W, times_mono (c.args.from + c.place_of-place.result + 1) (c.args.from + c.args.rows) g.row.W (omega (arith, c.place_of-place.ensures.below)), c.requires.there)

pub loop-k-preserved : goal.loop-k-preserved
loop-k-preserved g c =
    let w = g.row.W in
    let k = c.loop-k.k in
    let src = c.args.src.now in
    let records = c.args.records.now in
    let place = c.place_of-place.result in
    let f : List ℕ → ℕ = λ r. position_of (number c.args.ptype r) in
    let places = map f (take k records) in
    let there : (c.args.from + place) * w + w ≤ length src =
    omega (arith, one_more (c.args.from + place) w, times_mono (c.args.from + place + 1) (c.args.from + c.args.rows) w (omega (arith, c.place_of-place.ensures.below)), c.requires.there) in
    let many : k ≡ length places = omega (arith, length-map (take k records) f, length-take-le k records (omega arith)) in
    let same : place ≡ f (get_or records k c.index-records-k.result) = c.place_of-place.ensures.place ∙ ap f c.index-records-k.is in
    subst (λ (l : List ℕ). ArePut w src c.args.from l c.args.out.now c.put_block.new.bytes) (place_more c.args.ptype records k c.index-records-k.result places (places ++ place ∷ []) place (omega arith) refl refl same)
    (subst (λ (out : List ℕ). ArePut w src c.args.from (places ++ place ∷ []) c.args.out.now out) (sym c.put_block.ensures)
    (row_put w src c.args.from places c.args.out.now c.loop-k.out k place many there c.loop-k.invariant))
