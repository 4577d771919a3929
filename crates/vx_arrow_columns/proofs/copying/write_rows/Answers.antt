-- One row more.
use Rattle.std.proofs.Common.{◌≡◌, ◌∙◌, ◌+◌, ◌*◌, ◌<◌, ◌≤◌, ◌++◌, ℕ, List, Some, None, length, get_or, take, drop, ap, sym, refl, arith}
use Rattle.std.proofs.lemmas.List.{length-drop, length-take-le}
use Rattle.std.proofs.Math.Nat.{mul-le-mul_right}
use Rattle.vx_arrow_image.specs.Image.{Part, is_valid, part_of}
use Rattle.vx_arrow_columns.specs.Picks.{picks_of, place_of}
use Rattle.vx_arrow_columns.proofs.Columns.{place_some}
use Rattle.vx_arrow_columns.proofs.PickReads.{get_picks, pick_is}
use Rattle.vx_arrow_columns.proofs.Steps.{copied_put, next_place, none_copied}
use Rattle.vx_arrow_columns.proofs.copying.write_rows.Goals as goal

-- where a pick is there, its row is the one at its place
row_any : (p : Part) (ps vs : List ℕ) (add k i : ℕ) → k < length ps → i ≡ p.offset + (add + get_or ps k 0) → (n : ℕ) → place_of p (get_or (picks_of ps vs add) k None) ≡ Some n → Some i ≡ Some n
row_any p ps vs add k i h e n f =
    let at = place_some p (get_or (picks_of ps vs add) k None) n f in
    let is = pick_is ps vs add k at.0 (is_valid vs k) refl (sym (get_picks ps vs add k h) ∙ at.1.0) in
    let same : i ≡ n = omega (arith, at.1.1, is.1, e) in
    ap Some same

pub loop-k-init : goal.loop-k-init
loop-k-init g c = none_copied _ _ _ _ _

pub row_at-i-requires-clause-below : goal.row_at-i-requires-clause-below
row_at-i-requires-clause-below g c = c.requires.below c.loop-k.k (omega arith)

pub put_block-requires-clause-room : goal.put_block-requires-clause-room
put_block-requires-clause-room g c =
    omega (arith, next_place c.loop-k.k (length c.args.picks.now.places.now) g.row.W (omega arith), c.requires.room)

pub put_block-requires-clause-there : goal.put_block-requires-clause-there
put_block-requires-clause-there g c =
    let node = c.args.node.now in
    omega (arith, next_place c.row_at-i.result (node.offset + node.len) g.row.W c.row_at-i.ensures.below, c.requires.source)

pub loop-k-preserved : goal.loop-k-preserved
loop-k-preserved g c =
    let w = g.row.W in
    let node = c.args.node.now in
    let p = part_of node in
    let ps = c.args.picks.now in
    let q = picks_of ps.places.now ps.valid.now ps.add in
    let k = c.loop-k.k in
    let i = c.row_at-i.result in
    let src = c.args.src.now in
    let own = take w (drop (i * w) src) in
    let fits : i * w + w ≤ length src = omega (arith, next_place i (node.offset + node.len) w c.row_at-i.ensures.below, c.requires.source) in
    let wide : length own ≡ w = length-take-le w (drop (i * w) src) (omega (arith, length-drop (i * w) src)) in
    let before = mul-le-mul_right {m = k} {n = length ps.places.now} w (omega arith) in
    let room : k * w ≤ length c.loop-k.out = omega (arith, c.requires.room) in
    let put = c.put_block.ensures ∙ ap (λ (n : ℕ). take (k * w) c.loop-k.out ++ (own ++ drop (k * w + n) c.loop-k.out)) (sym wide) in
    copied_put w src p q k i w c.loop-k.out _ (row_any p ps.places.now ps.valid.now ps.add k i (omega arith) c.row_at-i.ensures.row)
    c.row_at-i.ensures.below refl c.requires.source room put c.loop-k.invariant
