use Rattle.std.proofs.Common.{◌≡◌, ◌+◌, ◌-◌, ◌*◌, ◌^◌, ◌≤◌, ◌++◌, length, take, drop, map, ap, ◌∙◌, arith}
use Rattle.std.proofs.lemmas.List.{length-take-le, length-drop, map-append}
use Rattle.vx_mask.specs.Positions.{positions}
use Rattle.vx_chunked.specs.Positions.{positions_from}
use Rattle.vx_chunked.proofs.Marks.{beyond_from, passed_before, positions_cut, same_places}
use Rattle.vx_chunked.proofs.bits.part_in.Goals as goal

pub returns-clause-taken : goal.returns-clause-taken
returns-clause-taken c =
    let bits = c.args.bits.now.bits in
    let offset = c.args.offset in
    let base = 1024 * c.args.chunk in
    let first = c.args.first in
    let start = c.min-start.result in
    let from = c.min-from.result in
    let n = c.min.result in
    let part = take n (drop start bits) in
    let fits : start + n ≤ length bits = omega (arith, c.min.ensures, c.min-start.ensures) in
    let long : length part ≡ n = length-take-le n (drop start bits) (omega (arith, length-drop start bits)) in
    let at : first + (start - first) ≡ start = omega (arith, c.min-start.ensures, c.max.ensures, c.requires.within) in
    let passed = passed_before offset base (2 ^ 64) first (start - first) bits (omega (arith, fits)) (λ some. omega (arith, c.min-start.ensures, c.max.ensures)) c.requires.ahead in
    let width : n ≡ start + n - start = omega arith in
    ap (map (λ i. offset + i)) (passed ∙ ap (λ k. positions_from k bits) at ∙ positions_cut start n bits fits)
    ∙ map-append (λ i. offset + i) (positions start part) (positions_from (start + n) bits)
    ∙ ap (λ l. l ++ map (λ i. offset + i) (positions_from (start + n) bits))
    (same_places offset start base from part (λ some. omega (arith, long, c.min.ensures, c.min-from.ensures, c.min-start.ensures, c.max.ensures))
    ∙ ap (λ m. map (λ p. base + p) (positions from (take m (drop start bits)))) width)

pub returns-clause-beyond : goal.returns-clause-beyond
returns-clause-beyond c =
    beyond_from c.args.offset (1024 * (c.args.chunk + 1)) (c.min-start.result + c.min.result) c.args.bits.now.bits
    (λ more. omega (arith, c.min.ensures, c.min-from.ensures, c.min-start.ensures, c.max.ensures))
