-- One number more.
use Rattle.std.proofs.Common.{◌≡◌, ℕ, ◌++◌, List, drop, take, ap₂, sym, ◌∙◌, arith}
use Rattle.std.specs.List.{range_with_len}
use Rattle.std.proofs.lemmas.List.{take_all}
use Rattle.std.proofs.lemmas.List.FromFn.{get_or-range_with_len, length-range_with_len}
use Rattle.vx_arrow.proofs.Writes.{next_written, same_items}
use Rattle.vx_arrow.proofs.known.write_range.Goals as goal

pub loop-k-preserved : goal.loop-k-preserved
loop-k-preserved c =
    let all = range_with_len c.args.start c.args.len in
    let long = length-range_with_len c.args.start c.args.len in
    next_written (λ (p : ℕ). p) all 0 c.args.places.now c.loop-k.places c.loop-k.k _ (omega (arith, c.requires.room)) (omega (arith, c.loop-k-test.true)) c.loop-k.invariant
    (sym (get_or-range_with_len c.args.start c.args.len c.loop-k.k 0 c.loop-k-test.true))

pub returns : goal.returns
returns c =
    let all = range_with_len c.args.start c.args.len in
    let done : c.loop-k.k ≡ c.args.len = omega arith in
    c.loop-k.invariant
    ∙ ap₂ (λ (l : List ℕ) (n : ℕ). l ++ drop n c.args.places.now) (same_items (take c.loop-k.k all) ∙ take_all c.loop-k.k all (omega (arith, length-range_with_len c.args.start c.args.len))) done
