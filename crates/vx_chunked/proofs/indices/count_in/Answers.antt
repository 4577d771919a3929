use Rattle.std.proofs.Common.{◌≡◌, ℕ, ◌+◌, ◌-◌, ◌*◌, ◌/◌, ◌^◌, ◌≤◌, get_or, drop, map, ap, subst, arith}
use Rattle.std.specs.List.{All}
use Rattle.vx_chunked.proofs.Ascends.{all_in_chunk, ascend_all, ascend_drop, ascend_passed, ascend_past}
use Rattle.vx_chunked.proofs.indices.count_in.Goals as goal

pub returns-then-indices-last-clause-inside : goal.returns-then-indices-last-clause-inside
returns-then-indices-last-clause-inside c = all_in_chunk (λ i. c.args.offset + i) (1024 * c.args.chunk) (2 ^ 64) c.args.indices.now 1024 c.requires.ahead (omega arith) (omega (arith, c.if-last-indices.true)) (omega (arith, c.if-indices-last.true, c.saturating_sub-beyond.ensures))

pub returns-then-indices-last-clause-beyond : goal.returns-then-indices-last-clause-beyond
returns-then-indices-last-clause-beyond c = ascend_all (1024 * c.args.chunk + 1024) (2 ^ 64) (1024 * (c.args.chunk + 1)) _ (ascend_drop (λ i. c.args.offset + i) (1024 * c.args.chunk) (2 ^ 64) c.args.indices.now 1024 c.requires.ahead) (omega arith)

pub half-init : goal.half-init
half-init c = record {
  ordered = omega arith;
  within = omega (arith, c.min-high.ensures);
  inside = λ k d p. absurd (omega arith);
  past = ascend_passed (λ i. c.args.offset + i) (1024 * c.args.chunk) (2 ^ 64) (1024 * (c.args.chunk + 1)) c.args.indices.now _ c.requires.ahead (λ more. omega (arith, more, c.min-high.ensures));
}

pub half-preserved-then-indices-middle : goal.half-preserved-then-indices-middle
half-preserved-then-indices-middle c =
    let indices = c.args.indices.now in
    let m = (c.half.low + c.half.high) / 2 in
    let v = c.half.invariant in
    let same : m + 1 - 1 ≡ m = omega arith in
    record {
      ordered = omega arith;
      within = v.within;
      inside = all_in_chunk (λ i. c.args.offset + i) (1024 * c.args.chunk) (2 ^ 64) indices (m + 1) c.requires.ahead (omega arith) (omega (arith, v.within)) (omega (arith, ap (λ k. get_or indices k 0) same, c.if-indices-middle.true, c.saturating_sub-beyond.ensures));
      past = v.past;
    }

pub half-preserved : goal.half-preserved
half-preserved c =
    let indices = c.args.indices.now in
    let m = (c.half.low + c.half.high) / 2 in
    let f : ℕ → ℕ = λ i. c.args.offset + i in
    let v = c.half.invariant in
    record {
      ordered = omega arith;
      within = omega (arith, v.within);
      inside = v.inside;
      past = ascend_past f (1024 * c.args.chunk + m) (2 ^ 64) (1024 * (c.args.chunk + 1)) indices m (ascend_drop f (1024 * c.args.chunk) (2 ^ 64) indices m c.requires.ahead) (omega (arith, v.within)) (omega (arith, c.if-indices-middle.false, c.saturating_sub-beyond.ensures));
    }

pub returns-clause-beyond : goal.returns-clause-beyond
returns-clause-beyond c =
    let end : c.half.high ≡ c.half.low = omega (arith, c.half.invariant.ordered, c.half-test.false) in
    subst (λ (n : ℕ). All (λ p. 1024 * (c.args.chunk + 1) ≤ p) (map (λ i. c.args.offset + i) (drop n c.args.indices.now))) end c.half.invariant.past
