use Rattle.std.proofs.Common.{◌≡◌, ℕ, ◌*◌, ◌-◌, ◌+◌, length, subst, arith}
use Rattle.vx_bits.proofs.SetBits.{IsClear, clear_before, clear_none, last_here, last_none}
use Rattle.vx_bits.proofs.bit_buffer.BitBuffer.last_set.Goals as goal

pub loop-passed-init : goal.loop-passed-init
loop-passed-init c = clear_none c.args.self.now.bits (64 * (c.div_ceil-words.result - 0)) (length c.args.self.now.bits) (omega (arith, c.div_ceil-words.ensures))

pub returns-then-word-ne0 : goal.returns-then-word-ne0
returns-then-word-ne0 c =
    let words = c.div_ceil-words.result in
    let i = words - 1 - c.loop-passed.passed in
    last_here c.args.self.now.bits i c.word-word.result (words - c.loop-passed.passed) c.ilog2.result (omega arith) c.word-word.ensures c.ilog2.ensures.power_le c.ilog2.ensures.next_power_gt c.ilog2.ensures.bound c.loop-passed.invariant

pub loop-passed-preserved : goal.loop-passed-preserved
loop-passed-preserved c =
    let bits = c.args.self.now.bits in
    let words = c.div_ceil-words.result in
    let passed = c.loop-passed.passed in
    let i = words - 1 - passed in
    let same : i ≡ words - (passed + 1) = omega arith in
    subst (λ (n : ℕ). IsClear bits (64 * n) (length bits)) same (clear_before bits i (words - passed) (length bits) c.word-word.result (omega arith) c.word-word.ensures (omega (arith, c.if-word-ne0.false)) c.loop-passed.invariant)

pub returns : goal.returns
returns c = last_none c.args.self.now.bits (64 * (c.div_ceil-words.result - c.loop-passed.passed)) (omega arith) c.loop-passed.invariant
