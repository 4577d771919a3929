use Rattle.std.proofs.Common.{◌≡◌, ◌+◌, ◌-◌, ◌*◌, ◌/◌, ◌%◌, ◌^◌, ap, ◌∙◌, arith}
use Rattle.std.proofs.Math.Pow.{mod-mod-pow}
use Rattle.vx_words.proofs.bits.cut.Goals as goal

pub returns-then-count-lt64 : goal.returns-then-count-lt64
returns-then-count-lt64 c =
    let count = c.args.count in
    let all = (c.args.high * 2 ^ 64 + c.args.low) / 2 ^ c.args.shift in
    let whole : 64 ≡ 64 - count + count = omega (arith, c.requires.short) in
    c.front.ensures ∙ ap (λ x. x % 2 ^ count) (c.moved_down-word.ensures ∙ ap (λ n. all % 2 ^ n) whole) ∙ mod-mod-pow all (64 - count) count

pub returns-else-count-lt64 : goal.returns-else-count-lt64
returns-else-count-lt64 c =
    let all = (c.args.high * 2 ^ 64 + c.args.low) / 2 ^ c.args.shift in
    let whole : 64 ≡ c.args.count = omega (arith, c.requires.short, c.if-count-lt64.false) in
    c.moved_down-word.ensures ∙ ap (λ n. all % 2 ^ n) whole
