use Rattle.std.proofs.Common.{◌≡◌, ◌+◌, ◌-◌, ◌*◌, ◌^◌, ◌<◌, ◌++◌, false, length, map, sym, ap, ◌∙◌, arith}
use Rattle.std.specs.List.{range_with_len}
use Rattle.std.proofs.lemmas.List.FromFn.{length-map-range_with_len}
use Rattle.std.proofs.lemmas.List.{length-map, map-append}
use Rattle.vx_bits.specs.BitBuffer.{number_of}
use Rattle.vx_take.specs.Picks.{at, item_at}
use Rattle.vx_words.specs.Takes.{pick_at}
use Rattle.vx_words.proofs.BitWords.{places_joined}
use Rattle.vx_words.proofs.TopBits.{four_behind}
use Rattle.vx_words.proofs.take_bits.BitPicks.full_word.Goals as goal

pub loop-j-init : goal.loop-j-init
loop-j-init c = omega arith

pub loop-j-preserved : goal.loop-j-preserved
loop-j-preserved c =
    let j = c.loop-j.j in
    let start = c.args.start in
    let pick = pick_at c.args.self.now.indices.now c.args.self.now.valid.now in
    let src = c.args.self.now.src in
    let front = map pick (range_with_len start (4 * j)) in
    let four = map pick (range_with_len (start + 4 * j) 4) in
    let few : j < 16 = omega arith in
    let long : length (at false src front) ≡ 4 * j = length-map front (item_at false src) ∙ length-map-range_with_len pick start (4 * j) in
    let short : length (at false src four) ≡ 4 = length-map four (item_at false src) ∙ length-map-range_with_len pick (start + 4 * j) 4 in
    let next : 4 * j + 4 ≡ 4 * (j + 1) = omega arith in
    let all : at false src front ++ at false src four ≡ at false src (map pick (range_with_len start (4 * (j + 1)))) =
    sym (map-append (item_at false src) front four)
    ∙ ap (at false src) (sym (places_joined pick start (4 * j) 4) ∙ ap (λ n. map pick (range_with_len start n)) next) in
    four_behind (at false src front) (at false src four) c.loop-j.top j _ few long short c.loop-j.invariant c.four-four.ensures
    ∙ ap (λ l. number_of l * 2 ^ (64 - 4 * (j + 1))) all

pub returns : goal.returns
returns c =
    let pick = pick_at c.args.self.now.indices.now c.args.self.now.valid.now in
    let src = c.args.self.now.src in
    let last : c.loop-j.j ≡ 16 = omega arith in
    let is = c.loop-j.invariant ∙ ap (λ n. number_of (at false src (map pick (range_with_len c.args.start (4 * n)))) * 2 ^ (64 - 4 * n)) last in
    omega (arith, is)
