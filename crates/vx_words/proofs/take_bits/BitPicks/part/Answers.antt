use Rattle.std.proofs.Common.{◌≡◌, ◌+◌, ◌-◌, ◌*◌, ◌/◌, ◌^◌, ◌<◌, [], ◌∷◌, ◌++◌, false, length, map, refl, sym, ap, ◌∙◌, arith}
use Rattle.std.specs.List.{range_with_len}
use Rattle.std.proofs.lemmas.List.FromFn.{length-map-range_with_len, map-range_with_len_more}
use Rattle.std.proofs.lemmas.List.{length-map, map-append}
use Rattle.std.proofs.lemmas.Nat.{shl-shr}
use Rattle.vx_bits.specs.BitBuffer.{number_of}
use Rattle.vx_take.specs.Picks.{at, item_at}
use Rattle.vx_words.specs.Takes.{pick_at}
use Rattle.vx_words.proofs.TopBits.{in_behind}
use Rattle.vx_words.proofs.take_bits.BitPicks.part.Goals as goal

pub loop-j-preserved : goal.loop-j-preserved
loop-j-preserved c =
    let j = c.loop-j.j in
    let start = c.args.start in
    let indices = c.args.self.now.indices.now in
    let pick = pick_at indices c.args.self.now.valid.now in
    let src = c.args.self.now.src in
    let bit = item_at false src (pick (start + j)) in
    let before = at false src (map pick (range_with_len start j)) in
    let few : j < 64 = omega (arith, c.requires.few) in
    let long : length before ≡ j = length-map (map pick (range_with_len start j)) (item_at false src) ∙ length-map-range_with_len pick start j in
    let all : before ++ bit ∷ [] ≡ at false src (map pick (range_with_len start (j + 1))) =
    sym (map-append (item_at false src) (map pick (range_with_len start j)) (pick (start + j) ∷ []))
    ∙ ap (at false src) (sym (map-range_with_len_more pick start j (start + j) refl)) in
    in_behind before bit c.loop-j.top j c.from_bit.result few long c.loop-j.invariant c.from_bit.ensures
    ∙ ap (λ l. number_of l * 2 ^ (64 - (j + 1))) all

pub returns : goal.returns
returns c =
    let count = c.args.count in
    let pick = pick_at c.args.self.now.indices.now c.args.self.now.valid.now in
    let taken = at false c.args.self.now.src (map pick (range_with_len c.args.start count)) in
    let last : c.loop-j.j ≡ count = omega arith in
    ap (λ x. x / 2 ^ (64 - count)) (c.loop-j.invariant ∙ ap (λ n. number_of (at false c.args.self.now.src (map pick (range_with_len c.args.start n))) * 2 ^ (64 - n)) last)
    ∙ shl-shr (number_of taken) (64 - count)
