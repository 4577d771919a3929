use Rattle.std.proofs.Common.{sym, ap, ◌∙◌, arith}
use Rattle.vx_mask.proofs.BlockCounts.{count_fits}
use Rattle.vx_take.specs.Ranks.{place_before}
use Rattle.vx_take.proofs.NeededBits.{counted_before, counts_long, position_below}
use Rattle.vx_take.proofs.RankedPicks.{pick_there}
use Rattle.vx_take.proofs.needs.CountedRankItemOfUsize.item_of.Goals as goal

pub bounds-self-place : goal.bounds-self-place
bounds-self-place c =
    let ranks = c.args.self.now in
    let below = position_below ranks.words c.args.place c.if-place-eq-NULL_PLACE.false c.requires in
    omega (arith, below, counts_long ranks.words ranks.counts.now ranks.counted)

pub overflow_add-result : goal.overflow_add-result
overflow_add-result c =
    let ranks = c.args.self.now in
    let below = position_below ranks.words c.args.place c.if-place-eq-NULL_PLACE.false c.requires in
    let counted = counted_before ranks.words ranks.counts.now c.args.place c.word.result ranks.counted below c.word.ensures in
    omega (arith, counted, count_fits ranks.words c.args.place)

pub returns-else-place-eq-NULL_PLACE : goal.returns-else-place-eq-NULL_PLACE
returns-else-place-eq-NULL_PLACE c =
    let ranks = c.args.self.now in
    let there = c.if-place-eq-NULL_PLACE.false in
    let below = position_below ranks.words c.args.place there c.requires in
    counted_before ranks.words ranks.counts.now c.args.place c.word.result ranks.counted below c.word.ensures
    ∙ sym (ap (place_before ranks.words) (pick_there c.args.place there))
