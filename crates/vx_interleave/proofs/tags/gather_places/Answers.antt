-- One place more.
use Rattle.std.proofs.Common.{None}
use Rattle.vx_interleave.proofs.CountedTags.{place_counted, place_pushed}
use Rattle.vx_interleave.proofs.tags.gather_places.Goals as goal

pub loop-tag-preserved : goal.loop-tag-preserved
loop-tag-preserved c =
    let tags = c.args.tags.now in let i = c.loop-tag.tag-index in let so = c.loop-tag.invariant in
    record {
      places = place_pushed tags i None c.loop-tag-test.true c.loop-tag.places.numbers c.push_place.new.places.numbers c.loop-tag.counts c.push_place.ensures.small so.counts so.places c.in_ok-push_place.ensures.place;
      counts = place_counted tags i None c.loop-tag-test.true c.loop-tag.counts c.push_place.new.counts so.long so.counts c.in_ok-push_place.ensures.counts;
      long = c.push_place.array_long;
    }
