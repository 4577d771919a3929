-- The part of the mask, with the filter by it in front of the others.
use Rattle.vx_mask.specs.Mask.{mask_bits}
use Rattle.vx_paging.proofs.Needing.{added-part}
use Rattle.vx_paging.proofs.needed.Needed.before_mask.Goals as goal

pub returns : goal.returns
returns c =
    let range = c.mask_range-start in
    record {
      ordered = range.ensures.ordered;
      within = range.ensures.within;
      low_count = range.ensures.start;
      high_count = range.ensures.end;
      added = added-part c.args.self.masks.items c.push.new.self.items c.slice_mask-part.result c.in_ok-prepare_mask_for_reuse.field-0 (mask_bits c.args.mask.now) range.result.0 range.result.1 _ _
          c.in_ok-push.ensures.items c.in_ok-prepare_mask_for_reuse.ensures c.slice_mask-part.ensures;
    }
