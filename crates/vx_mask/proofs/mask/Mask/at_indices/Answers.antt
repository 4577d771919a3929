use Rattle.std.proofs.Common.{length, refl, arith}
use Rattle.vx_mask.specs.Mask.{mask_by_indices}
use Rattle.vx_mask.proofs.Partial.{fewer, made_from_none, made_from_all, made_from_some}
use Rattle.vx_mask.proofs.mask.Mask.at_indices.Goals as goal

pub returns-then-count-eq0 : goal.returns-then-count-eq0
returns-then-count-eq0 c = made_from_none c.args.len (length c.args.indices.items) c.args.indices.items (mask_by_indices c.args.len c.args.indices.items) c.requires refl refl (omega (arith, c.len-count.ensures, c.if-count-eq0.true))

pub returns-then-count-len : goal.returns-then-count-len
returns-then-count-len c = made_from_all c.args.len (length c.args.indices.items) c.args.indices.items (mask_by_indices c.args.len c.args.indices.items) c.requires refl refl (omega (arith, c.len-count.ensures, c.if-count-len.true))

pub by_indices-requires-clause-not_all : goal.by_indices-requires-clause-not_all
by_indices-requires-clause-not_all c = fewer c.args.len (length c.args.indices.items) c.args.indices.items c.requires refl (λ all. c.if-count-len.false (omega (arith, c.len-count.ensures, all)))

pub returns : goal.returns
returns c = made_from_some c.in_ok-by_indices.field-0 (mask_by_indices c.args.len c.args.indices.items) c.args.len (length c.args.indices.items) c.args.indices.items c.requires refl refl (omega (arith, c.len-count.ensures, c.if-count-eq0.false)) (fewer c.args.len (length c.args.indices.items) c.args.indices.items c.requires refl (λ all. c.if-count-len.false (omega (arith, c.len-count.ensures, all)))) c.in_ok-by_indices.ensures
