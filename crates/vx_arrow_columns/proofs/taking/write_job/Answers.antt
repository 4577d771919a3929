-- Nothing is written where the node is kept.
use Rattle.std.proofs.Common.{◌≡◌, true, false, ap, sym, subst, ◌∙◌}
use Rattle.vx_arrow_image.specs.Image.{part_of}
use Rattle.vx_arrow_columns.specs.Bytes.{AreBytes}
use Rattle.vx_arrow_columns.specs.Picks.{Picking, need_of}
use Rattle.vx_arrow_columns.specs.Taken.{IsReadable}
use Rattle.vx_arrow_columns.proofs.Plans.{each_picks, kept_picks, run_picks}
use Rattle.vx_arrow_columns.proofs.taking.write_job.Goals as goal

pub write_plain-requires-clause-plain : goal.write_plain-requires-clause-plain
write_plain-requires-clause-plain c = c.requires.fits (run_picks _ _ _ _ c.in-Runs.is c.picks_for.ensures).1

pub write_plain-requires-clause-readable : goal.write_plain-requires-clause-readable
write_plain-requires-clause-readable c =
    let is = (run_picks _ _ _ _ c.in-Runs.is c.picks_for.ensures).0 in
    subst (λ (q : Picking). IsReadable (part_of c.args.node.now) q.picks) (sym is) (c.requires.readable (sym (ap (λ (q : Picking). q.kept) is)))

pub write_plain-requires-clause-values : goal.write_plain-requires-clause-values
write_plain-requires-clause-values c = c.requires.values ∙ ap (λ (q : Picking). (need_of (part_of c.args.node.now) q).values) (sym (run_picks _ _ _ _ c.in-Runs.is c.picks_for.ensures).0)

pub write_node-requires-clause-readable : goal.write_node-requires-clause-readable
write_node-requires-clause-readable c =
    let is = each_picks _ _ _ _ c.in-Each.is c.picks_for.ensures in
    subst (λ (q : Picking). IsReadable (part_of c.args.node.now) q.picks) (sym is) (c.requires.readable (sym (ap (λ (q : Picking). q.kept) is)))

pub write_node-requires-clause-valid : goal.write_node-requires-clause-valid
write_node-requires-clause-valid c = c.requires.bits ∙ ap (λ (q : Picking). (need_of (part_of c.args.node.now) q).valid) (sym (each_picks _ _ _ _ c.in-Each.is c.picks_for.ensures))

pub write_node-requires-clause-offsets : goal.write_node-requires-clause-offsets
write_node-requires-clause-offsets c = c.requires.offsets ∙ ap (λ (q : Picking). (need_of (part_of c.args.node.now) q).offsets) (sym (each_picks _ _ _ _ c.in-Each.is c.picks_for.ensures))

pub write_node-requires-clause-values : goal.write_node-requires-clause-values
write_node-requires-clause-values c = c.requires.values ∙ ap (λ (q : Picking). (need_of (part_of c.args.node.now) q).values) (sym (each_picks _ _ _ _ c.in-Each.is c.picks_for.ensures))

pub write_node-requires-clause-sizes : goal.write_node-requires-clause-sizes
write_node-requires-clause-sizes c = c.requires.sizes ∙ ap (λ (q : Picking). (need_of (part_of c.args.node.now) q).sizes) (sym (each_picks _ _ _ _ c.in-Each.is c.picks_for.ensures))

pub returns-in-Kept : goal.returns-in-Kept
returns-in-Kept c bare = absurd (let f : true ≡ false = sym (ap (λ (q : Picking). q.kept) (kept_picks _ _ _ c.in-Kept.is c.picks_for.ensures)) ∙ bare in cc)

pub returns-in-Runs : goal.returns-in-Runs
returns-in-Runs c bare = subst (λ (q : Picking). AreBytes (part_of c.args.node.now) q c.args.bits.now c.args.offsets.now c.write_plain.new.values c.args.sizes.now) (run_picks _ _ _ _ c.in-Runs.is c.picks_for.ensures).0 (c.write_plain.ensures c.args.bits.now c.args.offsets.now c.args.sizes.now)

pub returns-in-Each : goal.returns-in-Each
returns-in-Each c bare = subst (λ (q : Picking). AreBytes (part_of c.args.node.now) q c.write_node.new.valid c.write_node.new.offsets c.write_node.new.values c.write_node.new.sizes) (each_picks _ _ _ _ c.in-Each.is c.picks_for.ensures) c.write_node.ensures
