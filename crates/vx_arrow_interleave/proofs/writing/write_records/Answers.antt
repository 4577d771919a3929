-- One span more.
use Rattle.std.proofs.Common.{◌+◌, ◌<◌, get_or, length, ap, sym, ◌∙◌, refl, arith}
use Rattle.vx_arrow_image.specs.Image.{Part, parts_of}
use Rattle.vx_arrow_interleave.proofs.RecordRuns.{all_records, as_records, is_held, more_records, no_records, records_room, same_records}
use Rattle.vx_arrow_interleave.proofs.SpotLists.{no_node, no_span, part_at_node, parts_len}
use Rattle.vx_arrow_interleave.proofs.writing.write_records.Goals as goal
use Rattle.vx_arrow_interleave.proofs.writing.write_records.Goals.{then-span-ne0, else-span-ne0}

pub loop-k-init : goal.loop-k-init
loop-k-init c = no_records _ _ _ _

pub offset_bounds-sources-span : goal.offset_bounds-sources-span
offset_bounds-sources-span c =
    let held = is_held c.args.width (parts_of c.args.sources.now) c.args.places.now c.loop-k.k _ c.loop-k-test.true refl (omega (arith, c.if-span-ne0.true)) c.requires.held in
    omega (arith, held.source, parts_len c.args.sources.now)

pub bounds-sources-span : goal.bounds-sources-span
bounds-sources-span c =
    let held = is_held c.args.width (parts_of c.args.sources.now) c.args.places.now c.loop-k.k _ c.loop-k-test.true refl (omega (arith, c.if-span-ne0.true)) c.requires.held in
    omega (arith, held.source, parts_len c.args.sources.now)

pub put_records-at-requires-clause-room : goal.put_records-at-requires-clause-room
put_records-at-requires-clause-room c =
    let room = records_room c.args.width (parts_of c.args.sources.now) c.args.places.now c.loop-k.k c.loop-k.at _ c.loop-k.out _ c.loop-k-test.true refl c.requires.room c.loop-k.invariant in
    omega (arith, room, c.loop-k.auto.out)

pub put_records-at-requires-clause-held : goal.put_records-at-requires-clause-held
put_records-at-requires-clause-held c =
    let nodes = c.args.sources.now in
    let held = is_held c.args.width (parts_of nodes) c.args.places.now c.loop-k.k _ c.loop-k-test.true refl (omega (arith, c.if-span-ne0.true)) c.requires.held in
    let there : (get_or c.args.places.now c.loop-k.k no_span).source < length nodes = omega (arith, held.source, parts_len nodes) in
    let same = ap (λ (p : Part). length p.values) (part_at_node nodes _ no_node there) in
    omega (arith, held.bytes, same)

pub loop-k-preserved : goal.loop-k-preserved
loop-k-preserved c =
    let nodes = c.args.sources.now in
    let ps = parts_of nodes in
    let ss = c.args.places.now in
    let k = c.loop-k.k in
    let r = get_or ss k no_span in
    elim c.if-span-ne0.branch [
      | then-span-ne0 w ↦
          let held = is_held c.args.width ps ss k r c.loop-k-test.true refl (omega (arith, w.if-span-ne0.true)) c.requires.held in
          let there : r.source < length nodes = omega (arith, held.source, parts_len nodes) in
          as_records c.args.width ps ss (k + 1) _ _ _ _ (w.at-is ∙ w.put_records-at.ensures.end) w.out-is
          (more_records c.args.width ps ss k c.loop-k.at r (get_or nodes r.source no_node).values.now c.loop-k.out w.put_records-at.new.out c.loop-k-test.true refl
          (ap (λ (p : Part). p.values) (sym (part_at_node nodes r.source no_node there)))
          w.put_records-at.ensures.put c.loop-k.invariant)
      | else-span-ne0 w ↦
          as_records c.args.width ps ss (k + 1) _ _ _ _ w.at-is w.out-is (same_records c.args.width ps ss k c.loop-k.at r c.loop-k.out c.loop-k-test.true refl (omega (arith, w.if-span-ne0.false)) c.loop-k.invariant)
    ]

pub returns : goal.returns
returns c = all_records c.args.width (parts_of c.args.sources.now) c.args.places.now c.loop-k.k c.loop-k.at _ (omega arith) c.loop-k.invariant
