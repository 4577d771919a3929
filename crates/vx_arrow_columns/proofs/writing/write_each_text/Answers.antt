-- One text more, and one offset.
use Rattle.std.proofs.Common.{◌∙◌, ◌<◌, refl, length, take, ap, arith, ◌≡◌, ◌≤◌, ◌+◌, ◌-◌, ℕ, List, Some}
use Rattle.vx_arrow_image.specs.Image.{part_of, Part, offset_at}
use Rattle.vx_arrow_columns.specs.Picks.{items_len, picks_of, pick_at, place_of}
use Rattle.vx_arrow_image.specs.declared.format.Offsets.{Offsets}
use Rattle.vx_arrow_columns.specs.Taken.{AreCutAt}
use Rattle.vx_arrow_image.proofs.CutRows.{cut_end, cut_up}
use Rattle.vx_arrow_columns.proofs.PickReads.{length_picks}
use Rattle.vx_arrow_columns.proofs.Cuts.{len_within}
use Rattle.vx_arrow_columns.proofs.Steps.{len_after, all_texts, at_pick, first_offset, next_len, next_offset, no_texts, row_none, row_some, text_kept, text_put}
use Rattle.vx_arrow_columns.proofs.writing.write_each_text.Goals as goal
use Rattle.vx_arrow_columns.proofs.writing.write_each_text.Goals.{in-Some, in_default}

pub loop-k-init : goal.loop-k-init
loop-k-init c = (first_offset c.args.size (part_of c.args.node.now) _ _ c.args.offsets.now _ c.put_offset.ensures refl, no_texts _ _ _ _ _ refl)

-- a text that is there is among the bytes
text_within : (z : Offsets) (p : Part) (ps vs : List ℕ) (add k i s e : ℕ) → AreCutAt z p (picks_of ps vs add) (length p.values) → k < length ps → Some i ≡ place_of p (pick_at ps vs add k) → s ≡ offset_at z p.offsets i → e ≡ offset_at z p.offsets (i + 1)
    → (s ≤ e) × (e ≤ length p.values)
text_within z p ps vs add k i s e cut h there from to =
    let low : k < length (picks_of ps vs add) = omega (arith, length_picks ps vs add) in
    let own = cut.cut k i low (at_pick p ps vs add k _ h there) in
    (omega (arith, cut_up z p (length p.values) i own), omega (arith, cut_end z p (length p.values) i own))

pub overflow_sub-len : goal.overflow_sub-len
overflow_sub-len c =
    let ps = c.args.picks.now in
    let w = text_within c.args.size (part_of c.args.node.now) ps.places.now ps.valid.now ps.add c.loop-k.k c.in-Some.i _ _ c.requires.cut c.loop-k-test.true c.in-Some.ensures.place c.cut_at-cut.ensures.start c.cut_at-cut.ensures.end in
    omega (arith, w.0, w.1)

pub put_text-requires-clause-room : goal.put_text-requires-clause-room
put_text-requires-clause-room c =
    let ps = c.args.picks.now in
    let w = text_within c.args.size (part_of c.args.node.now) ps.places.now ps.valid.now ps.add c.loop-k.k c.in-Some.i _ _ c.requires.cut c.loop-k-test.true c.in-Some.ensures.place c.cut_at-cut.ensures.start c.cut_at-cut.ensures.end in
    let new = len_after c.args.size (part_of c.args.node.now) ps.places.now ps.valid.now ps.add c.loop-k.k c.in-Some.i _ _ c.loop-k.at _ c.loop-k-test.true c.in-Some.ensures.place c.cut_at-cut.ensures.start c.cut_at-cut.ensures.end refl c.loop-k.invariant.0.len in
    omega (arith, w.0, w.1, c.requires.room, c.loop-k.auto.out)

pub overflow_add-at : goal.overflow_add-at
overflow_add-at c =
    let ps = c.args.picks.now in
    let w = text_within c.args.size (part_of c.args.node.now) ps.places.now ps.valid.now ps.add c.loop-k.k c.in-Some.i _ _ c.requires.cut c.loop-k-test.true c.in-Some.ensures.place c.cut_at-cut.ensures.start c.cut_at-cut.ensures.end in
    let new = len_after c.args.size (part_of c.args.node.now) ps.places.now ps.valid.now ps.add c.loop-k.k c.in-Some.i _ _ c.loop-k.at _ c.loop-k-test.true c.in-Some.ensures.place c.cut_at-cut.ensures.start c.cut_at-cut.ensures.end refl c.loop-k.invariant.0.len in
    omega (arith, w.0, w.1, c.requires.room, c.loop-k.auto.out)

pub put_text-requires-clause-there : goal.put_text-requires-clause-there
put_text-requires-clause-there c =
    let ps = c.args.picks.now in
    let w = text_within c.args.size (part_of c.args.node.now) ps.places.now ps.valid.now ps.add c.loop-k.k c.in-Some.i _ _ c.requires.cut c.loop-k-test.true c.in-Some.ensures.place c.cut_at-cut.ensures.start c.cut_at-cut.ensures.end in
    omega (arith, w.0, w.1)

pub put_offset-requires-in-loop-k-clause-small : goal.put_offset-requires-in-loop-k-clause-small
put_offset-requires-in-loop-k-clause-small c =
    let z = c.args.size in
    let k = c.loop-k.k in
    let p = part_of c.args.node.now in
    let ps = c.args.picks.now in
    let q = picks_of ps.places.now ps.valid.now ps.add in
    let low : k < length q = omega (arith, length_picks ps.places.now ps.valid.now ps.add) in
    let new : c.match-place.at ≡ items_len z p (take (k + 1) q) = elim c.match-place.branch [
      | in-Some w ↦ next_len z p q k c.loop-k.at _ _ low (at_pick p ps.places.now ps.valid.now ps.add k _ c.loop-k-test.true w.in-Some.ensures.place) c.loop-k.invariant.0.len
          (row_some z p w.in-Some.i _ _ c.loop-k.at _ w.cut_at-cut.ensures.start w.cut_at-cut.ensures.end w.at-is)
      | in_default w ↦ next_len z p q k c.loop-k.at _ _ low (at_pick p ps.places.now ps.valid.now ps.add k _ c.loop-k-test.true w.in_default.ensures.place) c.loop-k.invariant.0.len (row_none z p c.loop-k.at _ w.at-is)
    ] in
    let within = len_within z p q k low in
    let counted = c.requires.counted in
    omega arith

pub loop-k-preserved : goal.loop-k-preserved
loop-k-preserved c =
    let z = c.args.size in
    let p = part_of c.args.node.now in
    let ps = c.args.picks.now in
    let k = c.loop-k.k in
    let q = picks_of ps.places.now ps.valid.now ps.add in
    let low : k < length q = omega (arith, length_picks ps.places.now ps.valid.now ps.add) in
    elim c.match-place.branch [
      | in-Some w ↦
          let there = at_pick p ps.places.now ps.valid.now ps.add k _ c.loop-k-test.true w.in-Some.ensures.place in
          let from = w.cut_at-cut.ensures.start in
          let to = w.cut_at-cut.ensures.end in (
            next_offset z p q k c.loop-k.at c.match-place.at _ c.loop-k.offsets _ low there (row_some z p w.in-Some.i _ _ c.loop-k.at _ from to w.at-is) c.put_offset-in-loop-k.ensures c.loop-k.invariant.0,
            text_put z p q k w.in-Some.i c.loop-k.at c.match-place.at w.cut_at-cut.result.start w.cut_at-cut.result.end _ c.loop-k.out _ low there from to refl w.at-is
                (ap (take (c.loop-k.at + (w.cut_at-cut.result.end - w.cut_at-cut.result.start))) w.out-is ∙ w.put_text.ensures) c.loop-k.invariant.1,
          )
      | in_default w ↦
          let there = at_pick p ps.places.now ps.valid.now ps.add k _ c.loop-k-test.true w.in_default.ensures.place in (
            next_offset z p q k c.loop-k.at c.match-place.at _ c.loop-k.offsets _ low there (row_none z p c.loop-k.at _ w.at-is) c.put_offset-in-loop-k.ensures c.loop-k.invariant.0,
            text_kept z p q k c.loop-k.at c.match-place.at c.loop-k.out _ low there w.at-is w.out-is c.loop-k.invariant.1,
          )
    ]

pub returns-clause-texts : goal.returns-clause-texts
returns-clause-texts c = all_texts c.args.size (part_of c.args.node.now) _ c.loop-k.k c.loop-k.at _ (omega (arith, length_picks c.args.picks.now.places.now c.args.picks.now.valid.now c.args.picks.now.add)) c.loop-k.invariant.1
