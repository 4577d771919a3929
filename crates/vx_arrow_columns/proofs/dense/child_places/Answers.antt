-- One row more.
use Rattle.std.proofs.Common.{ℕ, List, Option, None, Some, ◌≡◌, ◌++◌, ◌∷◌, [], ap, refl, subst, sym, arith, rules, ◌∙◌}
use Rattle.std.proofs.lemmas.Bool.{eqb-true}
use Rattle.std.proofs.lemmas.List.{take_all}
use Rattle.vx_arrow_image.specs.Image.{part_of}
use Rattle.vx_arrow_columns.specs.Measured.{ArePlaced, IsEndAfter}
use Rattle.vx_arrow_columns.specs.Picks.{dense_rows, pick_at, picks_of}
use Rattle.vx_arrow_columns.proofs.DenseItems.{end_none, end_some, item_none, item_some, no_places_yet, other_place, own_place}
use Rattle.vx_arrow_columns.proofs.DenseRows.{rows_none}
use Rattle.vx_arrow_columns.proofs.PickReads.{length_picks}
use Rattle.vx_arrow_columns.proofs.dense.child_places.Goals as goal
use Rattle.vx_arrow_columns.proofs.dense.child_places.Goals.{then-is_in+in-Some+in_ok-push-in-Some, then-is_in+in-None+in_ok-push-in-None, else-is_in}

pub loop-k-init : goal.loop-k-init
loop-k-init c =
    let ps = c.args.picks.now in
    no_places_yet _ _ _ (rows_none (part_of c.args.node.now) (picks_of ps.places.now ps.valid.now ps.add) c.args.j) c.new-places.ensures.items refl

pub loop-k-preserved : goal.loop-k-preserved
loop-k-preserved c =
    let p = part_of c.args.node.now in
    let ps = c.args.picks.now in
    let k = c.loop-k.k in
    let new = c.if-is_in in
    elim new.branch [
      | then-is_in+in-Some+in_ok-push-in-Some w ↦
          let start = w.start_of-start.result in
          let pushed : w.push.new.self.items ≡ c.loop-k.places.items ++ start ∷ [] = search rules in
          own_place p ps.places.now ps.valid.now ps.add c.args.j k (Some start) c.loop-k.places.items new.places.items c.loop-k.end new.end c.loop-k-test.true
          (eqb-true _ _ (sym w.if-is_in.ensures)) (item_some p (pick_at ps.places.now ps.valid.now ps.add k) w.in-Some.i start w.in-Some.ensures.row w.start_of-start.ensures.start) (ap (λ v. v.items) w.places-is ∙ pushed)
          (subst (λ (n : ℕ). IsEndAfter c.loop-k.end (Some start) n) (sym w.end-is) (end_some c.loop-k.end start w.greater-end.result w.greater-end.ensures.first w.greater-end.ensures.second w.greater-end.ensures.least)) c.loop-k.invariant
      | then-is_in+in-None+in_ok-push-in-None w ↦
          let pushed : w.push-in-None.new.self.items ≡ c.loop-k.places.items ++ 0 ∷ [] = search rules in
          own_place p ps.places.now ps.valid.now ps.add c.args.j k None c.loop-k.places.items new.places.items c.loop-k.end new.end c.loop-k-test.true
          (eqb-true _ _ (sym w.if-is_in.ensures)) (item_none p (pick_at ps.places.now ps.valid.now ps.add k) w.in-None.ensures.row) (ap (λ v. v.items) w.places-is ∙ pushed)
          (subst (λ (n : ℕ). IsEndAfter c.loop-k.end None n) (sym w.end-is) (end_none c.loop-k.end)) c.loop-k.invariant
      | else-is_in w ↦
          other_place p ps.places.now ps.valid.now ps.add c.args.j k c.loop-k.places.items new.places.items c.loop-k.end new.end c.loop-k-test.true
          (sym w.if-is_in.ensures) (ap (λ v. v.items) w.places-is) w.end-is c.loop-k.invariant
    ]

pub returns-clause-rows : goal.returns-clause-rows
returns-clause-rows c =
    let ps = c.args.picks.now in
    let q = picks_of ps.places.now ps.valid.now ps.add in
    subst (λ (l : List (Option ℕ)). ArePlaced (dense_rows (part_of c.args.node.now) l c.args.j) c.loop-k.places.items c.loop-k.end) (take_all c.loop-k.k q (omega (arith, length_picks ps.places.now ps.valid.now ps.add))) c.loop-k.invariant
