-- The lengths are those of the picks.
use Rattle.std.proofs.Common.{◌≡◌, ◌+◌, ◌/◌, ap, sym, ◌∙◌, Bool, cond, length, arith}
use Rattle.vx_arrow_image.specs.Image.{part_of}
use Rattle.vx_arrow_columns.specs.Picks.{bytes_for, picking_of, shows_valid}
use Rattle.vx_arrow_columns.proofs.Plans.{need_is}
use Rattle.vx_arrow_columns.proofs.plan.need_for.Goals as goal
use Rattle.vx_arrow_columns.proofs.plan.need_for.Goals.{then-shows_valid, else-shows_valid}

pub returns : goal.returns
returns c =
    let p = part_of c.args.node.now in
    let ps = c.args.picks.now in
    let n = bytes_for (length ps.places.now) in
    let is : c.if-shows_valid.valid ≡ cond (shows_valid p (picking_of ps.places.now ps.valid.now ps.add)) n 0 = elim c.if-shows_valid.branch [
      | then-shows_valid w ↦ let e : w.div_ceil-valid.result ≡ (length ps.places.now + 7) / 8 = omega (arith, w.div_ceil-valid.ensures) in w.valid-is ∙ e ∙ sym (ap (λ (b : Bool). cond b n 0) (sym c.shows_valid.ensures ∙ w.if-shows_valid.true))
      | else-shows_valid w ↦ w.valid-is ∙ sym (ap (λ (b : Bool). cond b n 0) (sym c.shows_valid.ensures ∙ w.if-shows_valid.false))
    ] in
    need_is p ps.places.now ps.valid.now ps.add _ _ _ _ is c.offsets_len.ensures c.requires.values c.sizes_len.ensures
