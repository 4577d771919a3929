-- Bits are written, or none are needed.
use Rattle.std.proofs.Common.{◌≡◌, ◌*◌, ◌≤◌, Bool, true, false, cond, [], length, ap, sym, ◌∙◌, subst, arith}
use Rattle.vx_arrow_image.specs.Image.{part_of}
use Rattle.vx_arrow_columns.specs.Asked.{the_picks}
use Rattle.vx_arrow_columns.specs.Picks.{bytes_for}
use Rattle.vx_arrow_columns.specs.Taken.{ShowsRows}
use Rattle.vx_arrow_columns.proofs.PickReads.{length_picks}
use Rattle.vx_arrow_columns.proofs.Rooms.{none_shown}
use Rattle.vx_arrow_columns.proofs.RowBytes.{bits_show}
use Rattle.vx_arrow_columns.proofs.Trees.{empty}
use Rattle.vx_arrow_columns.proofs.writing.write_valid_of.Goals as goal

pub write_valid-requires-clause-room : goal.write_valid-requires-clause-room
write_valid-requires-clause-room c =
    let ps = c.args.picks.now in
    let long = c.requires.room ∙ ap (λ (b : Bool). cond b (bytes_for (length (the_picks ps))) 0) (sym c.if-not-shows_valid.ensures) in
    omega (arith, long, length_picks ps.places.now ps.valid.now ps.add)

pub returns-then-not-shows_valid : goal.returns-then-not-shows_valid
returns-then-not-shows_valid c =
    let p = part_of c.args.node.now in
    let ps = c.args.picks.now in
    let none = sym c.if-not-shows_valid.ensures in
    let bare : length c.args.valid.now ≡ 0 = c.requires.room ∙ ap (λ (b : Bool). cond b (bytes_for (length (the_picks ps))) 0) none in
    let shows = none_shown p ps.places.now ps.valid.now ps.add [] c.requires.nullable none in
    record {
      shows = subst (ShowsRows p (the_picks ps)) (sym (empty c.args.valid.now bare)) (subst (λ (b : Bool). ShowsRows p (the_picks ps) (cond b [] [])) none shows);
      bits = λ e. absurd (let f : true ≡ false = sym e ∙ none in cc);
    }

pub returns : goal.returns
returns c =
    let p = part_of c.args.node.now in
    let ps = c.args.picks.now in
    let long = c.requires.room ∙ ap (λ (b : Bool). cond b (bytes_for (length (the_picks ps))) 0) (sym c.if-not-shows_valid.ensures) in
    let room : length ps.places.now ≤ 8 * length c.write_valid.new.out = omega (arith, long, c.write_valid.auto.out, length_picks ps.places.now ps.valid.now ps.add) in
    record {
      shows = bits_show p ps.places.now ps.valid.now ps.add _ room c.write_valid.ensures;
      bits = λ e. c.write_valid.ensures;
    }
