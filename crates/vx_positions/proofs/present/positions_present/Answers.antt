-- One position more.
use Rattle.std.proofs.Common.{rules, ◌<◌, ℕ, List, ap, sym, subst, ◌∙◌, arith}
use Rattle.std.proofs.lemmas.List.Elements.{All-push}
use Rattle.std.specs.List.{All}
use Rattle.vx_types.specs.PType.{number}
use Rattle.vx_positions.specs.Positions.{is_position, position_of}
use Rattle.vx_positions.proofs.NumberLists.{place_more, record_is_there}
use Rattle.vx_positions.proofs.present.positions_present.Goals as goal

pub place_of-requires : goal.place_of-requires
place_of-requires g c =
    let there =
    ap (λ (r : List ℕ). is_position c.args.len (number c.args.ptype r)) c.record-item.is
    ∙ record_is_there c.args.len c.args.ptype c.args.records.now c.loop-record.record-index c.record-item.result c.requires.sound c.loop-record-test.true in
    (search rules, (c.requires.int, (c.requires.width, there)))

pub push_reserved-requires : goal.push_reserved-requires
push_reserved-requires g c = omega (arith, c.loop-record.invariant.len, c.loop-record.invariant.room, c.loop-record-test.true, c.loop-record.positions.ok.0)

pub loop-record-preserved : goal.loop-record-preserved
loop-record-preserved g c =
    let v = c.loop-record.invariant in let new = c.push_reserved.ensures in
    record {
      items = place_more c.args.ptype c.args.records.now c.loop-record.record-index c.record-item.result c.loop-record.positions.items _ c.place_of.result c.loop-record-test.true v.items new.items
          (c.place_of.ensures.value ∙ ap (λ (r : List ℕ). position_of (number c.args.ptype r)) c.record-item.is);
      below = subst (λ (l : List ℕ). All (λ (p : ℕ). p < c.args.len) l) (sym new.items) (All-push (λ (p : ℕ). p < c.args.len) c.loop-record.positions.items c.place_of.result v.below c.place_of.ensures.below);
      len = omega (arith, new.len, v.len);
      room = new.capacity ∙ v.room;
    }
