-- One position more.
use Rattle.std.proofs.Common.{ℕ, List, ap, ◌∙◌, rules, set}
use Rattle.vx_types.specs.PType.{number}
use Rattle.vx_positions.specs.Positions.{is_position, position_of}
use Rattle.vx_positions.proofs.NumberLists.{none_bad-present, record_is_there}
use Rattle.vx_arrow.proofs.Writes.{next_written}
use Rattle.vx_arrow.proofs.known.write_positions.Goals as goal

pub place_of-requires : goal.place_of-requires
place_of-requires g c =
    let a = c.args in
    let there =
    ap (λ (r : List ℕ). is_position a.rows (number a.ptype r)) c.index-records-k.is
    ∙ record_is_there a.rows a.ptype a.records.now c.loop-k.k c.index-records-k.result (none_bad-present a.rows a.ptype a.records.now c.requires.below) c.loop-k-test.true in
    (search rules, (c.requires.int, (c.requires.width, there)))

pub loop-k-preserved : goal.loop-k-preserved
loop-k-preserved g c =
    ap (set c.loop-k.places c.loop-k.k) c.place_of.ensures
    ∙ next_written (λ (r : List ℕ). position_of (number c.args.ptype r)) c.args.records.now c.index-records-k.result c.args.places.now c.loop-k.places c.loop-k.k c.index-records-k.result c.requires.room c.loop-k-test.true c.loop-k.invariant c.index-records-k.is
