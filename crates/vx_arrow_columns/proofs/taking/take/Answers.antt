-- What the rooms hold.
use Rattle.std.proofs.Common.{◌∙◌, refl, sym, arith}
use Rattle.std.proofs.lemmas.List.{length-map}
use Rattle.vx_arrow_image.specs.Image.{part_of, parts_of}
use Rattle.vx_arrow_columns.proofs.Plans.{planned_needs}
use Rattle.vx_arrow_columns.proofs.Takings.{means_picked, means_some, refused_by, short_of}
use Rattle.vx_arrow_columns.proofs.taking.take.Goals as goal

pub copy_from_slice-requires : goal.copy_from_slice-requires
copy_from_slice-requires c =
    let nodes = c.args.nodes.now in
    omega (arith, planned_needs (parts_of nodes) c.args.places.now c.args.valid.now c.in-Ok.plan c.in-Ok.ensures.planned, c.deref.ensures.len, length-map nodes part_of, c.if-needs-nodes.false)

pub first_short-requires : goal.first_short-requires
first_short-requires c =
    let nodes = c.args.nodes.now in
    omega (arith, planned_needs (parts_of nodes) c.args.places.now c.args.valid.now c.in-Ok.plan c.in-Ok.ensures.planned, c.deref-2.ensures.len, length-map nodes part_of, c.if-rooms-nodes.false)

pub returns-clause-picked : goal.returns-clause-picked
returns-clause-picked c = means_picked c.args.nodes.now _ _ refl c.in-Ok.ensures.full c.write_all.ensures.taken c.in-Ok.ensures.within

pub returns-clause-sound : goal.returns-clause-sound
returns-clause-sound c kept = means_some (parts_of c.args.nodes.now) _ _ c.write_all.ensures.taken kept

pub returns-then-rooms-nodes-clause-refused : goal.returns-then-rooms-nodes-clause-refused
returns-then-rooms-nodes-clause-refused c =
    let many = length-map c.args.nodes.now part_of in
    record { count = λ other. sym many; short = λ needed same. absurd (c.if-rooms-nodes.true (omega (arith, many))) }

pub returns-then-needs-nodes-clause-refused : goal.returns-then-needs-nodes-clause-refused
returns-then-needs-nodes-clause-refused c =
    let many = length-map c.args.nodes.now part_of in
    record { count = λ other. sym many; short = λ needed same. absurd (c.if-needs-nodes.true (omega (arith, many))) }

pub returns-in-Err-clause-refused : goal.returns-in-Err-clause-refused
returns-in-Err-clause-refused c = refused_by c.args.nodes.now _ _ _ c.in-Err.ensures.refused

pub returns-in-Some-clause-refused : goal.returns-in-Some-clause-refused
returns-in-Some-clause-refused c =
    let many = length-map c.args.nodes.now part_of in
    record {
      count = λ other. absurd (other (omega (arith, many, c.if-needs-nodes.false)) (omega (arith, many, c.if-rooms-nodes.false)));
      short = λ needed same. short_of c.deref-2.result.now _ c.args.rooms.now _ (c.deref-2.ensures.value ∙ c.in-Ok.ensures.planned.needs) c.in-Some.ensures.short;
    }
