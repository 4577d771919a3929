-- The picks whose numbers are the set positions.
use Rattle.std.proofs.Common.{◌≡◌, ◌∙◌, subst, ap}
use Rattle.std.specs.Prelude.{IfOk}
use Rattle.std.specs.List.{items_where_true}
use Rattle.vx_mask.specs.Mask.{mask_bits}
use Rattle.vx_mask.specs.Positions.{set_of}
use Rattle.vx_steps.specs.Compose.{picks_in, bound_of, picks_by_number}
use Rattle.vx_steps.proofs.ComposedPicks.{numbered-set, numbers_within}
use Rattle.vx_steps.proofs.composed.Composed.at_the_set.Goals as goal

pub picks_by_number-requires : goal.picks_by_number-requires
picks_by_number-requires c =
    let bits = mask_bits c.args.mask.now in
    let set : c.in-Some.indices.now ≡ set_of bits = c.in-Some.ensures.set ∙ ap set_of c.in_ok-listed.ensures.bits in
    numbers_within bits (picks_in c.args.self.now) c.in-Some.indices.now c.requires.long set

pub returns : goal.returns
returns c =
    let bits = mask_bits c.args.mask.now in let picks = picks_in c.args.self.now in
    let set : c.in-Some.indices.now ≡ set_of bits = c.in-Some.ensures.set ∙ ap set_of c.in_ok-listed.ensures.bits in
    let same : picks_by_number picks c.in-Some.indices.now ≡ items_where_true bits picks =
    ap (picks_by_number picks) set ∙ numbered-set picks bits c.requires.long in
    subst (λ l. IfOk c.picks_by_number.result (λ p. p ≡ record { picks = l; bound = bound_of c.args.self.now })) same c.picks_by_number.ensures
