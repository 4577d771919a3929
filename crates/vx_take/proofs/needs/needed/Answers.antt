use Rattle.std.proofs.Common.{◌≡◌, ◌≤◌, ℕ, Bool, List, get_or, length, ap, sym, subst, ◌∙◌, arith}
use Rattle.vx_bits.specs.BitBuffer.{PlacedBits}
use Rattle.vx_mask.specs.Mask.{mask_bits}
use Rattle.vx_take.specs.Picks.{ArePlaces, IsPlace, null_place}
use Rattle.vx_take.specs.Ranks.{AreJustSet}
use Rattle.vx_take.proofs.NeededBits.{each_set, just_set}
use Rattle.vx_take.proofs.needs.needed.Goals as goal

pub returns-clause-set : goal.returns-clause-set
returns-clause-set c =
    let places = c.places-place-items.result.now in
    let len = c.bound-len.result in
    let picks = c.args.picks.now in
    let same : mask_bits c.from_buffer.result ≡ c.loop-place.bits = c.from_buffer.ensures.bits ∙ ap (λ (b : PlacedBits). b.bits) c.in_ok-finish.ensures in
    let P : List Bool → Type 0 = λ l. AreJustSet l picks.picks in
    let Q : ℕ → Type 0 = λ n. ArePlaces places n in
    let fits : len ≤ null_place = omega arith in
    subst P (sym same) (just_set c.loop-place.bits len places c.loop-place.place-index picks.picks c.loop-place.invariant (omega arith) (subst Q (sym c.bound-len.ensures.value) c.places-place-items.ensures.below) fits c.places-place-items.ensures.value)

pub returns-clause-each : goal.returns-clause-each
returns-clause-each c = each_set (mask_bits c.from_buffer.result) c.args.picks.now.picks (returns-clause-set c)

pub set_there-requires : goal.set_there-requires
set_there-requires c =
    let places = c.places-place-items.result.now in
    let k = c.loop-place.place-index in
    subst (IsPlace (get_or places k 0)) (sym (c.loop-place.invariant.long ∙ c.bound-len.ensures.value)) (c.places-place-items.ensures.below.each k c.loop-place-test.true)

pub returns-clause-len : goal.returns-clause-len
returns-clause-len c =
    ap length (c.from_buffer.ensures.bits ∙ ap (λ (b : PlacedBits). b.bits) c.in_ok-finish.ensures) ∙ c.loop-place.invariant.long ∙ c.bound-len.ensures.value
