use Rattle.std.proofs.Common.{◌≡◌, Bool, List, length, map, replicate, true, false, sym, ap, ap₂, ◌∙◌}
use Rattle.std.specs.List.{items_where_true}
use Rattle.vx_bits.specs.BitBuffer.{PlacedBits, true_count_of}
use Rattle.vx_mask.specs.Mask.{mask_bits}
use Rattle.vx_mask.specs.Positions.{rank_of, set_of}
use Rattle.vx_mask.specs.declared.mask.Mask.{Mask}
use Rattle.vx_mask.proofs.RankedItems.{ranked, ranked_in_all, ranked_in_none, ranked_by_all, ranked_by_none}
use Rattle.vx_mask.proofs.mask.Mask.intersect_by_rank.Goals as goal

pub returns-in-AllTrue-clause-set : goal.returns-in-AllTrue-clause-set
returns-in-AllTrue-clause-set c =
    let n = c.in-AllTrue.field-0 in
    let by = mask_bits c.args.other.now in
    let own : mask_bits c.args.self.now ≡ replicate n true = ap mask_bits c.in-AllTrue.is in
    ap (λ (m : Mask). set_of (mask_bits m)) c.share.ensures ∙ (ranked_in_all n by (c.requires ∙ ap true_count_of own)).0
    ∙ ap (λ (b : List Bool). map (rank_of b) (set_of by)) (sym own)

pub returns-in-AllTrue-clause-len : goal.returns-in-AllTrue-clause-len
returns-in-AllTrue-clause-len c =
    let n = c.in-AllTrue.field-0 in
    let by = mask_bits c.args.other.now in
    let own : mask_bits c.args.self.now ≡ replicate n true = ap mask_bits c.in-AllTrue.is in
    ap (λ (m : Mask). length (mask_bits m)) c.share.ensures ∙ (ranked_in_all n by (c.requires ∙ ap true_count_of own)).1
    ∙ ap (λ (b : List Bool). length b) (sym own)

pub returns-in-AllFalse-clause-set : goal.returns-in-AllFalse-clause-set
returns-in-AllFalse-clause-set c =
    let n = c.in-AllFalse.len in
    let by = mask_bits c.args.other.now in
    let own : mask_bits c.args.self.now ≡ replicate n false = ap mask_bits c.in-AllFalse.is in
    ranked_in_none n by (c.requires ∙ ap true_count_of own) ∙ ap (λ (b : List Bool). map (rank_of b) (set_of by)) (sym own)

pub returns-in-AllTrue-other-clause-set : goal.returns-in-AllTrue-other-clause-set
returns-in-AllTrue-other-clause-set c =
    let n = c.in-AllTrue-other.field-0 in
    let bits = mask_bits c.args.self.now in
    let by : mask_bits c.args.other.now ≡ replicate n true = ap mask_bits c.in-AllTrue-other.is in
    ap (λ (m : Mask). set_of (mask_bits m)) c.share-in-AllTrue-other.ensures
    ∙ ranked_by_all bits n (ap (λ (b : List Bool). length b) (sym by) ∙ c.requires) ∙ ap (λ (b : List Bool). map (rank_of bits) (set_of b)) (sym by)

pub returns-in-AllFalse-other-clause-set : goal.returns-in-AllFalse-other-clause-set
returns-in-AllFalse-other-clause-set c =
    let n = c.in-AllFalse-other.field-0 in
    let bits = mask_bits c.args.self.now in
    let by : mask_bits c.args.other.now ≡ replicate n false = ap mask_bits c.in-AllFalse-other.is in
    ranked_by_none bits n c.len.result ∙ ap (λ (b : List Bool). map (rank_of bits) (set_of b)) (sym by)

pub returns-in_ok-bits-in-Values-other-clause-set : goal.returns-in_ok-bits-in-Values-other-clause-set
returns-in_ok-bits-in-Values-other-clause-set c =
    let bits = mask_bits c.args.self.now in
    let by = mask_bits c.args.other.now in
    let own = ap (λ (p : PlacedBits). p.bits) c.bits.ensures ∙ ap mask_bits (sym c.in-Values.is) in
    let other = ap (λ (p : PlacedBits). p.bits) c.bits-in-Values-other.ensures ∙ ap mask_bits (sym c.in-Values-other.is) in
    ap set_of c.from_buffer.ensures.bits ∙ c.in_ok-bits-in-Values-other.ensures.set
    ∙ ap₂ (λ (a b : List Bool). items_where_true a (set_of b)) other own ∙ ranked bits by c.requires

pub returns-in_ok-bits-in-Values-other-clause-len : goal.returns-in_ok-bits-in-Values-other-clause-len
returns-in_ok-bits-in-Values-other-clause-len c =
    let own = ap (λ (p : PlacedBits). p.bits) c.bits.ensures ∙ ap mask_bits (sym c.in-Values.is) in
    ap (λ (b : List Bool). length b) c.from_buffer.ensures.bits ∙ c.in_ok-bits-in-Values-other.ensures.len ∙ ap (λ (b : List Bool). length b) own
