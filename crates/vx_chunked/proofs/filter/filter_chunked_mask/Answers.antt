use Rattle.std.proofs.Common.{◌≡◌, ◌+◌, ◌≤◌, true, ℕ, List, Option, Some, IfOk, length, map, subst, sym, ap, ap₂, ◌∙◌, arith}
use Rattle.std.specs.Prelude.{slice_get, false}
use Rattle.std.specs.List.{range_with_len}
use Rattle.std.proofs.lemmas.List.{length-replicate}
use Rattle.vx_bits.specs.WordReader.{then_told}
use Rattle.vx_mask.specs.declared.mask.Mask.{Mask}
use Rattle.vx_mask.specs.declared.mask.Mask.TheVariants.{AllTrue, AllFalse}
use Rattle.vx_mask.specs.Mask.{mask_bits}
use Rattle.vx_mask.specs.Positions.{set_of}
use Rattle.vx_mask.proofs.PositionLists.{positions_false, positions_true}
use Rattle.vx_chunked.specs.Asked.{asked, chunks_touched}
use Rattle.vx_decoder.specs.declared.call.Call.{Call}
use Rattle.vx_chunked.proofs.Handed.{on_ok_same}
use Rattle.vx_chunked.proofs.filter.filter_chunked_mask.Goals as goal

module _ (mask : Mask) (len : ℕ) where
  none : mask ≡ AllFalse len → range_with_len 0 0 ≡ set_of (mask_bits mask)
  none is = sym (ap (λ m. set_of (mask_bits m)) is ∙ positions_false 0 len)

  none_len : mask ≡ AllFalse len → len ≡ length (mask_bits mask)
  none_len is = sym (ap (λ m. length (mask_bits m)) is ∙ length-replicate len false)

  all : mask ≡ AllTrue len → range_with_len 0 len ≡ set_of (mask_bits mask)
  all is = sym (ap (λ m. set_of (mask_bits m)) is ∙ positions_true 0 len)

  all_len : mask ≡ AllTrue len → len ≡ length (mask_bits mask)
  all_len is = sym (ap (λ m. length (mask_bits m)) is ∙ length-replicate len true)

-- the calls that the same positions ask for
told : (old : Option (List Call)) (offset limit : ℕ) (xs ys : List ℕ) (n m : ℕ) → xs ≡ ys → n ≡ m → then_told old (asked offset xs limit (chunks_touched offset n)) ≡ then_told old (asked offset ys limit (chunks_touched offset m))
told old offset limit xs ys n m set len = ap₂ (λ l k. then_told old (asked offset l limit (chunks_touched offset k))) set len

pub returns-in-AllFalse-clause-value : goal.returns-in-AllFalse-clause-value
returns-in-AllFalse-clause-value g c =
    subst (λ (l : List ℕ). IfOk c.filter_front.result (λ kept. map Some kept.items ≡ map (λ p. slice_get (g.D.ChunkDecoder.values c.args.decoder.now) (c.args.offset + p)) l))
    (none c.args.mask.now _ c.in-AllFalse.is) c.filter_front.ensures.value

pub returns-in-AllFalse-clause-told : goal.returns-in-AllFalse-clause-told
returns-in-AllFalse-clause-told g c = on_ok_same c.filter_front.result _ _ _ c.filter_front.ensures.told (told _ _ _ _ _ _ _ (none c.args.mask.now _ c.in-AllFalse.is) (none_len c.args.mask.now _ c.in-AllFalse.is))

pub returns-in-AllTrue-clause-value : goal.returns-in-AllTrue-clause-value
returns-in-AllTrue-clause-value g c =
    subst (λ (l : List ℕ). IfOk c.filter_front-in-AllTrue.result (λ kept. map Some kept.items ≡ map (λ p. slice_get (g.D.ChunkDecoder.values c.args.decoder.now) (c.args.offset + p)) l))
    (all c.args.mask.now _ c.in-AllTrue.is) c.filter_front-in-AllTrue.ensures.value

pub returns-in-AllTrue-clause-told : goal.returns-in-AllTrue-clause-told
returns-in-AllTrue-clause-told g c = on_ok_same c.filter_front-in-AllTrue.result _ _ _ c.filter_front-in-AllTrue.ensures.told (told _ _ _ _ _ _ _ (all c.args.mask.now _ c.in-AllTrue.is) (all_len c.args.mask.now _ c.in-AllTrue.is))

pub filter_chunked-requires-clause-within : goal.filter_chunked-requires-clause-within
filter_chunked-requires-clause-within g c =
    subst (λ (m : Mask). c.args.offset + length (mask_bits m) ≤ length (g.D.ChunkDecoder.values c.args.decoder.now)) c.in-Values.is c.requires.within

pub filter_chunked-requires-clause-spare : goal.filter_chunked-requires-clause-spare
filter_chunked-requires-clause-spare g c =
    subst (λ (m : Mask). chunks_touched c.args.offset (length (mask_bits m)) ≤ g.D.ChunkDecoder.spare c.args.decoder.now) c.in-Values.is c.requires.spare

pub filter_front-requires-clause-within : goal.filter_front-requires-clause-within
filter_front-requires-clause-within g c = omega (arith, none_len c.args.mask.now _ c.in-AllFalse.is, c.requires.within)

pub filter_front-requires-clause-spare : goal.filter_front-requires-clause-spare
filter_front-requires-clause-spare g c = omega (arith, ap (chunks_touched c.args.offset) (none_len c.args.mask.now _ c.in-AllFalse.is), c.requires.spare)

pub returns-in-AllFalse-clause-cost : goal.returns-in-AllFalse-clause-cost
returns-in-AllFalse-clause-cost g c = omega (arith, ap (chunks_touched c.args.offset) (none_len c.args.mask.now _ c.in-AllFalse.is), c.filter_front.ensures.cost)

pub filter_front-requires-in-AllTrue-clause-within : goal.filter_front-requires-in-AllTrue-clause-within
filter_front-requires-in-AllTrue-clause-within g c = omega (arith, all_len c.args.mask.now _ c.in-AllTrue.is, c.requires.within)

pub filter_front-requires-in-AllTrue-clause-spare : goal.filter_front-requires-in-AllTrue-clause-spare
filter_front-requires-in-AllTrue-clause-spare g c = omega (arith, ap (chunks_touched c.args.offset) (all_len c.args.mask.now _ c.in-AllTrue.is), c.requires.spare)

pub returns-in-AllTrue-clause-cost : goal.returns-in-AllTrue-clause-cost
returns-in-AllTrue-clause-cost g c = omega (arith, ap (chunks_touched c.args.offset) (all_len c.args.mask.now _ c.in-AllTrue.is), c.filter_front-in-AllTrue.ensures.cost)
