-- Items that are written as a block, of which the first are wanted, or over others.
use borrow.Rule.Slice.PartMut.{put_mid}
use Rattle.std.proofs.Common.{◌≡◌, ℕ, ◌+◌, ◌-◌, ◌≤◌, List, ◌++◌, length, take, drop, sym, ap, ◌∙◌, arith}
use Rattle.std.proofs.lemmas.List.{length-append, length-take-le, take-take}
use Rattle.std.proofs.lemmas.Slice.{drop-put_mid, take-put_mid}
use Rattle.std.proofs.Math.Seq.{drop-append_seam, take-append-add}

module _ {X : Type 0} where
  -- a block was put behind a list, and cut off behind its first items
  pub block_cut : (kept all new xs : List X) (at count block : ℕ) → count ≤ block → all ≡ kept ++ take block xs → new ≡ take at all → at ≡ length kept + count → new ≡ kept ++ take count xs
  block_cut kept all new xs at count block h whole cut e =
      cut ∙ ap (take at) whole ∙ ap (λ k. take k (kept ++ take block xs)) e
      ∙ take-append-add kept (take block xs) count ∙ ap (λ l. kept ++ l) (take-take count block xs h)

  -- a block was written over a list, of which the first items are wanted
  pub block_front : (old new xs : List X) (to count : ℕ) → count ≤ 16 → to ≤ length old → take (to + 16) new ≡ take to old ++ take 16 xs → take (to + count) new ≡ take to old ++ take count xs
  block_front old new xs to count h within e =
      let front = length-take-le to old within in
      let at : to + count ≡ length (take to old) + count = omega (arith, front) in
      sym (take-take (to + count) (to + 16) new (omega arith)) ∙ ap (take (to + count)) e ∙ ap (λ k. take k (take to old ++ take 16 xs)) at
      ∙ take-append-add (take to old) (take 16 xs) count ∙ ap (λ l. take to old ++ l) (take-take count 16 xs h)

  -- so it stands there, and from `next` on the list is as it was
  pub record IsBlockPut (old new xs : List X) (to count next : ℕ) : Type 0 where
    pub front : take (to + count) new ≡ take to old ++ take count xs
    pub after : drop next new ≡ drop next old

  pub block_put : (old block xs : List X) (to count next : ℕ) → block ≡ take 16 xs → 16 ≤ length xs → count ≤ 16 → to + 16 ≤ length old → to + 16 ≤ next → IsBlockPut old (put_mid to (to + 16 - to) old block) xs to count next
  block_put old block xs to count next is enough few room past =
      let long = ap length is ∙ length-take-le 16 xs enough in
      record {
        front = block_front old _ xs to count few (omega arith) (take-put_mid to (to + 16 - to) old block (to + 16) (omega (arith, long)) (omega arith) ∙ ap (λ l. take to old ++ l) is);
        after = drop-put_mid to (to + 16 - to) old block next (omega arith) (omega arith) (omega (arith, long));
      }

  -- what stands behind items that were written over others
  pub drop_pasted : (xs ys : List X) (to n : ℕ) → to ≤ length xs → n ≤ length ys → drop (to + n) (take to xs ++ take n ys ++ drop (to + n) xs) ≡ drop (to + n) xs
  drop_pasted xs ys to n h k =
      let front = take to xs ++ take n ys in
      let at : to + n ≡ length front = omega (arith, length-append (take to xs) (take n ys), length-take-le to xs h, length-take-le n ys k) in
      ap (λ k. drop k (front ++ drop (to + n) xs)) at ∙ drop-append_seam front (drop (to + n) xs)
