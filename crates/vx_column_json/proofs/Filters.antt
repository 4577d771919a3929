-- The column of a filter goes by the bits of its mask alone, and what the mask keeps beside them.
use Rattle.std.proofs.Common.{◌≡◌, ◌≤◌, ◌<◌, ◌/◌, true, false, length, Option, Some, None, refl, ap, subst, sym, ◌∙◌, arith}
use Rattle.std.proofs.lemmas.Bool.Decides.{nat_tests}
use Rattle.std.specs.Prelude.{nat_le, IfOk, Result, Ok, Err}
use Rattle.std.specs.Option.{option_map}
use Rattle.std.specs.Result.{result_ok}
use Rattle.vx_bits.specs.BitBuffer.{true_count_of}
use Rattle.vx_bits.specs.Results.{ok_unless}
use Rattle.vx_bits.specs.declared.error.NoMemory.{NoMemory}
use Rattle.vx_mask.specs.Mask.{map_partial, mask_bits, partial_of}
use Rattle.vx_mask.specs.MaskValues.{keep_blocks, keep_indices}
use Rattle.vx_mask.specs.declared.mask.Mask.{Mask}
use Rattle.vx_mask.specs.declared.mask.Mask.TheVariants.{AllTrue, AllFalse, Values}
use Rattle.vx_types.specs.declared.error.ColumnError.{ColumnError}
use Rattle.vx_model.specs.Column.{Column}
use Rattle.vx_model.specs.Filter.{FilterParts, filter_column, filter_fault}
use Rattle.vx_json.specs.Meaning.{◌>>=◌, Gives}
use Rattle.vx_json.specs.declared.error.DocError.{DocError}
use Rattle.vx_column_json.specs.Filter.{filter_made, filter_parts, with_ranks}
use Rattle.vx_column_json.specs.Made.{made}
use Rattle.vx_column_json.proofs.Refusals.{gives_made}

-- parts that make the same column, under the same fault
alike : {P C : Type 0} (of : P → C) (p q : P) → of p ≡ of q → (o : Option ColumnError) → (result_ok (ok_unless o p) >>= λ sound. Some (of sound)) ≡ (result_ok (ok_unless o q) >>= λ sound. Some (of sound))
alike of p q same None = ap Some same
alike of p q same (Some e) = refl

made-bits : (child : Column) (mask : Mask) → made filter_fault filter_column (record { child = child; mask = mask }) ≡ filter_made child (mask_bits mask)
unfolding made
made-bits child mask =
    let p : FilterParts = record { child = child; mask = mask } in
    alike filter_column p (filter_parts child (mask_bits mask)) refl (filter_fault p)

-- by the answer of the constructor, which was given that child
module _ (child given : Column) (mask : Mask) (r : Result FilterParts DocError) (same : given ≡ child) where
  abbrev parts : Column → FilterParts
  parts c = record { child = c; mask = mask }

  abbrev Answers : Column → Type 0
  Answers c = Gives (λ (p : FilterParts). p) r (result_ok (ok_unless (filter_fault (parts c)) (parts c)))

  pub gives_filter : Answers given → Gives filter_column r (filter_made child (mask_bits mask))
  gives_filter h =
      subst (Gives filter_column r) (made-bits child mask) (gives_made filter_fault filter_column (parts child) r (subst Answers same h))

handed : (o : Option ColumnError) (p : FilterParts) (r : Result FilterParts DocError) → Gives (λ (q : FilterParts). q) r (result_ok (ok_unless o p)) → IfOk r (λ a. a.mask ≡ p.mask)
handed None p (Ok a) is = let same : p ≡ a = cc in ap (λ (q : FilterParts). q.mask) (sym same)
handed (Some e) p (Ok a) is = absurd cc
handed o p (Err e) is = tt

pub same_mask : (p : FilterParts) (r : Result FilterParts DocError) → Gives (λ (q : FilterParts). q) r (result_ok (ok_unless (filter_fault p) p)) → IfOk r (λ a. a.mask ≡ p.mask)
same_mask p r is = handed (filter_fault p) p r is

-- ---- what is kept

-- by the test of how many are
pub keeps_indices : (m : Mask) → true_count_of (mask_bits m) ≤ length (mask_bits m) / 64 → partial_of (map_partial keep_indices m) ≡ option_map with_ranks (partial_of m)
keeps_indices (AllTrue n) h = refl
keeps_indices (AllFalse n) h = refl
keeps_indices (Values p) h =
    let few : nat_le (true_count_of p.bits.bits) (length p.bits.bits / 64) ≡ true = grind (arith, nat_tests) in
    rw few refl

pub keeps_blocks : (m : Mask) → length (mask_bits m) / 64 < true_count_of (mask_bits m) → partial_of (map_partial keep_blocks m) ≡ option_map with_ranks (partial_of m)
keeps_blocks (AllTrue n) h = refl
keeps_blocks (AllFalse n) h = refl
keeps_blocks (Values p) h =
    let many : nat_le (true_count_of p.bits.bits) (length p.bits.bits / 64) ≡ false = grind (arith, nat_tests) in
    rw many refl

-- what is known of a mask is known of one that is the same
module _ (r : Result Mask NoMemory) (m : Mask) (more : Mask → Mask) where
  pub kept_by : IfOk r (λ x. x ≡ more m) → partial_of (more m) ≡ option_map with_ranks (partial_of m) → IfOk r (λ x. partial_of x ≡ option_map with_ranks (partial_of m))
  kept_by h is = by_result r h
    where
      by_result : (q : Result Mask NoMemory) → IfOk q (λ x. x ≡ more m) → IfOk q (λ x. partial_of x ≡ option_map with_ranks (partial_of m))
      by_result (Ok x) same = ap partial_of same ∙ is
      by_result (Err e) same = tt
