-- The numbers of a policy, and which of them are none.
use Rattle.std.specs.Prelude.{ℕ, Bool, List, [], ◌∷◌, ◌==◌, nat_lt, Option, None, Some, if◌then◌else◌}
use Rattle.std.specs.List.{list_any}
use Rattle.vx_mask.specs.declared.policy.Ratio.{Ratio}
use Rattle.vx_mask.specs.declared.policy.PolicyFields.{PolicyFields}
use Rattle.vx_mask.specs.declared.policy.PolicyError.{PolicyError}
use Rattle.vx_mask.specs.declared.policy.PolicyError.TheVariants.{ZeroDivisor, ZeroLookupCap, SparseLimit}

-- the numbers that are divided by
abbrev pub divisors_of : PolicyFields → List ℕ
divisors_of f =
    f.dense_w1.den ∷
    f.dense_w2.den ∷
    f.dense_w4.den ∷
    f.dense_w8.den ∷
    f.dense_other.den ∷
    f.cached_indices_max.den ∷
    f.in_place_min.den ∷
    f.bool_sparse_below.den ∷
    f.reuse_two_max.den ∷
    f.reuse_more_max.den ∷
    f.text_indices_below.den ∷
    f.list_indices_below.den ∷
    f.rank_lookup_divisor ∷
    f.min_run_bytes ∷ []

-- whether a number that is divided by is 0
abbrev pub has_zero_divisor : PolicyFields → Bool
has_zero_divisor f = list_any (λ n. n == 0) (divisors_of f)

-- whether one of the four sparse limits is above 160
abbrev pub has_wide_sparse_limit : PolicyFields → Bool
has_wide_sparse_limit f =
    list_any (nat_lt 160) (f.sparse_w1 ∷ f.sparse_w2 ∷ f.sparse_w4 ∷ f.sparse_other ∷ [])

-- why the fields are no policy, if they are none
abbrev pub policy_fault : PolicyFields → Option PolicyError
policy_fault f =
    if has_zero_divisor f then Some ZeroDivisor
    else if f.rank_lookup_cap == 0 then Some ZeroLookupCap
    else if has_wide_sparse_limit f then Some SparseLimit
    else None

-- the sparse limit of records of that many bytes
abbrev pub sparse_limit_of : PolicyFields → ℕ → ℕ
sparse_limit_of f width =
    if width == 1 then f.sparse_w1
    else if width == 2 then f.sparse_w2
    else if width == 4 then f.sparse_w4
    else f.sparse_other

-- the ratio num / den
abbrev pub ratio : ℕ → ℕ → Ratio
ratio num den = record { num = num; den = den }

-- the numbers of Vortex
abbrev pub vortex_fields : PolicyFields
vortex_fields =
    record {
      dense_w1 = ratio 0 1;
      dense_w2 = ratio 1 2;
      dense_w4 = ratio 1 2;
      dense_w8 = ratio 3 4;
      dense_other = ratio 7 8;
      cached_indices_max = ratio 1 2;
      in_place_min = ratio 1 2;
      min_average_run = 8;
      min_run_bytes = 96;
      bool_sparse_below = ratio 1 20;
      sparse_w1 = 16;
      sparse_w2 = 32;
      sparse_w4 = 64;
      sparse_other = 160;
      rank_lookup_divisor = 80;
      rank_lookup_cap = 256;
      reuse_two_max = ratio 1 20;
      reuse_more_max = ratio 1 10;
      text_indices_below = ratio 1 2;
      list_indices_below = ratio 1 20;
      crop_min = 1024;
      crop_factor = 20;
      cached_list_size = 8;
      big_filtered_len = 4096;
      big_take_len = 25000;
      big_take_ratio = 10;
    }
