-- What errors say.
use Rattle.std.specs.Prelude.{ℕ, List, codes}
use Rattle.vx_mask.specs.declared.error.MaskError.{MaskError}
use Rattle.vx_mask.specs.declared.error.MaskError.TheVariants as mask_errors
use Rattle.vx_mask.specs.declared.policy.PolicyError.{PolicyError}
use Rattle.vx_mask.specs.declared.policy.PolicyError.TheVariants as policy_errors

abbrev pub mask_error_text : MaskError → List ℕ
mask_error_text mask_errors.Count = codes "the true count is not the number of set bits"
mask_error_text mask_errors.NotSelective = codes "no bit is set, or all are"
mask_error_text mask_errors.Indices =
    codes "indices are not the positions of the set bits, ascending"
mask_error_text mask_errors.Slices = codes "runs are not the runs of set bits, ascending"
mask_error_text mask_errors.NoMemory = codes "out of memory"

abbrev pub policy_error_text : PolicyError → List ℕ
policy_error_text policy_errors.ZeroDivisor = codes "a number that is divided by is 0"
policy_error_text policy_errors.ZeroLookupCap = codes "rank_lookup_cap is 0"
policy_error_text policy_errors.SparseLimit = codes "a sparse limit is above 160"
