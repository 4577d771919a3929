-- What a JSON value means as a policy: its numbers.
use Rattle.std.specs.Prelude.{ℕ, List, if◌then◌else◌, Option, Some, None, codes, bytes_eq}
use Rattle.serde_json.specs.Data.{Data, Items, Members, no_members, member}
use Rattle.serde_json.specs.Find.{as_str, as_array, as_object}
use Rattle.vx_mask.specs.Policy.{policy_fault, vortex_fields, ratio}
use Rattle.vx_mask.specs.declared.policy.PolicyFields.{PolicyFields}
use Rattle.vx_mask.specs.declared.policy.Ratio.{Ratio}
use Rattle.vx_json.specs.Meaning.{◌>>=◌, unless_fault}
use Rattle.vx_json.specs.Wholes.{pair_of, whole_of}

unfoldable pub ratio_of : Data → Option Ratio
ratio_of d = do
  pair ← pair_of d
  Some (ratio pair.0 pair.1)

-- these fields, with this ratio in the place of that name
unfoldable pub with_ratio : PolicyFields → List ℕ → Ratio → Option PolicyFields
with_ratio f name r =
    if bytes_eq name (codes "dense_w1") then Some (record f { dense_w1 = r })
    else if bytes_eq name (codes "dense_w2") then Some (record f { dense_w2 = r })
    else if bytes_eq name (codes "dense_w4") then Some (record f { dense_w4 = r })
    else if bytes_eq name (codes "dense_w8") then Some (record f { dense_w8 = r })
    else if bytes_eq name (codes "dense_other") then Some (record f { dense_other = r })
    else if bytes_eq name (codes "cached_indices_max")
    then Some (record f { cached_indices_max = r })
    else if bytes_eq name (codes "in_place_min") then Some (record f { in_place_min = r })
    else if bytes_eq name (codes "bool_sparse_below") then Some (record f { bool_sparse_below = r })
    else if bytes_eq name (codes "reuse_two_max") then Some (record f { reuse_two_max = r })
    else if bytes_eq name (codes "reuse_more_max") then Some (record f { reuse_more_max = r })
    else if bytes_eq name (codes "text_indices_below")
    then Some (record f { text_indices_below = r })
    else if bytes_eq name (codes "list_indices_below")
    then Some (record f { list_indices_below = r })
    else None

-- these fields, with this number in the place of that name, of lists and takes
unfoldable pub with_size : PolicyFields → List ℕ → ℕ → Option PolicyFields
with_size f name n =
    if bytes_eq name (codes "crop_min") then Some (record f { crop_min = n })
    else if bytes_eq name (codes "crop_factor") then Some (record f { crop_factor = n })
    else if bytes_eq name (codes "cached_list_size") then Some (record f { cached_list_size = n })
    else if bytes_eq name (codes "big_filtered_len") then Some (record f { big_filtered_len = n })
    else if bytes_eq name (codes "big_take_len") then Some (record f { big_take_len = n })
    else if bytes_eq name (codes "big_take_ratio") then Some (record f { big_take_ratio = n })
    else None

-- these fields, with this number in the place of that name
unfoldable pub with_number : PolicyFields → List ℕ → ℕ → Option PolicyFields
with_number f name n =
    if bytes_eq name (codes "min_average_run") then Some (record f { min_average_run = n })
    else if bytes_eq name (codes "min_run_bytes") then Some (record f { min_run_bytes = n })
    else if bytes_eq name (codes "sparse_w1") then Some (record f { sparse_w1 = n })
    else if bytes_eq name (codes "sparse_w2") then Some (record f { sparse_w2 = n })
    else if bytes_eq name (codes "sparse_w4") then Some (record f { sparse_w4 = n })
    else if bytes_eq name (codes "sparse_other") then Some (record f { sparse_other = n })
    else if bytes_eq name (codes "rank_lookup_divisor")
    then Some (record f { rank_lookup_divisor = n })
    else if bytes_eq name (codes "rank_lookup_cap") then Some (record f { rank_lookup_cap = n })
    else with_size f name n

-- these fields, with what a member says, by the kind of its value: a list is a ratio
abbrev pub with_value : PolicyFields → List ℕ → Data → Option Items → Option PolicyFields
with_value f name d (Some pair) = ratio_of d >>= with_ratio f name
with_value f name d None = whole_of d >>= with_number f name

unfoldable pub with_member : PolicyFields → List ℕ → Data → Option PolicyFields
with_member f name d = with_value f name d (as_array d)

-- with what each member says
abbrev pub with_members : PolicyFields → Members → Option PolicyFields
with_members f no_members = Some f
with_members f (member name d ms) = with_member f name d >>= λ g. with_members g ms

-- an object of some of the fields, over the usual ones
unfoldable pub policy_by_members : Data → Option PolicyFields
policy_by_members d = do
  members ← as_object d
  fields ← with_members vortex_fields members
  unless_fault (policy_fault fields) fields

abbrev pub policy_named : List ℕ → Option PolicyFields
policy_named s = if bytes_eq s (codes "vortex") then Some vortex_fields else None

abbrev pub named_or : Option (List ℕ) → Option PolicyFields → Option PolicyFields
named_or None other = other
named_or (Some s) other = policy_named s

-- `"vortex"`, or an object
unfoldable pub policy_of : Data → Option PolicyFields
policy_of d = named_or (as_str d) (policy_by_members d)
