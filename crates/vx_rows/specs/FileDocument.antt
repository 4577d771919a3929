-- What a JSON value means as a document of a file.
use Rattle.std.specs.Prelude.{ℕ, ◌/◌, List, [], ◌∷◌, length, nat_le, if◌then◌else◌, Option, Some}
use Rattle.std.specs.Prelude.{None, codes}
use Rattle.std.specs.Result.{result_ok}
use Rattle.serde_json.specs.Data.{Data}
use Rattle.serde_json.specs.Find.{get, as_array, as_str}
use Rattle.hex.specs.Hex.{decode_of}
use Rattle.vx_mask.specs.Policy.{vortex_fields}
use Rattle.vx_mask.specs.declared.policy.PolicyFields.{PolicyFields}
use Rattle.vx_steps.specs.Step.{StepValue}
use Rattle.vx_json.specs.Items.{each}
use Rattle.vx_json.specs.Meaning.{◌>>=◌, found_or}
use Rattle.vx_json.specs.Members.{is_closed}
use Rattle.vx_document.specs.Policies.{policy_of}
use Rattle.vx_document.specs.Steps.{steps_of}

-- the blocks of a file, steps over its rows, and a policy
pub record FileValue : Type 0 where
  pub blocks : List (List ℕ)
  pub steps : List StepValue
  pub policy : PolicyFields

-- the bytes that hexadecimal digits spell, two digits a byte, and at most 8201 bytes
unfoldable pub bytes_in : List ℕ → Option (List ℕ)
bytes_in text = if nat_le (length text / 2) 8201 then result_ok (decode_of text) else None

unfoldable pub block_of : Data → Option (List ℕ)
block_of d = as_str d >>= bytes_in

unfoldable pub file_by : Data → Option FileValue
file_by d = do
  blocks ← get (codes "file") d >>= as_array >>= each block_of
  steps ← get (codes "steps") d >>= steps_of
  policy ← found_or vortex_fields policy_of (get (codes "policy") d)
  Some (record { blocks = blocks; steps = steps; policy = policy })

-- an object of blocks and steps, and perhaps a policy
unfoldable pub file_document_of : Data → Option FileValue
file_document_of d =
    if is_closed (codes "file" ∷ codes "steps" ∷ codes "policy" ∷ []) d then file_by d else None
