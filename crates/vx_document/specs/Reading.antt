-- What a JSON value means as a document.
use Rattle.std.specs.Prelude.{List, [], ◌∷◌, if◌then◌else◌, Option, Some, None, codes}
use Rattle.serde_json.specs.Data.{Data}
use Rattle.serde_json.specs.Find.{get}
use Rattle.vx_mask.specs.MaskValues.{PartialMask}
use Rattle.vx_mask.specs.Policy.{vortex_fields}
use Rattle.vx_json.specs.Meaning.{◌>>=◌, found_or}
use Rattle.vx_json.specs.Members.{is_closed}
use Rattle.vx_document.specs.Policies.{policy_of}
use Rattle.vx_document.specs.Columns.{column_of}
use Rattle.vx_document.specs.Chunks.{chunks_of}
use Rattle.vx_document.specs.Steps.{kept_of_steps, steps_of}
use Rattle.vx_document.specs.Documents.{DocumentValue, SourceValue, column_source}

-- a column, or else chunks
unfoldable pub source_of : Data → Option SourceValue
source_of d =
    if is_closed (codes "column" ∷ codes "steps" ∷ codes "policy" ∷ []) d
    then (get (codes "column") d >>= column_of >>= λ c. Some (column_source c))
    else if is_closed (codes "chunks" ∷ codes "steps" ∷ codes "policy" ∷ []) d
    then get (codes "chunks") d >>= chunks_of
    else None

-- an object of a column or chunks and steps, and perhaps a policy
unfoldable pub document_of : Data → Option DocumentValue
document_of d = do
  source ← source_of d
  steps ← get (codes "steps") d >>= steps_of
  policy ← found_or vortex_fields policy_of (get (codes "policy") d)
  Some (record { source = source; steps = steps; policy = policy })

-- for each of its steps what the mask of a filter keeps beside its bits
unfoldable pub masks_of : Data → Option (List (Option PartialMask))
masks_of d = get (codes "steps") d >>= kept_of_steps
