-- What a JSON value means as a mask: its bits, and what the mask keeps beside them.
use Rattle.std.specs.Prelude.{ℕ, List, [], ◌∷◌, replicate, Bool, if◌then◌else◌, Option, Some, None, codes}
use Rattle.serde_json.specs.Data.{Data}
use Rattle.serde_json.specs.Find.{get, as_str, as_array, as_bool}
use Rattle.vx_mask.specs.declared.mask.Mask.{Mask}
use Rattle.vx_mask.specs.MaskValues.{PartialMask, bits_alone}
use Rattle.vx_mask.specs.Mask.{mask_bits, partial_of, if_partial, at_front, mask_by_indices, mask_by_slices, indices_fault, slices_fault}
use Rattle.vx_json.specs.declared.wholes.TheConstants.{GREATEST_LEN}
use Rattle.vx_json.specs.Meaning.{◌>>=◌, unless_fault}
use Rattle.vx_json.specs.Members.{is_closed}
use Rattle.vx_json.specs.Items.{each}
use Rattle.vx_json.specs.BitText.{bits_in}
use Rattle.vx_json.specs.Wholes.{pair_of, whole_of, at_most}

-- a mask's bits, and the mask as one that selects some rows and not all, if it is
abbrev pub MaskSeen : Type 0
MaskSeen = List Bool × Option PartialMask

abbrev pub mask_seen : Mask → MaskSeen
mask_seen m = (mask_bits m, partial_of m)

-- of the mask with these bits, which keeps this beside them
abbrev pub made_of : PartialMask → MaskSeen
made_of m = (m.bits.bits, if_partial m)

-- those bits, from the front of a byte on
unfoldable pub mask_by_text : List ℕ → Option MaskSeen
mask_by_text s = do
  bits ← bits_in s
  Some (made_of (bits_alone (at_front bits)))

-- those bits, at a bit offset from 0 to 7
unfoldable pub placed_mask : Data → Option MaskSeen
placed_mask d = do
  bits ← get (codes "bits") d >>= as_str >>= bits_in
  offset ← get (codes "offset") d >>= at_most 7
  Some (made_of (bits_alone (record { bits = bits; offset = offset })))

-- the positions of the set bits
unfoldable pub mask_by_set : Data → Option MaskSeen
mask_by_set d = do
  len ← get (codes "len") d >>= at_most GREATEST_LEN
  indices ← get (codes "set") d >>= as_array >>= each whole_of
  unless_fault (indices_fault len indices) (made_of (mask_by_indices len indices))

-- runs of set bits, each from where it starts to where it ends
unfoldable pub mask_by_runs : Data → Option MaskSeen
mask_by_runs d = do
  len ← get (codes "len") d >>= at_most GREATEST_LEN
  runs ← get (codes "runs") d >>= as_array >>= each pair_of
  unless_fault (slices_fault len runs) (made_of (mask_by_slices len runs))

-- one answer for every row
unfoldable pub mask_by_every : Data → Option MaskSeen
mask_by_every d = do
  len ← get (codes "len") d >>= at_most GREATEST_LEN
  every ← get (codes "every") d >>= as_bool
  Some (replicate len every, None)

-- an object, whose members say which form it has
unfoldable pub mask_by_members : Data → Option MaskSeen
mask_by_members d =
    if is_closed (codes "bits" ∷ codes "offset" ∷ []) d then placed_mask d
    else (if is_closed (codes "len" ∷ codes "set" ∷ []) d then mask_by_set d
    else (if is_closed (codes "len" ∷ codes "runs" ∷ []) d then mask_by_runs d
    else (if is_closed (codes "len" ∷ codes "every" ∷ []) d then mask_by_every d else None)))

abbrev pub text_or : Option (List ℕ) → Option MaskSeen → Option MaskSeen
text_or None other = other
text_or (Some s) other = mask_by_text s

unfoldable pub stated_mask : Data → Option MaskSeen
stated_mask d = text_or (as_str d) (mask_by_members d)

-- its bits
unfoldable pub mask_of : Data → Option (List Bool)
mask_of d = stated_mask d >>= λ m. Some m.0

-- where its bits are stored, and what is kept beside them, if it selects some rows and not all
unfoldable pub kept_of : Data → Option (Option PartialMask)
kept_of d = stated_mask d >>= λ m. Some m.1
