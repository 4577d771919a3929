-- Masks that select some rows and not all.
use Rattle.std.specs.Prelude.{◌≡◌, ℕ, ◌<◌, ◌==◌, ◌&&◌, ◌||◌, Bool, true, not, nat_lt, List, Option, None, Some, IfSome, length, if◌then◌else◌, unwrap_or}
use Rattle.std.specs.List.{All, list_all}
use Rattle.vx_bits.specs.BitBuffer.{PlacedBits, true_count_of}
use Rattle.vx_mask.specs.declared.error.MaskError.{MaskError}
use Rattle.vx_mask.specs.declared.error.MaskError.TheVariants.{Count, NotSelective, Indices, Slices}
use Rattle.vx_mask.specs.Positions.{set_of, run_positions, maximal_runs, same_numbers}
use Rattle.vx_mask.specs.Ranks.{blocks_of}

-- what a clause sees of a `MaskValues`: its bits, and what it keeps beside them
pub record PartialMask : Type 0 where
  pub bits : PlacedBits
  pub indices : Option (List ℕ)
  pub slices : Option (List (ℕ × ℕ))
  pub blocks : Option (List ℕ)

-- a mask that keeps nothing beside its bits
abbrev pub bits_alone : PlacedBits → PartialMask
bits_alone bits = record { bits = bits; indices = None; slices = None; blocks = None }

-- at least one run, none of them empty, that cover just the set positions in their order
pub record AreSlicesOf (mask : PartialMask) (slices : List (ℕ × ℕ)) : Type 0 where
  pub some : 0 < length slices
  pub none_empty : All (λ run. run.0 < run.1) slices
  pub cover : run_positions slices ≡ set_of mask.bits.bits

-- for each multiple of 512 up to the length, the number of set bits before it
abbrev pub block_counts : PartialMask → List ℕ
block_counts mask = blocks_of mask.bits.bits

-- some bits are set and not all, they are so many, and what is kept agrees with them
pub record IsPartial (mask : PartialMask) (true_count : ℕ) : Type 0 where
  pub counted : true_count ≡ true_count_of mask.bits.bits
  pub some : 0 < true_count
  pub not_all : true_count < length mask.bits.bits
  pub indices_agree : IfSome mask.indices (λ indices. indices ≡ set_of mask.bits.bits)
  pub slices_agree : IfSome mask.slices (λ slices. AreSlicesOf mask slices)
  pub blocks_agree : IfSome mask.blocks (λ blocks. blocks ≡ block_counts mask)

-- whether numbers are just the set positions, ascending
abbrev pub are_set_positions : List Bool → List ℕ → Bool
are_set_positions bits indices = same_numbers indices (set_of bits)

-- whether no run is empty, and they cover just the set positions in their order
abbrev pub are_set_runs : List Bool → List (ℕ × ℕ) → Bool
are_set_runs bits slices =
    list_all (λ run. nat_lt run.0 run.1) slices && same_numbers (run_positions slices) (set_of bits)

-- whether what is there passes a test
abbrev pub passes : {X : Type 0} → (X → Bool) → Option X → Bool
passes test None = true
passes test (Some x) = test x

-- why the parts are no mask that selects some rows and not all, if they are none
abbrev pub parts_fault : List Bool → ℕ → Option (List ℕ) → Option (List (ℕ × ℕ)) → Option MaskError
parts_fault bits true_count indices slices =
    if not (true_count == true_count_of bits) then Some Count
    else if (true_count == 0) || (true_count == length bits) then Some NotSelective
    else if not (passes (are_set_positions bits) indices) then Some Indices
    else if not (passes (are_set_runs bits) slices) then Some Slices
    else None

-- the mask with its set positions beside it
abbrev pub keep_indices : PartialMask → PartialMask
keep_indices mask = record mask { indices = Some (set_of mask.bits.bits) }

-- the mask with slices beside it: those that it has, or else its maximal runs
abbrev pub keep_slices : PartialMask → PartialMask
keep_slices mask =
    record mask { slices = Some (unwrap_or mask.slices (maximal_runs mask.bits.bits)) }

-- the mask with its block counts beside it
abbrev pub keep_blocks : PartialMask → PartialMask
keep_blocks mask = record mask { blocks = Some (block_counts mask) }
