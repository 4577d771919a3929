-- What a record of offsets spells.
use Rattle.std.proofs.Common.{◌≡◌, ℕ, zero, suc, ◌+◌, ◌-◌, ◌<◌, ◌≤◌, true, List, length, get_or, subst, ◌∙◌, arith}
use Rattle.std.specs.Prelude.{ℤ, pos}
use Rattle.vx_types.specs.PType.{number}
use Rattle.vx_types.specs.declared.ptype.PType.{PType}
use Rattle.vx_offsets.specs.Offsets.{are_offsets, offset_positions, record_numbers}
use Rattle.vx_offsets.proofs.Ascending.{length-numbers, offset_ascends, offset_value, offset_within, record_number}

pub offset_read : (p : PType) (records : List (List ℕ)) (i n : ℕ) (d : List ℕ) → are_offsets (record_numbers p records) n ≡ true → i < length records → pos (get_or (offset_positions (record_numbers p records)) i 0) ≡ number p (get_or records i d)
offset_read p records i n d h l =
    offset_value n (record_numbers p records) i h (omega (arith, l, length-numbers p records)) ∙ record_number p records i d l

pub read_within : (p : PType) (records : List (List ℕ)) (i n : ℕ) → are_offsets (record_numbers p records) n ≡ true → i < length records → get_or (offset_positions (record_numbers p records)) i 0 ≤ n
read_within p records i n h l =
    offset_within n (record_numbers p records) i h (omega (arith, l, length-numbers p records))

pub read_ascends : (p : PType) (records : List (List ℕ)) (i n : ℕ) → are_offsets (record_numbers p records) n ≡ true → i + 1 < length records → get_or (offset_positions (record_numbers p records)) i 0 ≤ get_or (offset_positions (record_numbers p records)) (i + 1) 0
read_ascends p records i n h l =
    offset_ascends n (record_numbers p records) i h (omega (arith, l, length-numbers p records))

pub ruleset read_offset = (offset_read, read_within)

-- no offset is below one before it
pub climb : (n : ℕ) (zs : List ℤ) → are_offsets zs n ≡ true → (d i j : ℕ) → i + d ≡ j → j < length zs → get_or (offset_positions zs) i 0 ≤ get_or (offset_positions zs) j 0
climb n zs are zero i j h l =
    let same : i ≡ j = omega (arith, h) in
    subst (λ k. get_or (offset_positions zs) i 0 ≤ get_or (offset_positions zs) k 0) same (omega arith)
climb n zs are (suc d) i j h l =
    let step = offset_ascends n zs i are (omega (arith, h, l)) in
    let more = climb n zs are d (i + 1) j (omega (arith, h)) l in
    omega (arith, step, more)

pub run_ordered : (p : PType) (records : List (List ℕ)) (n s e : ℕ) → are_offsets (record_numbers p records) n ≡ true → s ≤ e → e < length records → get_or (offset_positions (record_numbers p records)) s 0 ≤ get_or (offset_positions (record_numbers p records)) e 0
run_ordered p records n s e h o l =
    climb n (record_numbers p records) h (e - s) s e (omega (arith, o)) (omega (arith, l, length-numbers p records))
