-- The numbers of a column of indices name the picks that it was made of.
use Rattle.std.proofs.Common.{◌≡◌, ℕ, zero, suc, ◌<◌, ◌^◌, true, List, [], ◌∷◌, length, map, Option, Some, None, refl, ap, ap₂, ◌∙◌, arith}
use Rattle.std.specs.Prelude.{ℤ, is_some, pos, replicate}
use Rattle.std.specs.Int.{w64, from_le_bytes, to_le_bytes}
use Rattle.std.proofs.lemmas.Bool.Decides.{nat_tests}
use Rattle.std.proofs.lemmas.List.{length-map}
use Rattle.std.proofs.lemmas.Nat.{from_le_bytes-to_le_bytes_8}
use Rattle.vx_types.specs.declared.nullability.Nullability.{Nullability}
use Rattle.vx_types.specs.declared.ptype.PType.TheVariants.{U64}
use Rattle.vx_types.specs.RowValue.{RowValue, bytes}
use Rattle.vx_types.specs.TypeTree.{TypeTree, primitive_kind, primitive_type, is_int_type}
use Rattle.vx_take.specs.Picks.{AreBelow}
use Rattle.vx_positions.specs.Positions.{AllThere, first_bad, is_position, positions_of}
use Rattle.vx_model.specs.Column.{Column}
use Rattle.vx_model.specs.Numbers.{number_in, numbers_of}
use Rattle.vx_model.specs.Valid.{Valid, present_bits, shown_rows, stored_rows}
use Rattle.vx_pieces.specs.Indices.{column_fault}
use Rattle.vx_pieces.proofs.IndexLists.{no_column_fault}
use Rattle.vx_select.specs.IndexRecords.{index_record}

-- where no pick is a null, each is there
pub all_there : (picks : List (Option ℕ)) → AllThere picks → replicate (length picks) true ≡ map is_some picks
all_there [] h = refl
all_there (None ∷ picks) h = cc
all_there (Some p ∷ picks) h = ap (λ l. true ∷ l) (all_there picks h)

-- the rows that hold the picks
abbrev pick_rows : List (Option ℕ) → List RowValue
pick_rows picks = shown_rows (map is_some picks) (map bytes (map index_record picks))

behind : (x : Option ℕ) (picks : List (Option ℕ)) (n : ℕ) → AreBelow (x ∷ picks) n → AreBelow picks n
behind x picks n h = λ k d l. h (suc k) d (omega arith)

module _ (m : Nullability) (n : ℕ) (small : n < 2 ^ 64) where
  abbrev numbers : List (Option ℕ) → List (Option ℤ)
  numbers picks = map (number_in (primitive_kind U64)) (pick_rows picks)

  -- the number of a position below n
  spelt : (p : ℕ) → p < n → from_le_bytes w64 (to_le_bytes w64 p) ≡ p
  spelt p h = from_le_bytes-to_le_bytes_8 p (omega arith)

  positions : (picks : List (Option ℕ)) → AreBelow picks n → positions_of (numbers picks) ≡ picks
  positions [] below = refl
  positions (None ∷ picks) below = ap (λ l. None ∷ l) (positions picks (behind None picks n below))
  positions (Some p ∷ picks) below =
      ap₂ (λ (q : ℕ) l. Some q ∷ l) (spelt p (below zero None (omega arith))) (positions picks (behind (Some p) picks n below))

  here : (p : ℕ) → p < n → is_position n (pos (from_le_bytes w64 (to_le_bytes w64 p))) ≡ true
  here p h = ap (λ q. is_position n (pos q)) (spelt p h) ∙ grind (arith, nat_tests)

  sound : (picks : List (Option ℕ)) → AreBelow picks n → first_bad n (numbers picks) ≡ None
  sound [] below = refl
  sound (None ∷ picks) below = sound picks (behind None picks n below)
  sound (Some p ∷ picks) below = rw (here p (below zero None (omega arith))) (sound picks (behind (Some p) picks n below))

-- a column of the records of picks
module _ (c : Column) (v : Valid) (m : Nullability) (n : ℕ) (small : n < 2 ^ 64) (records : List (List ℕ)) (picks : List (Option ℕ)) (below : AreBelow picks n) (rows : c.rows ≡ stored_rows v (map bytes records)) (typed : c.dtype ≡ primitive_type U64 m) (same : records ≡ map index_record picks) (present : present_bits v (length picks) ≡ map is_some picks) where
  are : c.rows ≡ pick_rows picks
  are =
      let items = map bytes (map index_record picks) in
      let long : length items ≡ length picks = length-map (map index_record picks) bytes ∙ length-map picks index_record in
      rows ∙ ap (λ r. stored_rows v (map bytes r)) same
      ∙ ap (λ k. shown_rows (present_bits v k) items) long ∙ ap (λ b. shown_rows b items) present

  numbers_are : numbers_of c ≡ numbers m n small picks
  numbers_are = ap₂ (λ (t : TypeTree) r. map (number_in t.kind) r) typed are

  pub picks_named : positions_of (numbers_of c) ≡ picks
  picks_named = ap positions_of numbers_are ∙ positions m n small picks below

  pub no_index_fault : column_fault c n ≡ None
  no_index_fault = no_column_fault c n (ap is_int_type typed) (ap (first_bad n) numbers_are ∙ sound m n small picks below)
