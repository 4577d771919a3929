-- What a cursor over positions is given, and what its filter then says.
use Rattle.std.proofs.Common.{◌≡◌, ◌≤◌, refl, true, ℕ, zero, suc, ◌+◌, cond, List, [], ◌∷◌, length, map, Option, Result, Ok, Err, OnOk, sym, ap, subst, ◌∙◌, arith, ne_eqb}
use Rattle.std.specs.Prelude.{slice_get, Bool, false}
use Rattle.std.proofs.lemmas.List.{length-map}
use Rattle.std.proofs.lemmas.Simd.{map-map}
use Rattle.vx_bits.specs.WordReader.{then_told}
use Rattle.vx_mask.specs.Positions.{positions, set_of}
use Rattle.vx_decoder.specs.declared.call.Call.{Call}
use Rattle.vx_chunked.specs.Asked.{asked, calls_from, chunks_for, end_of, chunks_touched}
use Rattle.vx_chunked.specs.Positions.{AscendFrom, positions_from}
use Rattle.vx_chunked.proofs.Ascends.{ascend_lower}

pub positions_ascend : (low high at : ℕ) (bits : List Bool) → low ≤ at → at + length bits ≤ high → AscendFrom low high (positions at bits)
positions_ascend low high at [] p q = tt
positions_ascend low high at (true ∷ bits) p q = (p, omega arith, positions_ascend (at + 1) high (at + 1) bits (omega arith) (omega arith))
positions_ascend low high at (false ∷ bits) p q = positions_ascend low high (at + 1) bits (omega arith) (omega arith)

-- the set positions of bits ascend
pub set_ascend : (bits : List Bool) → AscendFrom 0 (length bits) (set_of bits)
set_ascend bits = positions_ascend 0 (length bits) 0 bits (omega arith) (omega arith)

pub all_positions : (bits : List Bool) → positions_from 0 bits ≡ set_of bits
unfolding positions_from
all_positions bits = refl

-- positions that ascend, each by the offset further on
ascend_shift : (offset low high : ℕ) (ps : List ℕ) → AscendFrom low high ps → AscendFrom (offset + low) (offset + high) (map (λ i. offset + i) ps)
ascend_shift offset low high [] h = tt
ascend_shift offset low high (x ∷ ps) h =
    (omega (arith, h.0), omega (arith, h.1), ascend_lower (offset + (x + 1)) (offset + x + 1) (offset + high) (map (λ i. offset + i) ps) (ascend_shift offset (x + 1) high ps h.2) (omega arith))

ascend_within : (offset len : ℕ) (ps : List ℕ) → AscendFrom 0 len ps → AscendFrom 0 (end_of offset len) (map (λ i. offset + i) ps)
ascend_within offset zero [] h = tt
ascend_within offset zero (x ∷ ps) h = absurd (omega (arith, h.1))
ascend_within offset (suc len) ps h =
    let e : end_of offset (suc len) ≡ offset + suc len = ap (λ b. cond b 0 (offset + suc len)) (ne_eqb (suc len) 0 (λ e. omega arith)) in
    subst (λ (n : ℕ). AscendFrom 0 n (map (λ i. offset + i) ps)) (sym e) (ascend_lower (offset + 0) 0 (offset + suc len) (map (λ i. offset + i) ps) (ascend_shift offset 0 (suc len) ps h) (omega arith))

pub on_ok_same : {T E Y : Type 0} (r : Result T E) (a b c : Y) → OnOk r (a ≡ b) → b ≡ c → OnOk r (a ≡ c)
on_ok_same (Ok x) a b c h e = h ∙ e
on_ok_same (Err x) a b c h e = tt

-- `rest` are the positions, as the cursor has them
module _ (offset len end : ℕ) (set rest : List ℕ) (is : rest ≡ map (λ i. offset + i) set) (end_is : end ≡ end_of offset len) (up : AscendFrom 0 len set) where
  pub handed_ascend : AscendFrom 0 end rest
  handed_ascend =
      subst (λ (l : List ℕ). AscendFrom 0 end l) (sym is)
      (subst (λ (n : ℕ). AscendFrom 0 n (map (λ i. offset + i) set)) (sym end_is) (ascend_within offset len set up))

  pub handed_count : length rest ≡ length set
  handed_count = ap length is ∙ length-map set (λ i. offset + i)

  pub handed_values : {X : Type 0} (values : List X) → map (slice_get values) rest ≡ map (λ p. slice_get values (offset + p)) set
  handed_values values = ap (map (slice_get values)) is ∙ map-map (slice_get values) (λ i. offset + i) set

  pub handed_calls : (old : Option (List Call)) (limit sparse : ℕ) → limit ≡ sparse → then_told old (calls_from limit rest 0 (chunks_for end)) ≡ then_told old (asked offset set sparse (chunks_touched offset len))
  handed_calls old limit sparse same =
      ap (λ l. then_told old (calls_from limit l 0 (chunks_for end))) is
      ∙ ap (λ n. then_told old (calls_from limit (map (λ i. offset + i) set) 0 (chunks_for n))) end_is
      ∙ ap (λ n. then_told old (asked offset set n (chunks_touched offset len))) same
