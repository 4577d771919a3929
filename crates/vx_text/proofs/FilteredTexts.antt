-- Texts at the set positions of a mask.
use Rattle.std.proofs.Common.{◌≡◌, ℕ, zero, suc, ◌<◌, ◌≤◌, Bool, true, List, [], ◌∷◌, length, map, Some, refl, sym, ap, ◌∙◌, arith}
use Rattle.std.specs.Prelude.{replicate}
use Rattle.std.specs.List.{All}
use Rattle.vx_bits.specs.BitBuffer.{true_count_of}
use Rattle.vx_mask.specs.Positions.{ascending, run_positions, set_of}
use Rattle.vx_take.proofs.TakenLists.{take_at_the_set}
use Rattle.vx_filter.proofs.Moves.{runs_within}
use Rattle.vx_filter.proofs.Picks.{set_ascends}
use Rattle.vx_model.specs.Text.{kept_texts}
use Rattle.vx_model.proofs.Takes.{length-at}
use Rattle.vx_mask.proofs.RankedItems.{length-items_where_true}

-- so many texts are picked
pub set_count : (bits : List Bool) (texts : List (List ℕ)) → length bits ≡ length texts → length (map Some (set_of bits)) ≡ true_count_of bits
set_count bits texts long =
    sym (length-at [] texts (map Some (set_of bits))) ∙ ap length (sym (take_at_the_set [] bits texts long)) ∙ length-items_where_true bits texts long

-- where each is there, each is kept
pub kept_there : (n : ℕ) (texts : List (List ℕ)) → length texts ≡ n → kept_texts (replicate n true) texts ≡ texts
kept_there zero [] h = refl
kept_there zero (x ∷ texts) h = absurd (omega arith)
kept_there (suc n) [] h = absurd (omega arith)
kept_there (suc n) (x ∷ texts) h = ap (λ l. x ∷ l) (kept_there n texts (omega arith))

-- no run of a mask ends past its length
pub set_runs_within : (bits : List Bool) (runs : List (ℕ × ℕ)) → All (λ run. run.0 < run.1) runs → run_positions runs ≡ set_of bits → All (λ run. run.1 ≤ length bits) runs
set_runs_within bits runs some cover =
    runs_within 0 (length bits) runs some (ap (ascending 0 (length bits)) cover ∙ set_ascends bits (length bits) refl)
