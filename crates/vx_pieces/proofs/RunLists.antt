-- The runs of pieces whose multipliers are 1.
use Rattle.std.proofs.Common.{◌≡◌, ℕ, zero, suc, ◌+◌, ◌-◌, ◌*◌, ◌<◌, ◌≤◌, ◌≢◌, Bool, true, false, List, [], ◌∷◌, ◌++◌, map, length, take, drop, get_or, None, Some, refl, sym, ap, ap₂, ◌∙◌, subst, arith}
use Rattle.std.specs.Prelude.{All, ◌==◌, if◌then◌else◌}
use Rattle.std.specs.List.{flat_map, range_with_len, cons_option}
use Rattle.std.proofs.lemmas.Bool.Decides.{Decides-eqb, nat_tests}
use Rattle.std.proofs.lemmas.List.{drop_more, get_or-replicate, length-replicate, map-append}
use Rattle.std.proofs.lemmas.List.Elements.{filter_map-append}
use Rattle.std.proofs.lemmas.List.Folds.{find-append}
use Rattle.vx_take.specs.Picks.{at, in_runs, item_at, run_places}
use Rattle.vx_types.specs.RowValue.{null}
use Rattle.vx_model.specs.Column.{Column}
use Rattle.vx_model.specs.Constant.{ConstantParts, constant_column}
use Rattle.vx_model.specs.Numbers.{number_in}
use Rattle.vx_pieces.specs.Indices.{by_pieces, index_picks}
use Rattle.vx_pieces.specs.Pieces.{PiecesParts, expand, first_from, natural_of, naturals_of, piece_number, piece_numbers, pieces_fault, pieces_of}
use Rattle.vx_pieces.specs.Runs.{is_one, run_of, runs_of}
use Rattle.vx_pieces.specs.declared.piece.Piece.{Piece}
use Rattle.vx_pieces.proofs.Naturals.{aligned, get_or-pieces_of, length-pieces_of, natural_of_row}
use Rattle.vx_pieces.proofs.PieceLists.{front_more, none_of_two}
use Rattle.vx_pieces.proofs.PieceNumbers.{number_below}

-- ---- the runs of a list of pieces

pub runs_more : (ps : List Piece) (i : ℕ) (q : Piece) → i < length ps → q ≡ get_or ps i q → runs_of (take (i + 1) ps) ≡ runs_of (take i ps) ++ runs_of (q ∷ [])
runs_more ps i q h is = ap runs_of (front_more ps i q h is) ∙ filter_map-append run_of (take i ps) (q ∷ [])

-- the numbers of a piece whose multiplier is 1
numbers_along : (p : Piece) (a n : ℕ) → p.multiplier ≡ 1 → map (piece_number p) (range_with_len a n) ≡ range_with_len (p.start + a) n
numbers_along p a zero one = refl
numbers_along p a (suc n) one =
    let here : piece_number p a ≡ p.start + a = rw one (omega arith) in
    let next : p.start + (a + 1) ≡ p.start + a + 1 = omega arith in
    ap₂ ◌∷◌ here (numbers_along p (a + 1) n one ∙ ap (λ b. range_with_len b n) next)

numbers_of_one : (p : Piece) → p.multiplier ≡ 1 → piece_numbers p ≡ range_with_len p.start p.length
numbers_of_one p one = let e : p.start + 0 ≡ p.start = omega arith in numbers_along p 0 p.length one ∙ ap (λ a. range_with_len a p.length) e

run_before : (p : Piece) (rest : List (ℕ × ℕ)) → p.multiplier ≡ 1 → run_places (cons_option (run_of p) rest) ≡ piece_numbers p ++ run_places rest
run_before p rest one = by (p.length == 0) refl
  where
    by : (b : Bool) → (p.length == 0) ≡ b → run_places (cons_option (if b then None else Some (p.start, p.length)) rest) ≡ piece_numbers p ++ run_places rest
    by true e =
        let empty : p.length ≡ 0 = (Decides-eqb p.length 0).0 e in
        ap (λ n. map (piece_number p) (range_with_len 0 n) ++ run_places rest) (sym empty)
    by false e = ap (λ l. l ++ run_places rest) (sym (numbers_of_one p one))

pub run_places-runs_of : (ps : List Piece) → All (λ p. p.multiplier ≡ 1) ps → run_places (runs_of ps) ≡ flat_map piece_numbers ps
run_places-runs_of [] ones = refl
run_places-runs_of (p ∷ ps) ones =
    run_before p (runs_of ps) (ones 0 p (omega arith)) ∙ ap (λ l. piece_numbers p ++ l) (run_places-runs_of ps (λ k d h. ones (suc k) d (omega arith)))

-- where each number of a piece is below n, its run ends at or before it
run_within : (n : ℕ) (p : Piece) (rest : List (ℕ × ℕ)) → p.multiplier ≡ 1 → first_from n (piece_numbers p) ≡ None → All (λ run. run.0 + run.1 ≤ n) rest → All (λ run. run.0 + run.1 ≤ n) (cons_option (run_of p) rest)
run_within n p rest one none behind = by (p.length == 0) refl
  where
    fits : p.length ≢ 0 → p.start + p.length ≤ n
    fits some =
        let last : p.start + (p.length - 1) * p.multiplier < n = number_below n p (p.length - 1) none (omega arith) in
        let end : p.start + (p.length - 1) * 1 < n = subst (λ m. p.start + (p.length - 1) * m < n) one last in
        omega arith

    before : p.start + p.length ≤ n → All (λ run. run.0 + run.1 ≤ n) ((p.start, p.length) ∷ rest)
    before h zero d l = h
    before h (suc k) d l = behind k d (omega arith)

    by : (b : Bool) → (p.length == 0) ≡ b → All (λ run. run.0 + run.1 ≤ n) (cons_option (if b then None else Some (p.start, p.length)) rest)
    by true e = behind
    by false e = before (fits (λ z. let no : (p.length == 0) ≡ true = grind (arith, nat_tests) in cc))

-- where each number of the pieces is, each run does
pub runs_within : (n : ℕ) (ps : List Piece) → All (λ p. p.multiplier ≡ 1) ps → first_from n (flat_map piece_numbers ps) ≡ None → All (λ run. run.0 + run.1 ≤ n) (runs_of ps)
runs_within n [] ones none = λ k d h. absurd (omega arith)
runs_within n (p ∷ ps) ones none =
    let parts = none_of_two (first_from n (piece_numbers p)) (first_from n (flat_map piece_numbers ps)) (sym (find-append _ (piece_numbers p) (flat_map piece_numbers ps)) ∙ none) in
    run_within n p (runs_of ps) (ones 0 p (omega arith)) parts.0 (runs_within n ps (λ k d h. ones (suc k) d (omega arith)) parts.1)

-- ---- the items in runs

module _ {X : Type 0} (missing : X) (items : List X) where
  in_run : (s n : ℕ) → s + n ≤ length items → take n (drop s items) ≡ at missing items (map (λ x. Some x) (range_with_len s n))
  in_run s zero h = refl
  in_run s (suc n) h =
      let e : s + 1 + n ≡ s + suc n = omega arith in
      ap (take (suc n)) (drop_more items s missing (omega arith)) ∙ ap (λ l. get_or items s missing ∷ l) (in_run (s + 1) n (omega arith))

  pub in_runs-within : (runs : List (ℕ × ℕ)) → All (λ run. run.0 + run.1 ≤ length items) runs → in_runs items runs ≡ at missing items (map (λ x. Some x) (run_places runs))
  in_runs-within [] within = refl
  in_runs-within (run ∷ runs) within =
      ap₂ ◌++◌ (in_run run.0 run.1 (within 0 run (omega arith))) (in_runs-within runs (λ k d h. within (suc k) d (omega arith)))
      ∙ sym (ap (map (item_at missing items)) (map-append (λ x. Some x) (range_with_len run.0 run.1) (run_places runs))
      ∙ map-append (item_at missing items) (map (λ x. Some x) (range_with_len run.0 run.1)) (map (λ x. Some x) (run_places runs)))

  -- where runs have the numbers of a sequence, the items in them are the items at its picks
  pub in_runs-picks : (p : PiecesParts) (runs : List (ℕ × ℕ)) → run_places runs ≡ expand p → All (λ run. run.0 + run.1 ≤ length items) runs → in_runs items runs ≡ at missing items (index_picks (by_pieces p))
  in_runs-picks p runs numbers within = in_runs-within runs within ∙ ap (λ l. at missing items (map (λ x. Some x) l)) numbers

-- ---- constants

-- where the multipliers are a constant 1, each is 1
pub constant_ones : (p : PiecesParts) (k : ConstantParts) → pieces_fault p ≡ None → constant_column k ≡ p.multipliers → is_one k.scalar.dtype (Some k.scalar.row) ≡ true → All (λ q. q.multiplier ≡ 1) (pieces_of p)
constant_ones p k sound same one = λ i d h.
    let in_starts : i < length p.starts.rows = omega (arith, length-pieces_of p sound) in
    let in_column : i < length (constant_column k).rows = omega (arith, (aligned p sound).long_multipliers, ap (λ (c : Column). length c.rows) same) in
    let in_len : i < k.len = omega (arith, length-replicate k.len k.scalar.row) in
    ap (λ (q : Piece). q.multiplier) (get_or-pieces_of p sound i d in_starts)
    ∙ ap (λ (c : Column). get_or (naturals_of c) i 0) (sym same)
    ∙ natural_of_row (constant_column k) i in_column
    ∙ ap (λ x. natural_of (number_in k.scalar.dtype.kind x)) (get_or-replicate k.len i k.scalar.row null in_len)
    ∙ (Decides-eqb (natural_of (number_in k.scalar.dtype.kind k.scalar.row)) 1).0 one
