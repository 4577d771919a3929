-- Runs of the whole, as pieces of parts.
use Rattle.std.proofs.Common.{◌≡◌, ℕ, zero, suc, ◌+◌, ◌-◌, ◌≤◌, List, [], ◌∷◌, ◌++◌, refl, sym, ap, ◌∙◌, arith, slice_index}
use Rattle.std.specs.List.{range_with_len}
use Rattle.std.proofs.lemmas.List.{append_assoc, append-nil}
use Rattle.std.proofs.lemmas.List.Concat.{flat_map-append}
use Rattle.vx_cuts.specs.Runs.{piece_places}
use Rattle.vx_cuts.specs.declared.runs.Piece.{Piece}

-- a range, and the one behind it
pub range_joined : (a m n b k : ℕ) → a + m ≡ b → m + n ≡ k → range_with_len a m ++ range_with_len b n ≡ range_with_len a k
range_joined a zero n b k h e =
    let at : b ≡ a = omega arith in let long : n ≡ k = omega arith in
    ap (λ (x : ℕ). range_with_len x n) at ∙ ap (range_with_len a) long
range_joined a (suc m) n b k h e =
    let long : k ≡ suc (m + n) = omega arith in
    ap (λ l. a ∷ l) (range_joined (a + 1) m n b (m + n) (omega arith) refl) ∙ ap (range_with_len a) (sym long)

-- one piece more
pub push_piece : (bounds : List ℕ) (pieces : List Piece) (base : List ℕ) (part first many start at stop : ℕ) → piece_places bounds pieces ≡ base ++ range_with_len start (at - start)
    → slice_index bounds part + first ≡ at → many ≡ stop - at → start ≤ at → at ≤ stop
    → piece_places bounds (pieces ++ (record { part = part; start = first; len = many }) ∷ []) ≡ base ++ range_with_len start (stop - start)
push_piece bounds pieces base part first many start at stop so begin long above below =
    let piece : Piece = record { part = part; start = first; len = many } in
    flat_map-append (λ (piece : Piece). range_with_len (slice_index bounds piece.part + piece.start) piece.len) pieces (piece ∷ [])
    ∙ ap (λ (l : List ℕ). l ++ (range_with_len (slice_index bounds part + first) many ++ [])) so
    ∙ append_assoc base (range_with_len start (at - start)) (range_with_len (slice_index bounds part + first) many ++ [])
    ∙ ap (λ (l : List ℕ). base ++ (range_with_len start (at - start) ++ l)) (append-nil (range_with_len (slice_index bounds part + first) many))
    ∙ ap (λ (l : List ℕ). base ++ l) (range_joined start (at - start) many (slice_index bounds part + first) (stop - start) (omega arith) (omega arith))
