-- Offsets of four and of eight bytes, written.
use Rattle.std.proofs.Common.{◌≡◌, ℕ, ◌+◌, ◌*◌, ◌^◌, ◌<◌, ◌≤◌, List, ◌++◌, length, take, drop, ap, sym, ◌∙◌, arith}
use Rattle.std.specs.Int.{from_le_bytes, to_le_bytes, w32, w64}
use Rattle.std.proofs.lemmas.Nat.{from_le_bytes-to_le_bytes_4, from_le_bytes-to_le_bytes_8}
use Rattle.vx_arrow_image.specs.declared.format.Offsets.TheVariants.{Short, Long}
use Rattle.vx_arrow_image.specs.Image.{offset_at}
use Rattle.vx_arrow_columns.specs.Written.{PutsOffset}
use Rattle.vx_arrow_columns.proofs.Bytes.{put_at, put_there, cut_before}

pub puts_short : (bs src new : List ℕ) (j n : ℕ) → n < 2 ^ 32 → 4 * j + 4 ≤ length bs → src ≡ to_le_bytes w32 n → new ≡ take (4 * j) bs ++ (src ++ drop (4 * j + 4) bs) → PutsOffset Short bs new j n
unfolding offset_at
puts_short bs src new j n small h bytes e =
    let long : length src ≡ 4 = ap length bytes in
    let put : new ≡ put_at bs src (4 * j) = e ∙ ap (λ m. take (4 * j) bs ++ (src ++ drop (4 * j + m) bs)) (sym long) in
    record {
      put = ap (λ (l : List ℕ). from_le_bytes w32 (take 4 (drop (4 * j) l))) put
          ∙ ap (λ m. from_le_bytes w32 (take m (drop (4 * j) (put_at bs src (4 * j))))) (sym long)
          ∙ ap (from_le_bytes w32) (put_there bs src (4 * j) (omega arith) ∙ bytes)
          ∙ from_le_bytes-to_le_bytes_4 n small;
      before = λ i below. ap (λ (l : List ℕ). from_le_bytes w32 (take 4 (drop (4 * i) l))) e
          ∙ ap (from_le_bytes w32) (cut_before bs (src ++ drop (4 * j + 4) bs) (4 * i) 4 (4 * j) (omega arith) (omega arith));
    }

pub puts_long : (bs src new : List ℕ) (j n : ℕ) → n < 2 ^ 64 → 8 * j + 8 ≤ length bs → src ≡ to_le_bytes w64 n → new ≡ take (8 * j) bs ++ (src ++ drop (8 * j + 8) bs) → PutsOffset Long bs new j n
unfolding offset_at
puts_long bs src new j n small h bytes e =
    let long : length src ≡ 8 = ap length bytes in
    let put : new ≡ put_at bs src (8 * j) = e ∙ ap (λ m. take (8 * j) bs ++ (src ++ drop (8 * j + m) bs)) (sym long) in
    record {
      put = ap (λ (l : List ℕ). from_le_bytes w64 (take 8 (drop (8 * j) l))) put
          ∙ ap (λ m. from_le_bytes w64 (take m (drop (8 * j) (put_at bs src (8 * j))))) (sym long)
          ∙ ap (from_le_bytes w64) (put_there bs src (8 * j) (omega arith) ∙ bytes)
          ∙ from_le_bytes-to_le_bytes_8 n small;
      before = λ i below. ap (λ (l : List ℕ). from_le_bytes w64 (take 8 (drop (8 * i) l))) e
          ∙ ap (from_le_bytes w64) (cut_before bs (src ++ drop (8 * j + 8) bs) (8 * i) 8 (8 * j) (omega arith) (omega arith));
    }
