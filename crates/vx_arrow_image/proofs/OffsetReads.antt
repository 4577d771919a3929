-- Offsets of four and of eight bytes, read.
use Rattle.std.proofs.Common.{suc, ◌≡◌, ℕ, ◌+◌, ◌*◌, ◌<◌, ◌≤◌, List, [], ◌∷◌, length, get_or, take, drop, ap, sym, ◌∙◌, refl, arith}
use Rattle.std.specs.Int.{from_le_bytes, w32, w64}
use Rattle.std.proofs.lemmas.List.{drop_more}
use Rattle.vx_arrow_image.specs.declared.format.Offsets.TheVariants.{Short, Long}
use Rattle.vx_arrow_image.specs.Image.{offset_at}

-- the next item, and what stands behind it
one : (bs : List ℕ) (a b n : ℕ) → b ≡ a + 1 → a < length bs → take (n + 1) (drop a bs) ≡ get_or bs a 0 ∷ take n (drop b bs)
one bs a b n e h =
    ap (take (n + 1)) (drop_more bs a 0 h) ∙ ap (λ m. take m (get_or bs a 0 ∷ drop (a + 1) bs)) (let s : n + 1 ≡ suc n = omega arith in s)
    ∙ ap (λ m. get_or bs a 0 ∷ take n (drop m bs)) (sym e)

pub four : (bs : List ℕ) (a : ℕ) → a + 4 ≤ length bs → take 4 (drop a bs) ≡ get_or bs a 0 ∷ (get_or bs (a + 1) 0 ∷ (get_or bs (a + 2) 0 ∷ (get_or bs (a + 3) 0 ∷ [])))
four bs a h =
    one bs a (a + 1) 3 refl (omega arith)
    ∙ ap (λ l. get_or bs a 0 ∷ l) (one bs (a + 1) (a + 2) 2 (omega arith) (omega arith)
    ∙ ap (λ l. get_or bs (a + 1) 0 ∷ l) (one bs (a + 2) (a + 3) 1 (omega arith) (omega arith)
    ∙ ap (λ l. get_or bs (a + 2) 0 ∷ l) (one bs (a + 3) (a + 4) 0 (omega arith) (omega arith))))

pub eight : (bs : List ℕ) (a : ℕ) → a + 8 ≤ length bs
    → take 8 (drop a bs) ≡ get_or bs a 0 ∷ (get_or bs (a + 1) 0 ∷ (get_or bs (a + 2) 0 ∷ (get_or bs (a + 3) 0 ∷ (get_or bs (a + 4) 0 ∷ (get_or bs (a + 5) 0 ∷ (get_or bs (a + 6) 0 ∷ (get_or bs (a + 7) 0 ∷ [])))))))
eight bs a h =
    one bs a (a + 1) 7 refl (omega arith)
    ∙ ap (λ l. get_or bs a 0 ∷ l) (one bs (a + 1) (a + 2) 6 (omega arith) (omega arith)
    ∙ ap (λ l. get_or bs (a + 1) 0 ∷ l) (one bs (a + 2) (a + 3) 5 (omega arith) (omega arith)
    ∙ ap (λ l. get_or bs (a + 2) 0 ∷ l) (one bs (a + 3) (a + 4) 4 (omega arith) (omega arith)
    ∙ ap (λ l. get_or bs (a + 3) 0 ∷ l) (one bs (a + 4) (a + 5) 3 (omega arith) (omega arith)
    ∙ ap (λ l. get_or bs (a + 4) 0 ∷ l) (one bs (a + 5) (a + 6) 2 (omega arith) (omega arith)
    ∙ ap (λ l. get_or bs (a + 5) 0 ∷ l) (one bs (a + 6) (a + 7) 1 (omega arith) (omega arith)
    ∙ ap (λ l. get_or bs (a + 6) 0 ∷ l) (one bs (a + 7) (a + 8) 0 (omega arith) (omega arith))))))))

pub read_short : (bs : List ℕ) (j n : ℕ) → 4 * j + 4 ≤ length bs
    → n ≡ from_le_bytes w32 (get_or bs (4 * j) 0 ∷ (get_or bs (4 * j + 1) 0 ∷ (get_or bs (4 * j + 2) 0 ∷ (get_or bs (4 * j + 3) 0 ∷ [])))) → n ≡ offset_at Short bs j
unfolding offset_at
read_short bs j n h e = e ∙ ap (from_le_bytes w32) (sym (four bs (4 * j) h))

pub read_long : (bs : List ℕ) (j n : ℕ) → 8 * j + 8 ≤ length bs
    → n ≡ from_le_bytes w64 (get_or bs (8 * j) 0 ∷ (get_or bs (8 * j + 1) 0 ∷ (get_or bs (8 * j + 2) 0 ∷ (get_or bs (8 * j + 3) 0 ∷ (get_or bs (8 * j + 4) 0 ∷ (get_or bs (8 * j + 5) 0 ∷ (get_or bs (8 * j + 6) 0 ∷ (get_or bs (8 * j + 7) 0 ∷ []))))))))
    → n ≡ offset_at Long bs j
unfolding offset_at
read_long bs j n h e = e ∙ ap (from_le_bytes w64) (sym (eight bs (8 * j) h))
