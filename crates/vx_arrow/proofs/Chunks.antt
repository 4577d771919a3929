-- Records as chunks of their bytes.
use Rattle.std.proofs.Common.{◌≡◌, ℕ, zero, suc, ◌+◌, ◌-◌, ◌*◌, ◌≤◌, List, ◌∷◌, take, drop, refl, ap, ap₂, ◌∙◌, arith}
use Rattle.std.specs.Prelude.{slice_range}
use Rattle.std.specs.Simd.{first_chunks}
use Rattle.std.proofs.lemmas.List.{drop-drop}
use Rattle.vx_arrow.specs.Image.{record_at, records_in}

-- chunks from the k-th record on
chunks-from : (w : ℕ) (bytes : List ℕ) (a m : ℕ) → first_chunks w m (drop (a * w) bytes) ≡ records_in w bytes a m
chunks-from w bytes a zero = refl
chunks-from w bytes a (suc m) =
    let next : a * w + w ≡ (a + 1) * w = omega arith in
    ap (λ l. take w (drop (a * w) bytes) ∷ first_chunks w m l) (drop-drop w (a * w) bytes ∙ ap (λ n. drop n bytes) next)
    ∙ ap (λ l. record_at w bytes a ∷ l) (chunks-from w bytes (a + 1) m)

-- the first chunks of more
few-chunks : (w : ℕ) (bytes : List ℕ) (m n : ℕ) → m ≤ n → take m (first_chunks w n bytes) ≡ first_chunks w m bytes
few-chunks w bytes zero n h = refl
few-chunks w bytes (suc m) zero h = absurd (omega arith)
few-chunks w bytes (suc m) (suc n) h = ap (λ l. take w bytes ∷ l) (few-chunks w (drop w bytes) m n (omega arith))

-- chunks behind the first
late-chunks : (w : ℕ) (bytes : List ℕ) (a n : ℕ) → a ≤ n → drop a (first_chunks w n bytes) ≡ first_chunks w (n - a) (drop (a * w) bytes)
late-chunks w bytes zero n h =
    let all : n ≡ n - 0 = omega arith in
    let none : 0 ≡ 0 * w = omega arith in
    ap₂ (λ m k. first_chunks w m (drop k bytes)) all none
late-chunks w bytes (suc a) zero h = absurd (omega arith)
late-chunks w bytes (suc a) (suc n) h =
    let next : w + a * w ≡ suc a * w = omega arith in
    let less : n - a ≡ suc n - suc a = omega arith in
    late-chunks w (drop w bytes) a n (omega arith)
    ∙ ap₂ (first_chunks w) less (drop-drop (a * w) w bytes ∙ ap (λ k. drop k bytes) next)

-- a range of chunks is the records there
pub chunks-range : (w : ℕ) (bytes : List ℕ) (n offset len : ℕ) → offset + len ≤ n → slice_range (first_chunks w n bytes) offset (offset + len) ≡ records_in w bytes offset len
chunks-range w bytes n offset len h =
    let few : offset + len - offset ≡ len = omega arith in
    ap₂ take few (late-chunks w bytes offset n (omega arith))
    ∙ few-chunks w (drop (offset * w) bytes) len (n - offset) (omega arith)
    ∙ chunks-from w bytes offset len
