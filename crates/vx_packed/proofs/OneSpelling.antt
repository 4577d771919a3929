-- One spelling for each list of chunks.
use Rattle.std.proofs.Common.{◌≡◌, ℕ, ◌+◌, ◌-◌, ◌*◌, ◌^◌, ◌<◌, ◌≤◌, List, [], ◌++◌, None, length, drop, sym, ap, subst, ◌∙◌, arith}
use Rattle.std.specs.List.{All}
use Rattle.std.proofs.lemmas.List.{get_or-drop, get_or-take, length-drop, length-take-le}
use Rattle.vx_packed.specs.Faults.{chunk_fault}
use Rattle.vx_packed.specs.Chunk.{IsChunk, IsSpelling, chunk_at, spell}
use Rattle.vx_packed.proofs.Spellings.{no_proper_prefix, spell_injective, spelled_no_fault}

-- the chunks of a list are chunks
pub chunk_is : (width : ℕ) (xs : List ℕ) (k : ℕ) → 1024 * k + 1024 ≤ length xs → All (λ x. x < 2 ^ (8 * width)) xs → IsChunk width (chunk_at xs k)
chunk_is width xs k h below =
    let long : length (chunk_at xs k) ≡ 1024 = length-take-le 1024 (drop (1024 * k) xs) (omega (arith, length-drop (1024 * k) xs)) in
    record {
      count = long;
      below = λ i d p.
          let small : i < 1024 = omega (arith, long, p) in
          subst (λ (n : ℕ). n < 2 ^ (8 * width)) (sym (get_or-take 1024 (drop (1024 * k) xs) i d small ∙ get_or-drop (1024 * k) xs i d)) (below (1024 * k + i) d (omega arith));
    }

-- ---- for the contract

pub one_spelling : (xs ys : List ℕ) → IsChunk 8 xs → IsChunk 8 ys → spell xs ≡ spell ys → xs ≡ ys
one_spelling xs ys p q e = spell_injective 8 xs ys (omega arith) p q e

pub no_prefix : (xs ys more : List ℕ) → IsChunk 8 xs → IsChunk 8 ys → spell xs ++ more ≡ spell ys → more ≡ []
no_prefix xs ys more p q e = no_proper_prefix 8 xs ys more (omega arith) p q e

pub spelling_good : (width : ℕ) (bytes : List ℕ) → width ≤ 8 → IsSpelling width bytes → chunk_fault width bytes ≡ None
spelling_good width bytes narrow s = ap (chunk_fault width) s.spelled ∙ spelled_no_fault width s.numbers narrow s.chunk
