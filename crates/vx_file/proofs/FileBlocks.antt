-- The blocks of a file that is written.
use Rattle.std.proofs.Common.{◌≡◌, ℕ, ◌+◌, ◌-◌, ◌*◌, ◌^◌, ◌<◌, ◌≤◌, List, [], ◌∷◌, ◌++◌, min, length, get_or, take, drop, map, replicate, inl, inr, refl, sym, ap, ap₂, ◌∙◌, arith}
use Rattle.std.specs.List.{All, range_with_len}
use Rattle.std.proofs.lemmas.Bool.{cases_lt}
use Rattle.std.proofs.lemmas.List.{append-nil, length-append, length-drop, length-replicate, take_all}
use Rattle.std.proofs.lemmas.List.Elements.{All-append, All-replicate}
use Rattle.std.proofs.lemmas.List.FromFn.{map-range_with_len_more}
use Rattle.vx_packed.specs.Chunk.{IsChunk, chunk_at, spell, spell_list}
use Rattle.vx_packed.proofs.CutParts.{spell_list_cons, spell_list_none}
use Rattle.vx_packed.proofs.Spellings.{chunk_spans, spell_states}
use Rattle.vx_file.specs.File.{whole_block}
use Rattle.vx_file.specs.Shape.{ShapeValue, header}

pub length-filled : (numbers : List ℕ) → length numbers ≤ 1024 → length (whole_block numbers) ≡ 1024
length-filled numbers h =
    let last = get_or numbers (length numbers - 1) 0 in
    omega (arith, length-append numbers (replicate (1024 - length numbers) last), length-replicate (1024 - length numbers) last)

pub chunk-filled : (width : ℕ) (numbers : List ℕ) → 0 < length numbers → length numbers ≤ 1024 → All (λ n. n < 2 ^ (8 * width)) numbers → IsChunk width (whole_block numbers)
chunk-filled width numbers some few below =
    let P : ℕ → Type 0 = λ n. n < 2 ^ (8 * width) in
    let last = get_or numbers (length numbers - 1) 0 in
    record {
      count = length-filled numbers few;
      below = All-append P numbers (replicate (1024 - length numbers) last) below (All-replicate P (1024 - length numbers) last (below (length numbers - 1) 0 (omega arith)));
    }

-- one chunk's list of spellings is its spelling
pub spell_one : (chunk : List ℕ) → length chunk ≡ 1024 → spell_list chunk ≡ spell chunk
spell_one chunk long =
    ap spell_list (sym (append-nil chunk)) ∙ spell_list_cons chunk [] long ∙ ap (λ l. spell chunk ++ l) (spell_list_none [] refl) ∙ append-nil (spell chunk)

pub spell_short : (width : ℕ) (chunk : List ℕ) → width ≤ 8 → IsChunk width chunk → length (spell chunk) ≤ 8201
spell_short width chunk narrow h =
    let s = chunk_spans width chunk narrow h in
    let t = spell_states width chunk narrow h in
    omega (arith, s.short, t.count, t.width_is)

-- the rows of block k, as a slice
pub rows_cut : (values : List ℕ) (k end : ℕ) → end ≡ min (length values) (1024 * k + 1024) → take (end - 1024 * k) (drop (1024 * k) values) ≡ chunk_at values k
rows_cut values k end e = elim (cases_lt (length values) (1024 * k + 1024)) [
  | inl short ↦
      let rest = drop (1024 * k) values in
      take_all (end - 1024 * k) rest (omega (arith, length-drop (1024 * k) values)) ∙ sym (take_all 1024 rest (omega (arith, length-drop (1024 * k) values)))
  | inr full ↦
      let whole : end - 1024 * k ≡ 1024 = omega arith in
      ap (λ n. take n (drop (1024 * k) values)) whole
]

-- one block more
pub block_more : (s : ShapeValue) (values : List ℕ) (k : ℕ) (blocks : List (List ℕ)) (bytes cut : List ℕ) → blocks ≡ header s ∷ map (λ j. spell (whole_block (chunk_at values j))) (range_with_len 0 k) → bytes ≡ spell (whole_block cut) → cut ≡ chunk_at values k → blocks ++ bytes ∷ [] ≡ header s ∷ map (λ j. spell (whole_block (chunk_at values j))) (range_with_len 0 (k + 1))
block_more s values k blocks bytes cut e f g =
    let block : ℕ → List ℕ = λ j. spell (whole_block (chunk_at values j)) in
    ap₂ (λ l b. l ++ b ∷ []) e (f ∙ ap (λ l. spell (whole_block l)) g)
    ∙ ap (λ l. header s ∷ l) (sym (map-range_with_len_more block 0 k k (omega arith)))
