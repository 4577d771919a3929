-- Numbers as records.
use Rattle.std.proofs.Common.{◌≡◌, ℕ, ◌*◌, ◌^◌, ◌<◌, List, [], length, get_or, take, drop, sym, ap, ◌∙◌, arith}
use Rattle.std.specs.List.{drop-map, take-map}
use Rattle.std.proofs.lemmas.List.{get_or-map, get_or_default, length-map, same_lists}
use Rattle.vx_decoder.specs.Told.{whole_chunks}
use Rattle.vx_decoder.specs.Laws.{whole_chunks_same}
use Rattle.vx_packed.specs.Faults.{numbers_in}
use Rattle.vx_packed.specs.Parts.{all_numbers, parts_of, record_of, records_of}
use Rattle.vx_packed.proofs.CutParts.{length-all_numbers}
use Rattle.vx_packed.proofs.Spellings.{length-numbers_in}

-- records that are written one by one are those of the numbers
pub records_written : (width : ℕ) (numbers : List ℕ) (dst : List (List ℕ)) → length dst ≡ length numbers → ((k : ℕ) → k < length numbers → get_or dst k [] ≡ record_of width (get_or numbers k 0)) → dst ≡ records_of width numbers
records_written width numbers dst long h = same_lists _ _ (long ∙ sym (length-map numbers (record_of width))) (λ k d p.
    let inside : k < length numbers = omega arith in
    get_or_default dst k d [] p ∙ h k inside ∙ sym (get_or-map (record_of width) numbers k 0 d inside))

-- one record of those of a chunk
pub record_at : (width : ℕ) (bytes : List ℕ) (j : ℕ) (d : List ℕ) → j < 1024 → record_of width (get_or (numbers_in bytes) j 0) ≡ get_or (records_of width (numbers_in bytes)) j d
record_at width bytes j d h = sym (get_or-map (record_of width) (numbers_in bytes) j 0 d (omega (arith, length-numbers_in bytes)))

pub length-records : (width : ℕ) (bytes : List ℕ) → length (records_of width (numbers_in bytes)) ≡ 1024
length-records width bytes = length-map (numbers_in bytes) (record_of width) ∙ length-numbers_in bytes

-- all records are whole chunks, where a `usize` counts them
pub all_records : (width : ℕ) (bytes : List ℕ) → 1024 * length (parts_of bytes) < 2 ^ 64 → whole_chunks (records_of width (all_numbers (parts_of bytes))) ≡ records_of width (all_numbers (parts_of bytes))
all_records width bytes bounded =
    let numbers = all_numbers (parts_of bytes) in
    let long : length (records_of width numbers) ≡ 1024 * length (parts_of bytes) = length-map numbers (record_of width) ∙ length-all_numbers (parts_of bytes) in
    whole_chunks_same (records_of width numbers) (omega (arith, long)) (omega (arith, long, bounded))

-- the records of one chunk among all
pub chunk_records : (width : ℕ) (bytes part numbers : List ℕ) (k : ℕ) → 1024 * length (parts_of bytes) < 2 ^ 64 → numbers_in part ≡ take 1024 (drop (1024 * k) (all_numbers (parts_of bytes))) → all_numbers (parts_of bytes) ≡ numbers → records_of width (numbers_in part) ≡ take 1024 (drop (1024 * k) (whole_chunks (records_of width numbers)))
chunk_records width bytes part numbers k bounded h e =
    ap (records_of width) h
    ∙ sym (take-map (record_of width) 1024 (drop (1024 * k) (all_numbers (parts_of bytes))))
    ∙ ap (take 1024) (sym (drop-map (record_of width) (1024 * k) (all_numbers (parts_of bytes))))
    ∙ ap (λ l. take 1024 (drop (1024 * k) l)) (sym (all_records width bytes bounded) ∙ ap (λ l. whole_chunks (records_of width l)) e)

pub length-all_records : (width : ℕ) (bytes numbers : List ℕ) → 1024 * length (parts_of bytes) < 2 ^ 64 → all_numbers (parts_of bytes) ≡ numbers → length (whole_chunks (records_of width numbers)) ≡ length numbers
length-all_records width bytes numbers bounded e =
    sym (ap (λ l. length (whole_chunks (records_of width l))) e) ∙ ap length (all_records width bytes bounded)
    ∙ length-map (all_numbers (parts_of bytes)) (record_of width) ∙ ap length e
