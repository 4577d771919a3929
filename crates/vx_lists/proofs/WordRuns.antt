-- The runs of set bits of words, one behind the other.
use Rattle.std.proofs.Common.{◌≡◌, ℕ, zero, suc, ◌+◌, ◌-◌, ◌*◌, ◌^◌, ◌<◌, ◌≤◌, Bool, List, [], ◌∷◌, ◌++◌, length, get_or, set, take, refl, sym, ap, subst, ◌∙◌, arith, append_assoc, append-nil}
use Rattle.std.specs.Int.RustNames.{count_ones}
use Rattle.std.specs.List.{All, range_with_len}
use Rattle.std.proofs.lemmas.Grind.{flat_map-append}
use Rattle.std.proofs.lemmas.List.{get_or_append_left, length-append, length-take}
use Rattle.std.proofs.lemmas.List.Elements.{All-append, All-cons, All-nil, All-weaker}
use Rattle.std.proofs.lemmas.List.FromFn.{get_or-range_with_len, length-range_with_len}
use Rattle.vx_bits.specs.BitBuffer.{true_count_of}
use Rattle.vx_bits.specs.Words.{word_at, word_bits}
use Rattle.vx_bits.proofs.WordBits.{true_count_of-word_bits}
use Rattle.vx_filter.proofs.Bytes.{All-right}
use Rattle.vx_filter.specs.Compact.{IsLowestRun}
use Rattle.vx_mask.specs.Positions.{positions, run_positions, set_of}
use Rattle.vx_mask.proofs.PositionLists.{length-positions, set_below}
use Rattle.vx_mask.proofs.WordPositions.{word_fits, word_pushed}
use Rattle.vx_lemmas.proofs.Lists.{range_split}

-- it ends where the positions do
pub run_end : (n base left low count rest : ℕ) → IsLowestRun left low count rest → All (λ p. p < n) (positions base (word_bits left 64)) → base + low + count ≤ n
run_end n base left low count rest run within =
    let places = run.places base in
    let range = range_with_len (base + low) count in
    let long = length-range_with_len (base + low) count in
    let some = run.some in
    let k = count - 1 in
    let last = within k 0 (omega (arith, ap length places, length-append range (positions base (word_bits rest 64)), long, some)) in
    let is = ap (λ l. get_or l k 0) places ∙ get_or_append_left range (positions base (word_bits rest 64)) 0 k (omega (arith, long, some)) ∙ get_or-range_with_len (base + low) count k 0 (omega (arith, some)) in
    omega (arith, last, is, some)

pub rest_within : (n base left low count rest : ℕ) → IsLowestRun left low count rest → All (λ p. p < n) (positions base (word_bits left 64)) → All (λ p. p < n) (positions base (word_bits rest 64))
rest_within n base left low count rest run within =
    All-right (λ p. p < n) (range_with_len (base + low) count) (positions base (word_bits rest 64))
    (subst (λ (l : List ℕ). All (λ p. p < n) l) (run.places base) within)

-- one more run was put out
pub run_pushed : (runs new : List (ℕ × ℕ)) (base left low count rest : ℕ) → IsLowestRun left low count rest → new ≡ runs ++ (base + low, base + low + count) ∷ [] → run_positions new ++ positions base (word_bits rest 64) ≡ run_positions runs ++ positions base (word_bits left 64)
run_pushed runs new base left low count rest run e =
    let f = λ (r : ℕ × ℕ). range_with_len r.0 (r.1 - r.0) in
    let more = positions base (word_bits rest 64) in
    let one : ℕ × ℕ = (base + low, base + low + count) in
    let many : base + low + count - (base + low) ≡ count = omega arith in
    let range : run_positions (one ∷ []) ≡ range_with_len (base + low) count = append-nil _ ∙ ap (range_with_len (base + low)) many in
    ap (λ l. run_positions l ++ more) e
    ∙ ap (λ l. l ++ more) (flat_map-append f runs (one ∷ []) ∙ ap (λ l. run_positions runs ++ l) range)
    ∙ append_assoc (run_positions runs) (range_with_len (base + low) count) more
    ∙ ap (λ l. run_positions runs ++ l) (sym (run.places base))

pub runs_some : (runs new : List (ℕ × ℕ)) (s e : ℕ) → s < e → new ≡ runs ++ (s, e) ∷ [] → All (λ run. run.0 < run.1) runs → All (λ run. run.0 < run.1) new
runs_some runs new s e h is some =
    let one : ℕ × ℕ = (s, e) in
    subst (λ (l : List (ℕ × ℕ)). All (λ run. run.0 < run.1) l) (sym is)
    (All-append (λ (run : ℕ × ℕ). run.0 < run.1) runs (one ∷ []) some (All-cons (λ (run : ℕ × ℕ). run.0 < run.1) one [] h (All-nil (λ (run : ℕ × ℕ). run.0 < run.1))))

-- ---- word by word

-- a word's set bits are bits
pub word_within : (bits : List Bool) (w word : ℕ) → 64 * w ≤ length bits → word ≡ word_at bits w → All (λ p. p < length bits) (positions (64 * w) (word_bits word 64))
word_within bits w word h is =
    let front = set_of (take (64 * w) bits) in
    let here = positions (64 * w) (word_bits word 64) in
    let more = take (64 * (w + 1)) bits in
    let e : front ++ here ≡ set_of more = word_pushed bits front (front ++ here) w word h is refl refl in
    let below : All (λ p. p < length bits) (set_of more) =
    All-weaker (λ p. p < length more) (λ p. p < length bits) (λ p l. omega (arith, l, length-take (64 * (w + 1)) bits)) (set_of more) (set_below more (length more) refl) in
    All-right (λ p. p < length bits) front here (subst (λ (l : List ℕ). All (λ p. p < length bits) l) (sym e) below)

-- the runs of one more word were put out
pub runs_found : (bits : List Bool) (runs new : List (ℕ × ℕ)) (w word : ℕ) → 64 * w ≤ length bits → word ≡ word_at bits w → run_positions runs ≡ set_of (take (64 * w) bits) → run_positions new ≡ run_positions runs ++ positions (64 * w) (word_bits word 64) → run_positions new ≡ set_of (take (64 * (w + 1)) bits)
runs_found bits runs new w word h is before after = word_pushed bits (run_positions runs) (run_positions new) w word h is before after

-- there are no more of them than positions
pub runs_counted : (runs new : List (ℕ × ℕ)) (base word m n : ℕ) → word < 2 ^ 64 → m ≤ length (run_positions runs) → n ≤ m + count_ones word → run_positions new ≡ run_positions runs ++ positions base (word_bits word 64) → n ≤ length (run_positions new)
runs_counted runs new base word m n fits many more e =
    omega (arith, many, more, ap length e, length-append (run_positions runs) (positions base (word_bits word 64)), length-positions base (word_bits word 64), true_count_of-word_bits word 64 fits)

pub runs_fit : (bits : List Bool) (runs : List (ℕ × ℕ)) (w word m : ℕ) → word ≡ word_at bits w → run_positions runs ≡ set_of (take (64 * w) bits) → m ≤ length (run_positions runs) → m + count_ones word ≤ true_count_of bits
runs_fit bits runs w word m is found many = omega (arith, many, word_fits bits (run_positions runs) w word is found)

-- ---- a run that begins where the last one ends

-- the last run of some, made longer
pub places_lengthened : (runs : List (ℕ × ℕ)) (k n : ℕ) → length runs ≡ k + 1 → (get_or runs k (0, 0)).0 ≤ (get_or runs k (0, 0)).1 → run_positions (set runs k ((get_or runs k (0, 0)).0, (get_or runs k (0, 0)).1 + n)) ≡ run_positions runs ++ range_with_len (get_or runs k (0, 0)).1 n
places_lengthened [] k n h ordered = absurd (omega arith)
places_lengthened (run ∷ []) zero n h ordered =
    let from = run.0 in
    let long = run.1 - run.0 in
    let more : run.1 + n - run.0 ≡ long + n = omega arith in
    let joint : from + long ≡ run.1 = omega arith in
    append-nil (range_with_len from (run.1 + n - run.0)) ∙ ap (range_with_len from) more ∙ range_split from long n
    ∙ ap (λ k. range_with_len from long ++ range_with_len k n) joint
    ∙ ap (λ l. l ++ range_with_len run.1 n) (sym (append-nil (range_with_len from long)))
places_lengthened (run ∷ next ∷ runs) zero n h ordered = absurd (omega arith)
places_lengthened (run ∷ []) (suc k) n h ordered = absurd (omega arith)
places_lengthened (run ∷ next ∷ runs) (suc k) n h ordered =
    ap (λ l. range_with_len run.0 (run.1 - run.0) ++ l) (places_lengthened (next ∷ runs) k n (omega arith) ordered)
    ∙ sym (append_assoc (range_with_len run.0 (run.1 - run.0)) (run_positions (next ∷ runs)) (range_with_len (get_or (next ∷ runs) k (0, 0)).1 n))

-- by the lowest run of a word
pub last_lengthened : (runs new : List (ℕ × ℕ)) (last : ℕ × ℕ) (k base left low count rest : ℕ) → IsLowestRun left low count rest → length runs ≡ k + 1 → All (λ run. run.0 < run.1) runs → last ≡ get_or runs k (0, 0) → last.1 ≡ base + low → new ≡ set runs k (last.0, last.1 + count) → run_positions new ++ positions base (word_bits rest 64) ≡ run_positions runs ++ positions base (word_bits left 64)
last_lengthened runs new last k base left low count rest run h some is joint e =
    let more = positions base (word_bits rest 64) in
    let ordered = some k (0, 0) (omega arith) in
    let longer : set runs k (last.0, last.1 + count) ≡ set runs k ((get_or runs k (0, 0)).0, (get_or runs k (0, 0)).1 + count) = ap (λ (r : ℕ × ℕ). set runs k (r.0, r.1 + count)) is in
    let end : (get_or runs k (0, 0)).1 ≡ base + low = sym (ap (λ (r : ℕ × ℕ). r.1) is) ∙ joint in
    ap (λ l. run_positions l ++ more) (e ∙ longer)
    ∙ ap (λ l. l ++ more) (places_lengthened runs k count h (omega (arith, ordered)) ∙ ap (λ a. run_positions runs ++ range_with_len a count) end)
    ∙ append_assoc (run_positions runs) (range_with_len (base + low) count) more
    ∙ ap (λ l. run_positions runs ++ l) (sym (run.places base))
