-- Where the runs of bits start and end, and the runs that this tells.
use Rattle.std.proofs.Common.{◌≡◌, ℕ, zero, suc, ◌+◌, ◌-◌, ◌*◌, ◌/◌, ◌%◌, ◌^◌, ◌<◌, ◌≤◌, Bool, true, false, cond, eqb, not, Option, None, Some, List, [], ◌∷◌, ◌++◌, length, get_or, map, take, drop, set, replicate, bit_and, bit_xor, append_assoc, refl, sym, ap, ap₂, ◌∙◌, arith}
use Rattle.std.specs.Int.{bit_at}
use Rattle.std.specs.Int.RustNames.{count_ones}
use Rattle.std.proofs.lemmas.List.{drop_all, drop_more, length-append, length-map, length-take-le, take-append-drop, take_more_set}
use Rattle.std.proofs.lemmas.Nat.{xor_mod, xor_shr}
use lib.Count.{count_trailing_zeros}
use Rattle.vx_bits.specs.Words.{word_bits}
use Rattle.vx_bits.proofs.WordBits.{length-word_bits, true_count_of-word_bits, word_bits_low}
use Rattle.vx_filter.specs.Compact.{bits_of_words}
use Rattle.vx_mask.specs.Positions.{maximal_runs, positions, runs_from}
use Rattle.vx_mask.proofs.LowestBit.{lowest_position, no_positions}
use Rattle.vx_mask.proofs.PositionLists.{length-positions, positions-append}
use Rattle.vx_mask.proofs.RunLists.{runs_from-set}
use Rattle.vx_words.specs.declared.runs.Run.{Run}
use Rattle.vx_words.specs.Runs.{changes, open_start, pairs, rows_of, run_of}
use Rattle.vx_words.proofs.MaskRows.{length-rows}
use Rattle.vx_words.proofs.MaskWords.{IsMask}
use Rattle.vx_words.proofs.RunStarts.{last_is, last_of, last_of_word, one_more}
use Rattle.vx_bits.proofs.WordLists.{no_bits}

-- ---- the runs that the marks tell

-- clear bits have no marks
no_changes : (n at : ℕ) → positions at (changes false (replicate n false)) ≡ []
no_changes zero at = refl
no_changes (suc n) at = no_changes n (at + 1)

-- a run before clear bits
last_end : (n s e : ℕ) → (s, e) ∷ [] ≡ pairs e (s ∷ positions e (changes true (replicate n false)))
last_end zero s e = refl
last_end (suc n) s e = sym (ap (λ l. (s, e) ∷ pairs e l) (no_changes n (e + 1)))

-- runs by the marks of bits with n clear ones behind them: from a clear bit on, and from within a
-- run on
record AreTold (n : ℕ) (bits : List Bool) : Type 0 where
  pub closed : (at : ℕ) → runs_from at bits ≡ pairs (at + length bits) (positions at (changes false (bits ++ replicate n false)))
  pub within : (s k : ℕ) → runs_from s (replicate (suc k) true ++ bits) ≡ pairs (s + suc k + length bits) (s ∷ positions (s + suc k) (changes true (bits ++ replicate n false)))

are_told : (n : ℕ) (bits : List Bool) → AreTold n bits
are_told n [] = record {
  closed = λ at. sym (ap (pairs (at + 0)) (no_changes n at));
  within = λ s k.
      let end : s + suc k ≡ s + suc k + 0 = omega arith in
      runs_from-set s k [] refl ∙ last_end n s (s + suc k)
      ∙ ap (λ e. pairs e (s ∷ positions (s + suc k) (changes true (replicate n false)))) end;
}
are_told n (true ∷ bits) =
    let more = are_told n bits in
    let marks = changes true (bits ++ replicate n false) in
    record {
      closed = λ at.
          let end : at + 1 + length bits ≡ at + length (true ∷ bits) = omega arith in
          more.within at 0 ∙ ap (λ e. pairs e (at ∷ positions (at + 1) marks)) end;
      within = λ s k.
          let next : s + suc (suc k) ≡ s + suc k + 1 = omega arith in
          let end : s + suc (suc k) + length bits ≡ s + suc k + length (true ∷ bits) = omega arith in
          ap (runs_from s) (one_more k bits) ∙ more.within s (suc k)
          ∙ ap₂ (λ e a. pairs e (s ∷ positions a marks)) end next;
    }
are_told n (false ∷ bits) =
    let more = are_told n bits in
    let marks = changes false (bits ++ replicate n false) in
    record {
      closed = λ at.
          let end : at + 1 + length bits ≡ at + length (false ∷ bits) = omega arith in
          more.closed (at + 1) ∙ ap (λ e. pairs e (positions (at + 1) marks)) end;
      within = λ s k.
          let at = s + suc k in
          let end : at + 1 + length bits ≡ at + length (false ∷ bits) = omega arith in
          runs_from-set s k (false ∷ bits) refl
          ∙ ap (λ l. (s, at) ∷ l) (more.closed (at + 1) ∙ ap (λ e. pairs e (positions (at + 1) marks)) end);
    }

pub all_told : (rows : ℕ) (words : List ℕ) → IsMask rows words → maximal_runs (rows_of words rows) ≡ pairs rows (positions 0 (changes false (bits_of_words words)))
all_told rows words mask =
    let bits = bits_of_words words in
    let front = take rows bits in
    let n = length (drop rows bits) in
    let both : front ++ replicate n false ≡ bits = ap (λ l. front ++ l) (sym (no_bits (drop rows bits) mask.none)) ∙ take-append-drop rows bits in
    let end : 0 + length front ≡ rows = omega (arith, length-rows rows words mask) in
    (are_told n front).closed 0 ∙ ap₂ (λ e l. pairs e (positions 0 (changes false l))) end both

-- ---- the marks of words

one_digit : (a c : ℕ) → a < 2 → c < 2 → eqb (bit_xor a c) 1 ≡ cond (eqb c 1) (not (eqb a 1)) (eqb a 1)
one_digit zero zero p q = refl
one_digit zero (suc zero) p q = refl
one_digit (suc zero) zero p q = refl
one_digit (suc zero) (suc zero) p q = refl
one_digit (suc (suc a)) c p q = absurd (omega arith)
one_digit zero (suc (suc c)) p q = absurd (omega arith)
one_digit (suc zero) (suc (suc c)) p q = absurd (omega arith)

word_changes : (n w c : ℕ) → c < 2 → word_bits (bit_xor w (2 * w + c)) n ≡ changes (eqb c 1) (word_bits w n)
unfolding word_bits
word_changes zero w c h = refl
word_changes (suc n) w c h =
    let digit : (2 * w + c) % 2 ≡ c = omega (arith, h) in
    let whole : (2 * w + c) / 2 ≡ 2 * (w / 2) + w % 2 = omega (arith, h) in
    let low : bit_xor w (2 * w + c) % 2 ≡ bit_xor (w % 2) c = xor_mod w (2 * w + c) 1 ∙ ap (bit_xor (w % 2)) digit in
    let high : bit_xor w (2 * w + c) / 2 ≡ bit_xor (w / 2) (2 * (w / 2) + w % 2) = xor_shr w (2 * w + c) 1 ∙ ap (bit_xor (w / 2)) whole in
    ap₂ (λ b l. eqb b 1 ∷ l) low (ap (λ y. word_bits y n) high ∙ word_changes n (w / 2) (w % 2) (omega arith))
    ∙ ap (λ b. b ∷ changes (eqb (w % 2) 1) (word_bits (w / 2) n)) (one_digit (w % 2) c (omega arith) h)

changes-append : (last : Bool) (xs ys : List Bool) → changes last (xs ++ ys) ≡ changes last xs ++ changes (last_of last xs) ys
changes-append last [] ys = refl
changes-append last (x ∷ xs) ys = ap (λ l. cond last (not x) x ∷ l) (changes-append x xs ys)

-- the marks from word w on
abbrev pub ahead : List ℕ → ℕ → ℕ → List ℕ
ahead words w before = positions (64 * w) (changes (eqb (bit_at before 63) 1) (bits_of_words (drop w words)))

pub marks_ahead : (words : List ℕ) (w before marks : ℕ) → w < length words → before < 2 ^ 64 → marks ≡ bit_xor (get_or words w 0) (2 * get_or words w 0 + before / 2 ^ 63) % 2 ^ 64 → ahead words w before ≡ positions (64 * w) (word_bits marks 64) ++ ahead words (w + 1) (get_or words w 0)
marks_ahead words w before marks h small is =
    let x = get_or words w 0 in
    let c = before / 2 ^ 63 in
    let last = eqb (bit_at before 63) 1 in
    let rest = bits_of_words (drop (w + 1) words) in
    let own : word_bits marks 64 ≡ changes last (word_bits x 64) =
    ap (λ y. word_bits y 64) is ∙ word_bits_low (bit_xor x (2 * x + c)) 64 ∙ word_changes 64 x c (omega arith)
    ∙ ap (λ b. changes (eqb b 1) (word_bits x 64)) (last_is before small) in
    let next : 64 * w + length (changes last (word_bits x 64)) ≡ 64 * (w + 1) = omega (arith, ap length own, length-word_bits marks 64) in
    ap (λ l. positions (64 * w) (changes last (bits_of_words l))) (drop_more words w 0 h)
    ∙ ap (positions (64 * w)) (changes-append last (word_bits x 64) rest)
    ∙ positions-append (64 * w) (changes last (word_bits x 64)) (changes (last_of last (word_bits x 64)) rest)
    ∙ ap₂ (λ l r. l ++ r) (ap (positions (64 * w)) (sym own)) (ap₂ (λ n b. positions n (changes b rest)) next (last_of_word last x))

-- ---- runs that are written

-- the run from a mark up to the next one was written
pub run_put : (dst : List Run) (next start stop end : ℕ) (places : List ℕ) → next < length dst → take (next + 1) (set dst next (run_of (start, stop))) ++ map run_of (pairs end places) ≡ take next dst ++ map run_of (pairs end (start ∷ stop ∷ places))
run_put dst next start stop end places room =
    let run = run_of (start, stop) in
    ap (λ l. l ++ map run_of (pairs end places)) (take_more_set dst next run room)
    ∙ append_assoc (take next dst) (run ∷ []) (map run_of (pairs end places))

-- the first two marks of a word
pub two_marks : (base left ends : ℕ) → 0 < left → left < 2 ^ 64 → 0 < ends → ends < 2 ^ 64 → ends ≡ bit_and left (left - 1) → positions base (word_bits left 64) ≡ (base + count_trailing_zeros 64 left) ∷ (base + count_trailing_zeros 64 ends) ∷ positions base (word_bits (bit_and ends (ends - 1)) 64)
two_marks base left ends some fits more small is =
    lowest_position base left some fits
    ∙ ap (λ l. (base + count_trailing_zeros 64 left) ∷ l) (ap (λ x. positions base (word_bits x 64)) (sym is) ∙ lowest_position base ends more small)

-- the last one
pub one_mark : (base left : ℕ) → 0 < left → left < 2 ^ 64 → bit_and left (left - 1) ≡ 0 → positions base (word_bits left 64) ≡ (base + count_trailing_zeros 64 left) ∷ []
one_mark base left some fits none =
    lowest_position base left some fits
    ∙ ap (λ l. (base + count_trailing_zeros 64 left) ∷ l) (ap (λ x. positions base (word_bits x 64)) none ∙ no_positions base)

-- two marks tell a run at most
two_a_run : (end : ℕ) (places : List ℕ) → length places ≤ 2 * length (pairs end places)
two_a_run end [] = omega arith
two_a_run end (start ∷ []) = omega arith
two_a_run end (start ∷ stop ∷ places) = omega (arith, two_a_run end places)

-- so there is room for those that are not yet written
pub room_ahead : (dst : List Run) (all : List (ℕ × ℕ)) (count end : ℕ) (places : List ℕ) → take count dst ++ map run_of (pairs end places) ≡ map run_of all → count ≤ length dst → length all ≤ length dst → 2 * count + length places ≤ 2 * length dst
room_ahead dst all count end places whole few room =
    let runs = pairs end places in
    omega (arith, two_a_run end places, ap length whole, length-append (take count dst) (map run_of runs), length-take-le count dst few, length-map runs run_of, length-map all run_of, room)

-- a word has no more marks than are ahead
pub marks_fit : (words : List ℕ) (w before marks : ℕ) → w < length words → before < 2 ^ 64 → marks < 2 ^ 64 → marks ≡ bit_xor (get_or words w 0) (2 * get_or words w 0 + before / 2 ^ 63) % 2 ^ 64 → count_ones marks ≤ length (ahead words w before)
marks_fit words w before marks h small fits is =
    let own = positions (64 * w) (word_bits marks 64) in
    let more = ahead words (w + 1) (get_or words w 0) in
    omega (arith, ap length (marks_ahead words w before marks h small is), length-append own more, length-positions (64 * w) (word_bits marks 64), true_count_of-word_bits marks 64 fits)

-- past the words there are none
pub none_ahead : (words : List ℕ) (w before : ℕ) → length words ≤ w → ahead words w before ≡ []
none_ahead words w before h = ap (λ l. positions (64 * w) (changes (eqb (bit_at before 63) 1) (bits_of_words l))) (drop_all w words h)

pub one_begun : (begun : Option ℕ) → length (open_start begun) ≤ 1
one_begun None = omega arith
one_begun (Some start) = omega arith
