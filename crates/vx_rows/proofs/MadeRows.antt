-- What a number makes breaks no rule.
use Rattle.std.proofs.Common.{◌≡◌, ℕ, zero, suc, ◌+◌, ◌-◌, ◌/◌, ◌%◌, ◌^◌, ◌<◌, ◌≤◌, Bool, true, false, cond, List, [], ◌∷◌, length, map, take, drop, slice_range, Option, Some, None, refl, sym, ap, ap₂, ◌∙◌, subst, arith}
use Rattle.std.specs.Prelude.{◌==◌, nat_lt, nat_le, not, ℤ, pos, if◌then◌else◌}
use Rattle.std.specs.Int.{cast_signed, to_le_bytes, w32, w64}
use Rattle.std.specs.Option.{option_map, option_or}
use Rattle.std.proofs.lemmas.Bool.Decides.{nat_tests}
use Rattle.std.proofs.lemmas.Int.{to_z_pos}
use Rattle.std.proofs.lemmas.List.{length-drop, length-map, length-take-le, take_all}
use Rattle.std.proofs.lemmas.List.Sums.{sum_by-cons, count_by-le-length}
use Rattle.std.proofs.lemmas.Nat.{from_le_bytes-to_le_bytes_8}
use Rattle.std.proofs.Math.Nat.{mod-lt}
use Rattle.vx_bits.specs.BitBuffer.{true_count_of}
use Rattle.vx_types.specs.PType.{number}
use Rattle.vx_types.specs.RowValue.{RowValue, null, bytes}
use Rattle.vx_types.specs.TypeTree.{TypeTree, primitive_kind, primitive_type}
use Rattle.vx_types.specs.declared.nullability.Nullability.TheVariants.{NonNullable, Nullable}
use Rattle.vx_types.specs.declared.ptype.PType.TheVariants.{U32, I64}
use Rattle.vx_positions.specs.Positions.{bad_number, first_bad}
use Rattle.vx_model.specs.Valid.{non_nullable, is_yes, shown_rows}
use Rattle.vx_model.specs.Bool.{BoolParts, bits_column, bool_column, bool_with}
use Rattle.vx_model.specs.Records.{records_column, records_fault}
use Rattle.vx_model.specs.Numbers.{number_in}
use Rattle.vx_model.proofs.Items.{length-slice_range}
use Rattle.vx_model.proofs.Layouts.{length-bool}
use Rattle.vx_model.proofs.Takes.{yes-bool}
use Rattle.vx_pieces.specs.Indices.{by_column, index_fault}
use Rattle.vx_pieces.specs.declared.fault.IndexFault.TheVariants.{OutOfBounds}
use Rattle.vx_steps.specs.Step.{StepValue, slice_step, filter_step, take_step}
use Rattle.vx_steps.specs.Walk.{Walk, walk_fault, walk_picks, walk, walk_from, unless_broken, all_positions, apply, broken, cause_of}
use Rattle.vx_steps.specs.Answer.{Answer, answer_fault, answer_rows, answer_of, answer_of_walk}
use Rattle.vx_steps.specs.Cause.{MatchError}
use Rattle.vx_steps.specs.declared.cause.Cause.{Cause}
use Rattle.vx_steps.specs.declared.cause.SelectError.{SelectError}
use Rattle.vx_steps.specs.declared.cause.SelectError.TheVariants.{Broken}
use Rattle.vx_steps.proofs.Walks.{length-apply, length-all_positions}
use Rattle.vx_select.specs.Select.{IsRows}
use Rattle.vx_rows.specs.Made.{draws, next_state, drawn_rows, drawn_bits, drawn_indices, drawn_steps, drawn_answer}

-- ---- draws

-- one draw more
pub draws_next : (n m x s d : ℕ) → n ≡ suc m → s ≡ next_state x → d ≡ s / 2 ^ 33 → draws n x ≡ d ∷ draws m s
unfolding draws
draws_next n m x s d e f g =
    ap (λ k. draws k x) e ∙ ap₂ (λ a b. a ∷ draws m b) (sym (g ∙ ap (λ k. k / 2 ^ 33) f)) (sym f)

pub no_draws : (n x : ℕ) → n ≡ 0 → draws n x ≡ []
unfolding draws
no_draws n x e = ap (λ k. draws k x) e

pub length-draws : (n x : ℕ) → length (draws n x) ≡ n
unfolding draws
length-draws zero x = refl
length-draws (suc n) x = ap suc (length-draws n (next_state x))

-- ---- the filter

pub length-drawn_bits : (ds : List ℕ) → length (drawn_bits ds) ≡ length ds
length-drawn_bits [] = refl
length-drawn_bits (d ∷ ds) = ap suc (length-map ds (λ d. not (d % 4 == 0)))

-- some row is kept
pub some_kept : (ds : List ℕ) → 0 < length ds → 0 < true_count_of (drawn_bits ds)
some_kept [] h = absurd (omega arith)
some_kept (d ∷ ds) h = omega (arith, sum_by-cons (λ b. cond b 1 0) true (map (λ d. not (d % 4 == 0)) ds))

-- ---- the indices

module _ (kept : ℕ) (some : 0 < kept) (few : kept < 2 ^ 63) where
  abbrev there : List ℕ → List Bool
  there ds = map (λ d. not (d % 10 == 0)) ds

  abbrev named : List ℕ → List (List ℕ)
  named ds = map (λ d. to_le_bytes w64 (d / 10 % kept)) ds

  abbrev read : RowValue → Option ℤ
  read x = number_in (primitive_kind I64) x

  index_number : (d : ℕ) → number I64 (to_le_bytes w64 (d / 10 % kept)) ≡ pos (d / 10 % kept)
  index_number d =
      let below : d / 10 % kept < kept = mod-lt (d / 10) some in
      let small : d / 10 % kept < 2 ^ 63 = omega arith in
      ap (cast_signed w64) (from_le_bytes-to_le_bytes_8 (d / 10 % kept) (omega arith)) ∙ to_z_pos w64 (d / 10 % kept) small

  inside : (d : ℕ) → bad_number kept (Some (number I64 (to_le_bytes w64 (d / 10 % kept)))) ≡ None
  inside d =
      let below : nat_lt (d / 10 % kept) kept ≡ true = let h = mod-lt (d / 10) some in grind (arith, nat_tests) in
      ap (λ z. bad_number kept (Some z)) (index_number d) ∙ ap (λ (b : Bool). if b then None else Some (pos (d / 10 % kept))) below

  all_inside : (ds : List ℕ) → first_bad kept (map read (shown_rows (there ds) (map bytes (named ds)))) ≡ None
  all_inside [] = refl
  all_inside (d ∷ ds) = by (not (d % 10 == 0)) (all_inside ds)
    where
      by : (b : Bool) → first_bad kept (map read (shown_rows (there ds) (map bytes (named ds)))) ≡ None → first_bad kept (read (if b then bytes (to_le_bytes w64 (d / 10 % kept)) else null) ∷ map read (shown_rows (there ds) (map bytes (named ds)))) ≡ None
      by false rest = rest
      by true rest = ap (λ x. option_or x (first_bad kept (map read (shown_rows (there ds) (map bytes (named ds)))))) (inside d) ∙ rest

  pub no_index_fault : (ds : List ℕ) → index_fault (by_column (records_column (drawn_indices kept ds))) kept ≡ None
  no_index_fault ds =
      let p : BoolParts = bool_with (there ds) 0 non_nullable in
      let same : map is_yes (bool_column p).rows ≡ there ds = yes-bool p refl in
      ap (λ bits. option_map OutOfBounds (first_bad kept (map read (shown_rows bits (map bytes (named ds)))))) same
      ∙ ap (option_map OutOfBounds) (all_inside ds)

-- they are a column
pub no_parts_fault : (kept : ℕ) (ds : List ℕ) → records_fault (drawn_indices kept ds) ≡ None
no_parts_fault kept ds =
    let bits : List Bool = map (λ d. not (d % 10 == 0)) ds in
    let long : length (bits_column bits 0).rows ≡ length bits = length-bool (bool_with bits 0 non_nullable) refl in
    let same : (length (bits_column bits 0).rows == length (drawn_indices kept ds).records) ≡ true =
    grind (arith, nat_tests, long, length-map ds (λ d. not (d % 10 == 0)), length-map ds (λ d. to_le_bytes w64 (d / 10 % kept))) in
    rw same refl

-- ---- the steps

abbrev pub IsSound : Walk → Type 0
IsSound (walk_fault k cause) = ⊥
IsSound (walk_picks picks) = Unit {0}

goes_on : (s : StepValue) (ss : List StepValue) (k n : ℕ) (picks : List (Option ℕ)) → length picks ≡ n → broken s n ≡ None → walk_from k picks (s ∷ ss) ≡ walk_from (k + 1) (apply None s picks) ss
goes_on s ss k n picks long h =
    ap (λ b. unless_broken b k (walk_from (k + 1) (apply None s picks) ss)) (ap (broken s) long ∙ h)

module _ (n : ℕ) (bits : List Bool) (ds : List ℕ) (rows : 20 ≤ n) (long : length bits ≡ n - 20) (some : 0 < true_count_of bits) (few : n < 2 ^ 63) where
  abbrev cut : StepValue
  cut = slice_step 10 (n - 10)

  abbrev picking : StepValue
  picking = take_step (by_column (records_column (drawn_indices (true_count_of bits) ds)))

  cut_sound : broken cut n ≡ None
  cut_sound =
      let a : nat_le 10 (n - 10) ≡ true = grind (arith, nat_tests) in
      let b : nat_le (n - 10) n ≡ true = grind (arith, nat_tests) in
      rw (a, b) refl

  filter_sound : broken (filter_step bits) (n - 20) ≡ None
  filter_sound = let a : (length bits == (n - 20)) ≡ true = grind (arith, nat_tests) in rw a refl

  take_sound : broken picking (true_count_of bits) ≡ None
  take_sound =
      let small : true_count_of bits ≤ length bits = count_by-le-length (λ bit. bit) bits in
      ap (option_map (cause_of (true_count_of bits))) (no_index_fault (true_count_of bits) some (omega (arith, small, long, few)) ds)

  pub sound_walk : (p : ℕ) → p ≡ n → (w : Walk) → w ≡ walk p (drawn_steps n bits ds) → IsSound w
  sound_walk p same w is =
      let first = all_positions p in
      let one : length first ≡ n = length-all_positions p ∙ same in
      let two : length (apply None cut first) ≡ n - 20 = length-apply None cut first n one cut_sound ∙ omega arith in
      let three : length (apply None (filter_step bits) (apply None cut first)) ≡ true_count_of bits = length-apply None (filter_step bits) (apply None cut first) (n - 20) two filter_sound in
      subst IsSound (sym (is
      ∙ goes_on cut (filter_step bits ∷ picking ∷ []) 0 n first one cut_sound
      ∙ goes_on (filter_step bits) (picking ∷ []) 1 (n - 20) _ two filter_sound
      ∙ goes_on picking [] 2 (true_count_of bits) _ three take_sound)) tt

-- the answer has rows, and nulls may be among them
module _ (n : ℕ) (ds : List ℕ) (rows : 20 < n) (many : length ds ≡ n + (n - 20) + 500) (few : n < 2 ^ 63) where
  abbrev bits : List Bool
  bits = drawn_bits (slice_range ds n (n + (n - 20)))

  abbrev steps : List StepValue
  steps = drawn_steps n bits (drop (n + (n - 20)) ds)

  abbrev IsGiven : Answer → Type 0
  IsGiven a = IsRows a × ((t : TypeTree) (xs : List RowValue) → a ≡ answer_rows t xs → t ≡ primitive_type U32 Nullable)

  given : (w : Walk) → IsSound w → IsGiven (answer_of_walk (primitive_type U32 Nullable) (drawn_rows (take n ds)) w)
  given (walk_fault k cause) h = absurd h
  given (walk_picks picks) h = (tt, λ t xs e. cc)

  pub drawn_given : IsGiven (drawn_answer n ds)
  drawn_given =
      let behind : length (slice_range ds n (n + (n - 20))) ≡ n - 20 = length-slice_range ds n (n + (n - 20)) (omega arith) (omega (arith, many)) ∙ omega arith in
      let long : length bits ≡ n - 20 = length-drawn_bits (slice_range ds n (n + (n - 20))) ∙ behind in
      let some : 0 < true_count_of bits = some_kept (slice_range ds n (n + (n - 20))) (omega (arith, behind)) in
      let row_count : length (drawn_rows (take n ds)) ≡ n = length-map (take n ds) (λ d. bytes (to_le_bytes w32 d)) ∙ length-take-le n ds (omega (arith, many)) in
      given (walk (length (drawn_rows (take n ds))) steps) (sound_walk n bits (drop (n + (n - 20)) ds) (omega arith) long some few _ row_count _ refl)

  -- no step is broken
  pub never_broken : (a : Answer) → a ≡ drawn_answer n ds → (e : SelectError) (k : ℕ) (cause : Cause) → e ≡ Broken k cause → MatchError e (λ j x. a ≡ answer_fault j x) (IsRows a) → ⊥
  never_broken a same e k cause is h =
      let fault : a ≡ answer_fault k cause = subst (λ x. MatchError x (λ j y. a ≡ answer_fault j y) (IsRows a)) is h in
      subst IsRows (sym same ∙ fault) drawn_given.0

rest_of : (m : ℕ) (ds : List ℕ) → take (length ds - m) (drop m ds) ≡ drop m ds
rest_of m ds = take_all (length ds - m) (drop m ds) (omega (arith, length-drop m ds))

-- the draws behind the bits are the rest of them
pub same_answer : (n : ℕ) (ds : List ℕ) (t : TypeTree) (xs : List RowValue) (ss : List StepValue) → t ≡ primitive_type U32 NonNullable → xs ≡ drawn_rows (take n ds) → ss ≡ drawn_steps n (drawn_bits (slice_range ds n (n + (n - 20)))) (take (length ds - (n + (n - 20))) (drop (n + (n - 20)) ds)) → answer_of t xs ss ≡ drawn_answer n ds
same_answer n ds t xs ss e f g =
    let bits = drawn_bits (slice_range ds n (n + (n - 20))) in
    ap (λ u. answer_of u xs ss) e
    ∙ ap (λ ys. answer_of (primitive_type U32 NonNullable) ys ss) f
    ∙ ap (λ us. answer_of (primitive_type U32 NonNullable) (drawn_rows (take n ds)) us) (g ∙ ap (drawn_steps n bits) (rest_of (n + (n - 20)) ds))
