-- A step of the whole, part by part.
use Rattle.std.proofs.Common.{◌≡◌, ℕ, ◌+◌, ◌-◌, ◌<◌, ◌≤◌, ◌⊎◌, inl, inr, min, Bool, List, [], ◌∷◌, length, map, take, drop, slice_range, None, refl, sym, ap, ap₂, ◌∙◌, subst, arith}
use Rattle.std.specs.List.{items_where_true}
use Rattle.std.proofs.lemmas.Bool.{cases_lt}
use Rattle.std.proofs.lemmas.Bool.Decides.{nat_tests}
use Rattle.std.proofs.lemmas.List.{take_all}
use Rattle.vx_bits.specs.BitBuffer.{true_count_of}
use Rattle.vx_model.proofs.Items.{length-slice_range}
use Rattle.vx_model.proofs.KeptItems.{slice-items}
use Rattle.vx_column.specs.Truth.{true_bits}
use Rattle.vx_steps.specs.Step.{StepValue, slice_step, filter_step, filter_by_step, take_step}
use Rattle.vx_steps.specs.Walk.{apply, broken, rows_left}
use Rattle.vx_steps.proofs.Cuts.{slice_range-slice_range}
use Rattle.vx_steps.proofs.Walks.{length-apply}
use Rattle.vx_parts.specs.Cuts.{CutValue, slice_cut, filter_cut, as_step, carried, carried_by, cuts_of, from_take, own_cut, own_cuts}
use Rattle.vx_parts.proofs.BoundLists.{carried-ordered}
use Rattle.vx_parts.proofs.Walked.{AreSound, apply_all}
use Rattle.vx_steps.proofs.Unbroken.{long_column, within_slice, long_mask}

-- ---- one step

begins : (s e low high : ℕ) → low ≤ high → s ≤ e → low < e → s < high → low + min (s - low) (high - low) ≡ s + (min low e - min low s)
begins s e low high h o l m = omega arith

ends : (s e low high : ℕ) → low ≤ high → s ≤ e → low < e → s < high → low + min (e - low) (high - low) ≡ s + (min high e - min high s)
ends s e low high h o l m = omega arith

none_own : (s e low high : ℕ) → (e ≤ low) ⊎ (high ≤ s) → low ≤ high → low + min (e - low) (high - low) ≤ low + min (s - low) (high - low)
none_own s e low high (inl m) h = omega arith
none_own s e low high (inr m) h = omega arith

none_left : (s e low high : ℕ) → (e ≤ low) ⊎ (high ≤ s) → low ≤ high → s ≤ e → s + (min high e - min high s) ≤ s + (min low e - min low s)
none_left s e low high (inl m) h o = omega arith
none_left s e low high (inr m) h o = omega arith

no_items : {X : Type 0} (xs : List X) (a b : ℕ) → b ≤ a → slice_range xs a b ≡ []
no_items xs a b h = let no : b - a ≡ 0 = omega arith in ap (λ n. take n (drop a xs)) no

slice_own : {X : Type 0} (xs : List X) (s e low high : ℕ) → low ≤ high → high ≤ length xs → s ≤ e → e ≤ length xs
    → slice_range (slice_range xs low high) (min (s - low) (high - low)) (min (e - low) (high - low)) ≡ slice_range (slice_range xs s e) (min low e - min low s) (min high e - min high s)
slice_own xs s e low high h l o w =
    let n = high - low in
    slice_range-slice_range xs low high (min (s - low) n) (min (e - low) n) h l (omega arith) (omega arith)
    ∙ between
    ∙ sym (slice_range-slice_range xs s e (min low e - min low s) (min high e - min high s) o w (omega arith) (omega arith))
  where
    none : (e ≤ low) ⊎ (high ≤ s) → slice_range xs (low + min (s - low) (high - low)) (low + min (e - low) (high - low)) ≡ slice_range xs (s + (min low e - min low s)) (s + (min high e - min high s))
    none m = no_items xs (low + min (s - low) (high - low)) (low + min (e - low) (high - low)) (none_own s e low high m h)
        ∙ sym (no_items xs (s + (min low e - min low s)) (s + (min high e - min high s)) (none_left s e low high m h o))

    between : slice_range xs (low + min (s - low) (high - low)) (low + min (e - low) (high - low)) ≡ slice_range xs (s + (min low e - min low s)) (s + (min high e - min high s))
    between = elim (cases_lt low e) [
      | inl p ↦ elim (cases_lt s high) [
        | inl q ↦ ap₂ (λ x y. slice_range xs x y) (begins s e low high h o p q) (ends s e low high h o p q)
        | inr q ↦ none (inr q)
      ]
      | inr p ↦ none (inl p)
    ]

pub own_apply : {X : Type 0} (missing : X) (c : CutValue) (xs : List X) (low high : ℕ) → low ≤ high → high ≤ length xs → broken (as_step c) (length xs) ≡ None
    → apply missing (as_step (own_cut c low high)) (slice_range xs low high) ≡ slice_range (apply missing (as_step c) xs) (carried c low) (carried c high)
own_apply missing (slice_cut s e) xs low high h l sound =
    let inside = within_slice s e (length xs) sound in slice_own xs s e low high h l inside.0 inside.1
own_apply missing (filter_cut bits) xs low high h l sound =
    let long = long_mask bits (length xs) sound in
    sym (slice-items bits xs (true_count_of (take low bits)) (true_count_of (take high bits)) low high long h (omega (arith, long)) refl refl)

sound_slice : (s e n : ℕ) → s ≤ e → e ≤ n → broken (slice_step s e) n ≡ None
sound_slice s e n h l = grind (arith, nat_tests)

sound_mask : (bits : List Bool) (n : ℕ) → length bits ≡ n → broken (filter_step bits) n ≡ None
sound_mask bits n h = grind (arith, nat_tests)

pub own_sound : (c : CutValue) (n low high : ℕ) → low ≤ high → high ≤ n → broken (as_step c) n ≡ None → broken (as_step (own_cut c low high)) (high - low) ≡ None
own_sound (slice_cut s e) n low high h l sound =
    let inside = within_slice s e n sound in
    sound_slice (min (s - low) (high - low)) (min (e - low) (high - low)) (high - low) (omega (arith, inside.0)) (omega arith)
own_sound (filter_cut bits) n low high h l sound =
    let long = long_mask bits n sound in
    sound_mask (slice_range bits low high) (high - low) (length-slice_range bits low high h (omega (arith, long)))

pub left_is : (c : CutValue) (n : ℕ) → broken (as_step c) n ≡ None → carried c n ≡ rows_left (as_step c)
left_is (slice_cut s e) n sound = let inside = within_slice s e n sound in omega (arith, inside.0, inside.1)
left_is (filter_cut bits) n sound = let long = long_mask bits n sound in ap true_count_of (take_all n bits (omega (arith, long)))

-- ---- all of them

pub record OwnRows {X : Type 0} (missing : X) (cs : List CutValue) (xs : List X) (low high : ℕ) : Type 0 where
  pub rows : apply_all missing (map as_step (own_cuts cs low high)) (slice_range xs low high) ≡ slice_range (apply_all missing (map as_step cs) xs) (carried_by cs low) (carried_by cs high)
  pub sound : AreSound (high - low) (map as_step (own_cuts cs low high))
  pub left : length (apply_all missing (map as_step cs) xs) ≡ carried_by cs (length xs)

pub own_rows : {X : Type 0} (missing : X) (cs : List CutValue) (xs : List X) (low high : ℕ) → low ≤ high → high ≤ length xs → AreSound (length xs) (map as_step cs) → OwnRows missing cs xs low high
own_rows missing [] xs low high h l sound = record { rows = refl; sound = tt; left = refl }
own_rows missing (c ∷ cs) xs low high h l sound =
    let next = apply missing (as_step c) xs in
    let count = length-apply missing (as_step c) xs (length xs) refl sound.0 in
    let long : length (apply missing (as_step c) xs) ≡ carried c (length xs) = count ∙ sym (left_is c (length xs) sound.0) in
    let ordered = carried-ordered c low high h in
    let within : carried c high ≤ length (apply missing (as_step c) xs) = omega (arith, carried-ordered c high (length xs) l, long) in
    let part = own_apply missing c xs low high h l sound.0 in
    let one = own_sound c (length xs) low high h l sound.0 in
    let rest = own_rows missing cs next (carried c low) (carried c high) ordered within (subst (λ (n : ℕ). AreSound n (map as_step cs)) (sym count) sound.1) in
    let few : rows_left (as_step (own_cut c low high)) ≡ carried c high - carried c low =
    sym (length-apply missing (as_step (own_cut c low high)) (slice_range xs low high) (high - low) (length-slice_range xs low high h l) one)
    ∙ ap length part ∙ length-slice_range next (carried c low) (carried c high) ordered within in
    record {
      rows = ap (apply_all missing (map as_step (own_cuts cs (carried c low) (carried c high)))) part ∙ rest.rows;
      sound = (one, subst (λ (n : ℕ). AreSound n (map as_step (own_cuts cs (carried c low) (carried c high)))) (sym few) rest.sound);
      left = rest.left ∙ ap (carried_by cs) long;
    }

-- ---- the steps before the first take, and those from it on

pub record SoundCuts (n : ℕ) (ss : List StepValue) : Type 0 where
  pub before : AreSound n (map as_step (cuts_of ss))
  pub after : AreSound (carried_by (cuts_of ss) n) (from_take ss)

next_cut : (c : CutValue) (n : ℕ) (ss : List StepValue) → broken (as_step c) n ≡ None → SoundCuts (rows_left (as_step c)) ss → (AreSound n (as_step c ∷ map as_step (cuts_of ss))) × AreSound (carried_by (cuts_of ss) (carried c n)) (from_take ss)
next_cut c n ss one rest = ((one, rest.before), subst (λ (m : ℕ). AreSound (carried_by (cuts_of ss) m) (from_take ss)) (sym (left_is c n one)) rest.after)

pub sound_cuts : (ss : List StepValue) (n : ℕ) → AreSound n ss → SoundCuts n ss
sound_cuts [] n h = record { before = tt; after = tt }
sound_cuts (slice_step s e ∷ ss) n h =
    let both = next_cut (slice_cut s e) n ss h.0 (sound_cuts ss (e - s) h.1) in record { before = both.0; after = both.1 }
sound_cuts (filter_step bits ∷ ss) n h =
    let both = next_cut (filter_cut bits) n ss h.0 (sound_cuts ss (true_count_of bits) h.1) in record { before = both.0; after = both.1 }
sound_cuts (filter_by_step column ∷ ss) n h =
    let both = next_cut (filter_cut (true_bits column)) n ss (sound_mask (true_bits column) n (long_column column n h.0)) (sound_cuts ss (true_count_of (true_bits column)) h.1) in
    record { before = both.0; after = both.1 }
sound_cuts (take_step indices ∷ ss) n h = record { before = tt; after = h }

-- all steps are those before the first take, and then those from it on
pub cut_first : {X : Type 0} (missing : X) (ss : List StepValue) (xs : List X) → apply_all missing ss xs ≡ apply_all missing (from_take ss) (apply_all missing (map as_step (cuts_of ss)) xs)
cut_first missing [] xs = refl
cut_first missing (slice_step s e ∷ ss) xs = cut_first missing ss (slice_range xs s e)
cut_first missing (filter_step bits ∷ ss) xs = cut_first missing ss (items_where_true bits xs)
cut_first missing (filter_by_step column ∷ ss) xs = cut_first missing ss (items_where_true (true_bits column) xs)
cut_first missing (take_step indices ∷ ss) xs = refl
