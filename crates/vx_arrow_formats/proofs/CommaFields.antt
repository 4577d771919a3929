-- The first field of a text.
use Rattle.std.proofs.Common.{suc, ◌≡◌, ◌≢◌, ℕ, ◌+◌, ◌-◌, ◌<◌, ◌≤◌, Bool, true, false, cond, not, List, [], ◌∷◌, length, take, drop, Some, None, ap, ap₂, sym, ◌∙◌, refl, arith, eqb, ltb}
use Rattle.std.specs.Prelude.{position, unwrap_or}
use Rattle.std.proofs.lemmas.Bool.{ltb-false}
use Rattle.std.proofs.lemmas.List.{take_all, length-drop}
use Rattle.std.proofs.lemmas.List.Sums.{prefix_len-le-length}
use Rattle.std.specs.List.{position_or_len}
use Rattle.vx_arrow_formats.specs.Numbers.{fields_in, with_byte}

-- where the first comma is
abbrev pub comma_of : List ℕ → ℕ
comma_of text = position_or_len (λ b. eqb b 44) text

whole_step : (v : Bool) (b : ℕ) (bs : List ℕ) → (length bs ≤ comma_of bs → fields_in bs ≡ bs ∷ []) → suc (length bs) ≤ cond (not v) (1 + comma_of bs) 0 → cond v ([] ∷ fields_in bs) (with_byte b (fields_in bs)) ≡ (b ∷ bs) ∷ []
whole_step true b bs tail h = absurd (omega (arith, h))
whole_step false b bs tail h = ap (with_byte b) (tail (omega (arith, h)))

-- a text without a comma
pub fields_whole : (text : List ℕ) → length text ≤ comma_of text → fields_in text ≡ text ∷ []
fields_whole [] h = refl
fields_whole (b ∷ bs) h = whole_step (eqb b 44) b bs (fields_whole bs) h

cut_step : (v : Bool) (b : ℕ) (bs : List ℕ) (n : ℕ) → n ≡ cond (not v) (1 + comma_of bs) 0
    → (comma_of bs < length bs → fields_in bs ≡ take (comma_of bs) bs ∷ fields_in (drop (comma_of bs + 1) bs)) → n < suc (length bs)
    → cond v ([] ∷ fields_in bs) (with_byte b (fields_in bs)) ≡ take n (b ∷ bs) ∷ fields_in (drop (n + 1) (b ∷ bs))
cut_step true b bs n e tail h =
    let one : n + 1 ≡ suc 0 = omega (arith, e) in
    sym (ap₂ (λ (k m : ℕ). take k (b ∷ bs) ∷ fields_in (drop m (b ∷ bs))) e one)
cut_step false b bs n e tail h =
    let front : n ≡ suc (comma_of bs) = omega (arith, e) in
    let back : n + 1 ≡ suc (comma_of bs + 1) = omega (arith, e) in
    ap (with_byte b) (tail (omega (arith, h, e)))
    ∙ sym (ap₂ (λ (k m : ℕ). take k (b ∷ bs) ∷ fields_in (drop m (b ∷ bs))) front back)

-- and one with a comma
pub fields_cut : (text : List ℕ) → comma_of text < length text → fields_in text ≡ take (comma_of text) text ∷ fields_in (drop (comma_of text + 1) text)
fields_cut [] h = absurd (omega (arith, h))
fields_cut (b ∷ bs) h = cut_step (eqb b 44) b bs (comma_of (b ∷ bs)) refl (fields_cut bs) h

place_step : (v : Bool) (p len n : ℕ) → ltb p len ≡ v → p ≤ len → n ≡ unwrap_or (cond v (Some p) None) len → n ≡ p
place_step true p len n t low e = e
place_step false p len n t low e = omega (arith, e, ltb-false p len t, low)

-- what a search for a comma answers
pub comma_place : (text : List ℕ) (n : ℕ) → n ≡ unwrap_or (position (λ b. eqb b 44) text) (length text) → n ≡ comma_of text
comma_place text n e = place_step (ltb (comma_of text) (length text)) (comma_of text) (length text) n refl (prefix_len-le-length (λ b. not (eqb b 44)) text) e

-- the first field up to a place that a search answers
pub whole_at : (text : List ℕ) (n : ℕ) → n ≡ unwrap_or (position (λ b. eqb b 44) text) (length text) → n ≡ length text → fields_in text ≡ text ∷ []
whole_at text n e all = fields_whole text (omega (arith, comma_place text n e, all))

pub cut_at : (text : List ℕ) (n : ℕ) → n ≡ unwrap_or (position (λ b. eqb b 44) text) (length text) → n ≤ length text → n ≢ length text
    → fields_in text ≡ take n text ∷ fields_in (take (length text - (n + 1)) (drop (n + 1) text))
cut_at text n e low some =
    let at = comma_place text n e in
    let rest = take_all (length text - (n + 1)) (drop (n + 1) text) (omega (arith, length-drop (n + 1) text)) in
    fields_cut text (omega (arith, at, low, some))
    ∙ sym (ap₂ (λ (k : ℕ) (l : List ℕ). take k text ∷ fields_in l) at (rest ∙ ap (λ k. drop (k + 1) text) at))

pub comma_within : (text : List ℕ) (n : ℕ) → n ≡ unwrap_or (position (λ b. eqb b 44) text) (length text) → n ≤ length text
comma_within text n e = omega (arith, comma_place text n e, prefix_len-le-length (λ b. not (eqb b 44)) text)
