-- Numbers, digit by digit.
use Rattle.std.proofs.Common.{◌≡◌, ℕ, ◌+◌, ◌-◌, ◌*◌, ◌^◌, ◌<◌, ◌≤◌, Bool, true, false, ◌&&◌, cond, List, [], ◌∷◌, length, get_or, take, drop, Some, None, ap, sym, ◌∙◌, refl, arith, ltb, leb}
use Rattle.std.specs.Prelude.{fold}
use Rattle.std.specs.List.{list_all}
use Rattle.std.proofs.lemmas.Bool.{and_from, le-leb, lt-leb, le-ltb, lt-ltb}
use Rattle.std.proofs.lemmas.List.{take_more, take-append-drop}
use Rattle.std.proofs.lemmas.List.Folds.{list_all_more}
use Rattle.std.proofs.lemmas.List.Sums.{fold-append}
use Rattle.vx_arrow_formats.specs.Numbers.{is_digit, number_in, value_of}

abbrev pub add_digit : ℕ → ℕ → ℕ
add_digit n d = 10 * n + (d - 48)

none_second : (a c : Bool) → (a && (false && c)) ≡ false
none_second true c = refl
none_second false c = refl

none_third : (a b : Bool) → (a && (b && false)) ≡ false
none_third true true = refl
none_third true false = refl
none_third false b = refl

none_last : (a : Bool) → (a && false) ≡ false
none_last true = refl
none_last false = refl

pub number_empty : (text : List ℕ) → length text ≡ 0 → None ≡ number_in text
unfolding number_in
number_empty text e =
    sym (ap (λ (v : Bool). cond v (Some (value_of text)) None)
    (ap (λ (v : Bool). v && (list_all is_digit text && ltb (value_of text) (2 ^ 31))) (le-ltb 0 (length text) (omega (arith, e)))))

pub number_other : (text : List ℕ) → list_all is_digit text ≡ false → None ≡ number_in text
unfolding number_in
number_other text e =
    sym (ap (λ (v : Bool). cond v (Some (value_of text)) None)
    (ap (λ (v : Bool). ltb 0 (length text) && (v && ltb (value_of text) (2 ^ 31))) e ∙ none_second (ltb 0 (length text)) (ltb (value_of text) (2 ^ 31))))

pub number_large : (text : List ℕ) → 2 ^ 31 ≤ value_of text → None ≡ number_in text
unfolding number_in
number_large text h =
    sym (ap (λ (v : Bool). cond v (Some (value_of text)) None)
    (ap (λ (v : Bool). ltb 0 (length text) && (list_all is_digit text && v)) (le-ltb _ _ h) ∙ none_third (ltb 0 (length text)) (list_all is_digit text)))

pub number_whole : (text : List ℕ) (n : ℕ) → 0 < length text → list_all is_digit text ≡ true → n ≡ value_of text → n < 2 ^ 31 → Some n ≡ number_in text
unfolding number_in
number_whole text n some digits e small =
    ap Some e ∙ sym (ap (λ (v : Bool). cond v (Some (value_of text)) None)
    (and_from _ _ (lt-ltb _ _ some) (and_from _ _ digits (lt-ltb _ _ (omega (arith, e, small))))))

-- more digits don't make a number less
grows : (digits : List ℕ) (n : ℕ) → n ≤ fold add_digit n digits
grows [] n = omega arith
grows (d ∷ ds) n = omega (arith, grows ds (10 * n + (d - 48)))

pub value_front : (text : List ℕ) (i : ℕ) → value_of (take i text) ≤ value_of text
value_front text i =
    let whole = ap value_of (take-append-drop i text) in
    let parts = fold-append add_digit 0 (take i text) (drop i text) in
    omega (arith, whole, parts, grows (drop i text) (value_of (take i text)))

pub value_more : (text : List ℕ) (i : ℕ) → i < length text → value_of (take (i + 1) text) ≡ 10 * value_of (take i text) + (get_or text i 0 - 48)
value_more text i h = ap value_of (take_more text i 0 h) ∙ fold-append add_digit 0 (take i text) (get_or text i 0 ∷ [])

pub digit_is : (b : ℕ) → 48 ≤ b → b ≤ 57 → is_digit b ≡ true
digit_is b low high = and_from _ _ (le-leb _ _ low) (le-leb _ _ high)

pub digits_more : (text : List ℕ) (i : ℕ) → i < length text → list_all is_digit (take i text) ≡ true → is_digit (get_or text i 0) ≡ true → list_all is_digit (take (i + 1) text) ≡ true
digits_more text i h before here = list_all_more is_digit text i 0 h ∙ and_from _ _ before here

pub digit_low : (b : ℕ) → b < 48 → is_digit b ≡ false
digit_low b h = ap (λ (v : Bool). v && leb b 57) (lt-leb _ _ h)

pub digit_high : (b : ℕ) → 57 < b → is_digit b ≡ false
digit_high b h = ap (λ (v : Bool). leb 48 b && v) (lt-leb _ _ h) ∙ none_last (leb 48 b)
