-- The tests of a view, one after another.
use Rattle.std.proofs.Common.{◌≡◌, ℕ, ◌+◌, ◌^◌, ◌<◌, ◌≤◌, Bool, true, false, List, length, get_or, ap, ap₂, sym, ◌∙◌, leb, ltb}
use Rattle.std.specs.Prelude.{◌&&◌, ◌||◌}
use Rattle.std.proofs.lemmas.Bool.{and_left, le-ltb, le-leb, lt-leb, lt-ltb, or_left}
use Rattle.vx_arrow_image.specs.declared.format.Offsets.{Offsets}
use Rattle.vx_arrow_image.specs.Image.{Part, is_list_view, is_view, limit_of, offset_at, view_buffer, view_len, view_start}
use Rattle.vx_lemmas.proofs.Bools.{and_step}

or_step : (a b : Bool) → a ≡ false → b ≡ (a || b)
or_step a b e = ap (λ (x : Bool). x || b) (sym e)

-- a view of n bytes, which begin at s in buffer b
abbrev pub view_test : List ℕ → ℕ → ℕ → ℕ → Bool
view_test lens n b s =
    ltb n (2 ^ 31) && (leb n 12 || (ltb b (length lens) && (ltb s (2 ^ 31) && leb (s + n) (get_or lens b 0))))

pub view_is : (p : Part) (lens : List ℕ) (i n b s : ℕ) → n ≡ view_len p i → b ≡ view_buffer p i → s ≡ view_start p i → view_test lens n b s ≡ is_view p lens i
unfolding is_view
view_is p lens i n b s e f g =
    ap (λ (m : ℕ). view_test lens m b s) e ∙ ap₂ (λ (c : ℕ) (t : ℕ). view_test lens (view_len p i) c t) f g

pub view_wide : (lens : List ℕ) (n b s : ℕ) → 2 ^ 31 ≤ n → false ≡ view_test lens n b s
view_wide lens n b s h = sym (and_left _ _ (le-ltb _ _ h))

pub view_inline : (lens : List ℕ) (n b s : ℕ) → n < 2 ^ 31 → n ≤ 12 → true ≡ view_test lens n b s
view_inline lens n b s h low = sym (or_left (leb n 12) _ (le-leb _ _ low)) ∙ and_step _ _ (lt-ltb _ _ h)

long_step : (lens : List ℕ) (n b s : ℕ) (r : Bool) → n < 2 ^ 31 → 12 < n → r ≡ (ltb b (length lens) && (ltb s (2 ^ 31) && leb (s + n) (get_or lens b 0))) → r ≡ view_test lens n b s
long_step lens n b s r h long e = e ∙ or_step _ _ (lt-leb _ _ long) ∙ and_step _ _ (lt-ltb _ _ h)

pub view_astray : (lens : List ℕ) (n b s : ℕ) → n < 2 ^ 31 → 12 < n → length lens ≤ b → false ≡ view_test lens n b s
view_astray lens n b s h long far = long_step lens n b s false h long (sym (and_left _ _ (le-ltb _ _ far)))

pub view_far : (lens : List ℕ) (n b s : ℕ) → n < 2 ^ 31 → 12 < n → b < length lens → 2 ^ 31 ≤ s → false ≡ view_test lens n b s
view_far lens n b s h long there far = long_step lens n b s false h long (sym (and_left _ _ (le-ltb _ _ far)) ∙ and_step _ _ (lt-ltb _ _ there))

pub view_last : (lens : List ℕ) (n b s : ℕ) → n < 2 ^ 31 → 12 < n → b < length lens → s < 2 ^ 31 → leb (s + n) (get_or lens b 0) ≡ view_test lens n b s
view_last lens n b s h long there near = long_step lens n b s _ h long (and_step _ _ (lt-ltb _ _ near) ∙ and_step _ _ (lt-ltb _ _ there))

-- n items from s on
abbrev pub list_view_test : Offsets → ℕ → ℕ → ℕ → Bool
list_view_test z count s n = ltb s (limit_of z) && (ltb n (limit_of z) && leb (s + n) count)

pub list_view_is : (z : Offsets) (p : Part) (count i s n : ℕ) → s ≡ offset_at z p.offsets i → n ≡ offset_at z p.sizes i → list_view_test z count s n ≡ is_list_view z p count i
unfolding is_list_view
list_view_is z p count i s n e f = ap₂ (λ (a : ℕ) (b : ℕ). list_view_test z count a b) e f

pub list_view_far : (z : Offsets) (count s n : ℕ) → limit_of z ≤ s → false ≡ list_view_test z count s n
list_view_far z count s n h = sym (and_left _ _ (le-ltb _ _ h))

pub list_view_wide : (z : Offsets) (count s n : ℕ) → s < limit_of z → limit_of z ≤ n → false ≡ list_view_test z count s n
list_view_wide z count s n near h = sym (and_left _ _ (le-ltb _ _ h)) ∙ and_step _ _ (lt-ltb _ _ near)

pub list_view_last : (z : Offsets) (count s n : ℕ) → s < limit_of z → n < limit_of z → leb (s + n) count ≡ list_view_test z count s n
list_view_last z count s n near narrow = and_step _ _ (lt-ltb _ _ narrow) ∙ and_step _ _ (lt-ltb _ _ near)
