-- The first item that passes a test, and that there is none.
use Rattle.std.proofs.Common.{◌≡◌, ℕ, ◌<◌, Bool, true, false, List, length, get_or, cond, ltb, Some, None, sym, ap, ◌∙◌, inl, inr, arith}
use Rattle.std.specs.Prelude.{position}
use Rattle.std.specs.List.{position_or_len, range_with_len}
use Rattle.std.proofs.lemmas.Bool.{cases_lt, lt-ltb, le-ltb}
use Rattle.std.proofs.lemmas.List.FromFn.{length-range_with_len, get_or-range_with_len}
use Rattle.std.proofs.lemmas.List.Sums.{fails_before_first, position_or_len_is}

pub found_at : {X : Type 0} (p : X → Bool) (xs : List X) (i : ℕ) (d : X) → i < length xs → ((k : ℕ) → k < i → p (get_or xs k d) ≡ false) → p (get_or xs i d) ≡ true → position p xs ≡ Some i
found_at p xs i d h before here =
    let is : position_or_len p xs ≡ i = position_or_len_is p xs i d (omega arith) before (λ _. here) in
    ap (λ m. cond (ltb m (length xs)) (Some m) None) is ∙ ap (λ b. cond b (Some i) None) (lt-ltb i (length xs) h)

pub found_none : {X : Type 0} (p : X → Bool) (xs : List X) (d : X) → ((k : ℕ) → k < length xs → p (get_or xs k d) ≡ false) → position p xs ≡ None
found_none p xs d none =
    let n = length xs in
    let is : position_or_len p xs ≡ n = position_or_len_is p xs n d (omega arith) none (λ h. absurd (omega arith)) in
    ap (λ m. cond (ltb m (length xs)) (Some m) None) is ∙ ap (λ b. cond b (Some n) None) (le-ltb n n (omega arith))

pub none_found : {X : Type 0} (p : X → Bool) (xs : List X) (i : ℕ) (d : X) → position p xs ≡ None → i < length xs → p (get_or xs i d) ≡ false
none_found p xs i d h lt = elim (cases_lt (position_or_len p xs) (length xs)) [
  | inl found ↦ absurd (let e : Some (position_or_len p xs) ≡ None = sym (ap (λ b. cond b (Some (position_or_len p xs)) None) (lt-ltb (position_or_len p xs) (length xs) found)) ∙ h in cc)
  | inr past ↦ fails_before_first p xs i d (omega arith)
]

-- ---- numbers in a row

at_range : (p : ℕ → Bool) (n k : ℕ) (b : Bool) → k < n → p k ≡ b → p (get_or (range_with_len 0 n) k 0) ≡ b
at_range p n k b h is = ap p (get_or-range_with_len 0 n k 0 h ∙ omega arith) ∙ is

from_range : (p : ℕ → Bool) (n k : ℕ) (b : Bool) → k < n → p (get_or (range_with_len 0 n) k 0) ≡ b → p k ≡ b
from_range p n k b h is = sym (ap p (get_or-range_with_len 0 n k 0 h ∙ omega arith)) ∙ is

pub first_at : (p : ℕ → Bool) (n i : ℕ) → i < n → ((k : ℕ) → k < i → p k ≡ false) → p i ≡ true → position p (range_with_len 0 n) ≡ Some i
first_at p n i h before here = found_at p (range_with_len 0 n) i 0 (omega (arith, length-range_with_len 0 n)) (λ k lt. at_range p n k false (omega arith) (before k lt)) (at_range p n i true h here)

pub first_none : (p : ℕ → Bool) (n : ℕ) → ((k : ℕ) → k < n → p k ≡ false) → position p (range_with_len 0 n) ≡ None
first_none p n none = found_none p (range_with_len 0 n) 0 (λ k h. let lt : k < n = omega (arith, length-range_with_len 0 n) in at_range p n k false lt (none k lt))

pub none_first : (p : ℕ → Bool) (n k : ℕ) → position p (range_with_len 0 n) ≡ None → k < n → p k ≡ false
none_first p n k h lt = from_range p n k false lt (none_found p (range_with_len 0 n) k 0 h (omega (arith, length-range_with_len 0 n)))
