-- Why positions are not listed, and what a call leaves where it is not refused.
use Rattle.std.proofs.Common.{◌≡◌, ℕ, ◌<◌, ◌≤◌, cond, ltb, List, ◌++◌, take, drop, eq-eqb, sym, ap, ap₂, ◌∙◌}
use Rattle.std.proofs.lemmas.Bool.{le-ltb, lt-ltb}
use Rattle.std.proofs.lemmas.List.{take-append-drop}
use Rattle.vx_words.specs.Masks.{count_of, mask_fault}
use Rattle.vx_words.specs.Positions.{list_fault}

faultless_is : (items : ℕ) (words : List ℕ) (room : ℕ) → mask_fault items words ≡ 0 → list_fault items words room ≡ cond (ltb room (count_of words)) 3 0
faultless_is items words room e = ap (λ b. cond b (cond (ltb room (count_of words)) 3 0) (mask_fault items words)) (eq-eqb (mask_fault items words) 0 e)

pub no_room : (items : ℕ) (words : List ℕ) (room : ℕ) → mask_fault items words ≡ 0 → room < count_of words → 3 ≡ list_fault items words room
no_room items words room e h = sym (faultless_is items words room e ∙ ap (λ b. cond b 3 0) (lt-ltb room (count_of words) h))

pub some_room : (items : ℕ) (words : List ℕ) (room : ℕ) → mask_fault items words ≡ 0 → count_of words ≤ room → 0 ≡ list_fault items words room
some_room items words room e h = sym (faultless_is items words room e ∙ ap (λ b. cond b 3 0) (le-ltb room (count_of words) h))

-- a list whose front and rest are told
pub front_and_rest : {X : Type 0} (n : ℕ) (new front rest : List X) → take n new ≡ front → drop n new ≡ rest → new ≡ front ++ rest
front_and_rest n new front rest e f = sym (take-append-drop n new) ∙ ap₂ ◌++◌ e f
