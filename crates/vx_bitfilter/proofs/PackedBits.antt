-- The bits of a word that another word picks.
use Rattle.std.proofs.Common.{◌≡◌, ℕ, zero, suc, ◌+◌, ◌*◌, ◌%◌, ◌^◌, ◌<◌, Bool, eqb, List, [], ◌∷◌, ◌++◌, bit_or, refl, ap, ◌∙◌, arith}
use Rattle.std.specs.List.{items_where_true}
use Rattle.std.proofs.lemmas.Nat.{or_comm, or_shifted, shl_whole}
use Rattle.vx_bits.specs.Words.{word_bits}
use Rattle.vx_bits.proofs.BuiltLists.{joined_below}
use Rattle.vx_bits.proofs.WordBits.{word_bits-append}

-- the bits that a word picks of another
abbrev pub picked_bits : ℕ → ℕ → List Bool
picked_bits src mask = items_where_true (word_bits mask 64) (word_bits src 64)

-- a bit behind the lowest k bits
pub bit_behind : (packed k bit : ℕ) → packed < 2 ^ k → bit < 2 → k < 64 → bit_or packed (bit * 2 ^ k % 2 ^ 64) ≡ bit * 2 ^ k + packed
bit_behind packed k bit below small short = ap (bit_or packed) (shl_whole bit 1 k 64 small (omega arith)) ∙ or_comm packed (bit * 2 ^ k) ∙ or_shifted bit k packed below

one_bit : (bit : ℕ) → bit < 2 → word_bits bit 1 ≡ eqb bit 1 ∷ []
unfolding word_bits
one_bit zero h = refl
one_bit (suc zero) h = refl
one_bit (suc (suc n)) h = absurd (omega arith)

-- one more bit above the lowest k
pub record IsPushed (before after k bit : ℕ) : Type 0 where
  pub bits : word_bits after (k + 1) ≡ word_bits before k ++ eqb bit 1 ∷ []
  pub below : after < 2 ^ (k + 1)

pub bit_pushed : (before after k bit : ℕ) → before < 2 ^ k → bit < 2 → k < 64 → after ≡ bit_or before (bit * 2 ^ k % 2 ^ 64) → IsPushed before after k bit
bit_pushed before after k bit below small short e =
    let is : after ≡ bit * 2 ^ k + before = e ∙ bit_behind before k bit below small short in
    record {
      bits = ap (λ x. word_bits x (k + 1)) is ∙ word_bits-append before k bit 1 below ∙ ap (λ l. word_bits before k ++ l) (one_bit bit small);
      below = joined_below before k bit 1 after below (omega arith) is;
    }
