-- Bits that items mean, packed into words.
use Rattle.std.proofs.Common.{◌≡◌, ℕ, ◌+◌, ◌*◌, ◌^◌, ◌<◌, ◌==◌, Bool, true, false, ◌∷◌, Some, refl, ap, ap₂, ◌∙◌, arith, add-one}
use mir.Val.{bool_byte}
use Rattle.std.proofs.lemmas.Nat.{pow-add}
use Rattle.serde_json.specs.Data.{Items, no_items, item}
use Rattle.vx_bits.specs.Words.{word_bits}
use Rattle.vx_json.specs.Meaning.{Fails}
use Rattle.vx_json.specs.declared.error.DocError.{DocError}
use Rattle.vx_json.specs.declared.error.DocError.TheVariants.{Malformed, NoMemory}
use Rattle.vx_json.specs.Items.{each}
use Rattle.vx_json.specs.Bools.{is_there, presence}
use Rattle.vx_json.proofs.Digits.{word_bits-cons}

-- a word of k bits with one bit before them
pub record IsMore (word : ℕ) (bit : Bool) (k more : ℕ) : Type 0 where
  pub bits : word_bits more (k + 1) ≡ bit ∷ word_bits word k
  pub below : more < 2 ^ (k + 1)

pub bit_more : (word : ℕ) (bit : Bool) (k : ℕ) → word < 2 ^ k → IsMore word bit k (2 * word + bool_byte bit)
bit_more word bit k below = record {
  bits = ap₂ word_bits turned (add-one k) ∙ word_bits-cons (bool_byte bit) word k (small bit) ∙ ap (λ b. b ∷ word_bits word k) (is_set bit);
  below = omega (arith, pow-add 2 k 1, small bit);
}
  where
    turned : 2 * word + bool_byte bit ≡ bool_byte bit + 2 * word
    turned = omega arith

    small : (bit : Bool) → bool_byte bit < 2
    small true = omega arith
    small false = omega arith

    is_set : (bit : Bool) → (bool_byte bit == 1) ≡ bit
    is_set true = refl
    is_set false = refl

-- which items are valid, read one by one
pub each-presence : (ds : Items) → each (λ d. Some (is_there d)) ds ≡ Some (presence ds)
unfolding each
each-presence no_items = refl
each-presence (item d ds) = rw (each-presence ds) refl

-- which never fails
pub each-presence_fails : {Y : Type 0} (ds : Items) (e : DocError) (y : Y) → Fails e (each (λ d. Some (is_there d)) ds) → Fails e (Some y)
each-presence_fails ds Malformed y none = let all = each-presence ds in absurd cc
each-presence_fails ds NoMemory y none = tt
