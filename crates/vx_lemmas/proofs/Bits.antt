-- Bits of bytes of which one is written anew.
use Rattle.std.proofs.Common.{◌≡◌, ℕ, ◌*◌, ◌/◌, ◌%◌, ◌<◌, ◌≢◌, Bool, List, length, get_or, set, eqb, ap, ◌∙◌, sym, inl, inr, arith, get_or-set_same, get_or-set_other}
use Rattle.std.specs.Int.{bit_at}
use Rattle.std.proofs.lemmas.Bool.{cases_eq}

-- bit j of the bytes is the bit of the byte that is written
pub set_bit : (bs : List ℕ) (j x : ℕ) (b : Bool) → j < 8 * length bs → eqb (bit_at x (j % 8)) 1 ≡ b → eqb (bit_at (get_or (set bs (j / 8) x) (j / 8) 0) (j % 8)) 1 ≡ b
set_bit bs j x b lt same =
    let within : j / 8 < length bs = omega arith in
    ap (λ y. eqb (bit_at y (j % 8)) 1) (get_or-set_same bs (j / 8) x 0 within) ∙ same

-- the others are as they were, where the byte's others are
pub other_bits : (bs : List ℕ) (j x : ℕ) → j < 8 * length bs
    → ((r : ℕ) → r < 8 → r ≢ j % 8 → bit_at x r ≡ bit_at (get_or bs (j / 8) 0) r)
    → (i : ℕ) → i ≢ j → eqb (bit_at (get_or (set bs (j / 8) x) (i / 8) 0) (i % 8)) 1 ≡ eqb (bit_at (get_or bs (i / 8) 0) (i % 8)) 1
other_bits bs j x lt others i ne =
    let within : j / 8 < length bs = omega arith in
    elim (cases_eq (i / 8) (j / 8)) [
      | inl e ↦
          let other : i % 8 ≢ j % 8 = λ f. ne (omega arith) in
          ap (λ q. eqb (bit_at (get_or (set bs (j / 8) x) q 0) (i % 8)) 1) e
          ∙ ap (λ y. eqb (bit_at y (i % 8)) 1) (get_or-set_same bs (j / 8) x 0 within)
          ∙ ap (λ y. eqb y 1) (others (i % 8) (omega arith) other)
          ∙ ap (λ q. eqb (bit_at (get_or bs q 0) (i % 8)) 1) (sym e)
      | inr f ↦ ap (λ y. eqb (bit_at y (i % 8)) 1) (get_or-set_other bs (j / 8) (i / 8) x 0 f)
    ]
