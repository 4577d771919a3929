-- One bit of bytes, written.
use Rattle.std.proofs.Common.{◌≡◌, ℕ, ◌*◌, ◌/◌, ◌%◌, ◌<◌, ◌≢◌, Bool, List, length, get_or, set, eqb, subst, sym}
use Rattle.std.specs.Int.{bit_at}
use Rattle.vx_lemmas.proofs.Bits.{other_bits, set_bit}
use Rattle.vx_arrow_columns.specs.Written.{PutsBit}

pub puts : (bs : List ℕ) (j x : ℕ) (b : Bool) → j < 8 * length bs → eqb (bit_at x (j % 8)) 1 ≡ b
    → ((r : ℕ) → r < 8 → r ≢ j % 8 → bit_at x r ≡ bit_at (get_or bs (j / 8) 0) r)
    → PutsBit bs (set bs (j / 8) x) j b
puts bs j x b lt same others = record { put = set_bit bs j x b lt same; others = other_bits bs j x lt others }

pub puts_from : (bs : List ℕ) (j x y : ℕ) (a b : Bool) → x ≡ y → a ≡ b → PutsBit bs (set bs (j / 8) y) j b → PutsBit bs (set bs (j / 8) x) j a
puts_from bs j x y a b e f h = subst (λ (z : ℕ). PutsBit bs (set bs (j / 8) z) j a) (sym e) (subst (λ (v : Bool). PutsBit bs (set bs (j / 8) y) j v) (sym f) h)
