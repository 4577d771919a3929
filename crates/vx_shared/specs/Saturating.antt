-- A count of owners that saturates: what is kept beside the count, and what each owner has.
-- The value is shared for a lifetime ν of its own, which is a.0. A second one, σ or a.1, lives for
-- as long as the count is exact.
--     S n      the cell of the count, at n.        P      the value with its block, whole.        t
--      what a `&` to the value holds
-- While σ lives, each owner has one of the 2 ^ 64 parts of ν's token, and the invariant at the key
-- k has the others, the right to have P back once ν is over, and σ's token. So an owner that shows
-- σ dead is not among these.
-- Another owner at a full count ends σ. The right to P is let go, and each owner that is made from
-- then on gets a half of what the invariant still has of ν's token.
use Rattle.std.specs.Prelude.{◌≡◌, ℕ, ◌^◌, ◌-◌, Bool, true, false, [], ◌∷◌}
use base.Fraction.{full_share}
use base.FractionLaws.{Counts}
use base.Fml.{Lft, Key, Share, Fml, ftrue, fsep, fex, fdead, flft, flent}
use types.Na.{na_inv}
use types.RcWeak.{rest}
use denote.Hidden.{kept}
use denote.Sharing.{beside, one, some, held}

-- the count at which another owner is no longer counted
abbrev pub limit : ℕ
limit = 2 ^ 64 - 1

abbrev pub Id : Type 0
Id = ℕ × ℕ

abbrev pub ν : Id → Lft
ν a = a.0 ∷ []

abbrev pub σ : Id → Lft
σ a = a.1 ∷ []

-- why an owner with the share s of ν's token is one: it is counted, or the count is exact no more
abbrev pub standing : Id → Share → Bool → Fml
standing a s true = fex (Counts 64 s 1) (λ _. ftrue)
standing a s false = fdead (σ a)

abbrev pub stake : Id → Share × Bool → Fml
stake a e = fsep (flft (ν a) e.0) (standing a e.0 e.1)

abbrev pub ticket : Id → Fml
ticket a = fex (Share × Bool) (stake a)

abbrev pub saturated : Id → Fml
saturated a = fsep (fdead (σ a)) (fex Share (λ r. flft (ν a) r))

module _ (P : Fml) where
  abbrev pub exact : Id → ℕ → Fml
  exact a n = fsep (rest 64 a.0 n) (fsep (flent (ν a) P) (flft (σ a) full_share))

  -- beside a count of n: it is exact, or it is full and stays
  abbrev pub tally : Id → Bool → ℕ → Fml
  tally a true n = exact a n
  tally a false n = fex (n ≡ limit) (λ _. saturated a)

module _ (k : Key) (S : ℕ → Fml) (P : Fml) where
  abbrev pub counting : Id → Bool × ℕ → Fml
  counting a u = fsep (S u.1) (tally P a u.0 u.1)

  abbrev pub state : Id → Bool → Fml
  state a true = fex (Bool × ℕ) (counting a)
  state a false = fdead (ν a)

  abbrev pub Inv : Id → Fml
  Inv a = fex Bool (state a)

  module _ (t : Lft → Fml) where
    abbrev pub handle : Id → Fml
    handle a = fsep (ticket a) (fsep (na_inv k (Inv a)) (t (ν a)))

    abbrev pub lent : Id → Lft → Fml
    lent a = beside (one (λ q. flft (ν a) q)) (beside (kept k (Inv a)) (held (ν a) t))

    -- what an owner has, and what a `&` to one holds
    abbrev pub owner_owns : Fml
    owner_owns = fex Id handle

    abbrev pub owner_lends : Lft → Fml
    owner_lends = some Id lent
