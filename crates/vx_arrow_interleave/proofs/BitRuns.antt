-- Bits of one span, and those of the rows so far.
use Rattle.std.proofs.Common.{◌≡◌, ℕ, ◌+◌, ◌-◌, ◌/◌, ◌%◌, ◌<◌, ◌≤◌, Bool, false, ◌&&◌, List, length, get_or, take, ap, sym, ◌∙◌, refl, subst, inl, inr, eqb, ltb, arith}
use Rattle.std.specs.Int.{bit_at}
use Rattle.std.proofs.lemmas.Nat.Bits.{bit_at-zero}
use Rattle.std.proofs.lemmas.Bool.{cases_eq, cases_lt, le-ltb, lt-ltb}
use Rattle.std.proofs.lemmas.List.{get_or_past}
use Rattle.vx_arrow_image.specs.Image.{bit_of}
use Rattle.vx_arrow_columns.specs.Written.{PutsBit}
use Rattle.vx_arrow_interleave.specs.declared.spans.Span.{Span}
use Rattle.vx_arrow_interleave.specs.Bytes.{AreBits}
use Rattle.vx_arrow_interleave.specs.Spots.{Spot, spot, spot_at, spots}
use Rattle.vx_arrow_interleave.proofs.SpotLists.{no_span, spot_at_in_span, spots_all, spots_len, spots_none}

-- so many bits from one on are these, and the others are as they were
pub record BitsTo (f : ℕ → Bool) (old out : List ℕ) (at n : ℕ) : Type 0 where
  pub bits : (i : ℕ) → i < n → bit_of out (at + i) ≡ f i
  pub before : (j : ℕ) → j < at → bit_of out j ≡ bit_of old j
  pub behind : (j : ℕ) → at + n ≤ j → bit_of out j ≡ bit_of old j

pub no_bits : (f : ℕ → Bool) (old : List ℕ) (at : ℕ) → BitsTo f old old at 0
no_bits f old at = record { bits = λ i h. absurd (omega arith); before = λ j h. refl; behind = λ j h. refl }

pub bits_more : (f : ℕ → Bool) (old out new : List ℕ) (at n : ℕ) (b : Bool) → PutsBit out new (at + n) b → b ≡ f n → BitsTo f old out at n → BitsTo f old new at (n + 1)
bits_more f old out new at n b put is t = record {
  bits = λ i h. elim (cases_eq i n) as (λ _. bit_of new (at + i) ≡ f i) [
    | inl same ↦ ap (λ m. bit_of new (at + m)) same ∙ put.put ∙ is ∙ ap f (sym same)
    | inr other ↦ put.others (at + i) (λ e. other (omega arith)) ∙ t.bits i (omega arith)
  ];
  before = λ j h. put.others j (λ e. omega arith) ∙ t.before j h;
  behind = λ j h. put.others j (λ e. omega arith) ∙ t.behind j (omega arith);
}

-- bytes that are all zero have clear bits
pub clear_bits : (out : List ℕ) → ((i : ℕ) → i < length out → get_or out i 0 ≡ 0) → (j : ℕ) → bit_of out j ≡ false
clear_bits out zeros j =
    let byte : get_or out (j / 8) 0 ≡ 0 = elim (cases_lt (j / 8) (length out)) as (λ _. get_or out (j / 8) 0 ≡ 0) [
      | inl low ↦ zeros (j / 8) low
      | inr high ↦ get_or_past out (j / 8) 0 high
    ] in
    ap (λ y. eqb (bit_at y (j % 8)) 1) byte ∙ ap (λ n. eqb n 1) (bit_at-zero (j % 8))

-- ---- rows

-- the bits of the rows of the first k spans, which are `at`, and clear ones behind them
pub record RowBits (f : Spot → Bool) (ss : List Span) (k at : ℕ) (out : List ℕ) : Type 0 where
  pub at_is : at ≡ length (spots (take k ss))
  pub bits : (j : ℕ) → j < at → bit_of out j ≡ f (spot_at (spots ss) j)
  pub rest : (j : ℕ) → at ≤ j → bit_of out j ≡ false

pub no_rows : (f : Spot → Bool) (ss : List Span) (out : List ℕ) → ((j : ℕ) → bit_of out j ≡ false) → RowBits f ss 0 0 out
no_rows f ss out clear = record { at_is = sym (ap length (spots_none ss)); bits = λ j h. absurd (omega arith); rest = λ j h. clear j }

pub more_rows : (f : Spot → Bool) (g : ℕ → Bool) (ss : List Span) (k at : ℕ) (r : Span) (out new : List ℕ) → k < length ss → r ≡ get_or ss k no_span → BitsTo g out new at r.len → ((i : ℕ) → g i ≡ f (spot r.source (r.start + i)))
    → RowBits f ss k at out → RowBits f ss (k + 1) (at + r.len) new
more_rows f g ss k at r out new h e put is t = record {
  at_is = ap (λ n. n + r.len) t.at_is ∙ sym (spots_len ss k r h e);
  bits = λ j low. elim (cases_lt j at) as (λ _. bit_of new j ≡ f (spot_at (spots ss) j)) [
    | inl before ↦ put.before j before ∙ t.bits j before
    | inr behind ↦
        let i = j - at in
        let here : at + i ≡ j = omega arith in
        let within : i < r.len = omega arith in
        ap (bit_of new) (sym here) ∙ put.bits i within ∙ is i
        ∙ sym (ap f (ap (spot_at (spots ss)) (sym here ∙ ap (λ n. n + i) t.at_is) ∙ spot_at_in_span ss k i r h e within))
  ];
  rest = λ j high. put.behind j high ∙ t.rest j (omega arith);
}

-- a span of no rows changes nothing
pub same_rows : (f : Spot → Bool) (ss : List Span) (k at : ℕ) (r : Span) (out : List ℕ) → k < length ss → r ≡ get_or ss k no_span → r.len ≡ 0 → RowBits f ss k at out → RowBits f ss (k + 1) at out
same_rows f ss k at r out h e none t = record { at_is = omega (arith, t.at_is, spots_len ss k r h e); bits = t.bits; rest = t.rest }

pub as_rows : (f : Spot → Bool) (ss : List Span) (k at now : ℕ) (out new : List ℕ) → now ≡ at → new ≡ out → RowBits f ss k at out → RowBits f ss k now new
as_rows f ss k at now out new e g t = subst (λ (n : ℕ). RowBits f ss k n new) (sym e) (subst (RowBits f ss k at) (sym g) t)

pub all_rows : (f : Spot → Bool) (ss : List Span) (k at : ℕ) (out : List ℕ) → length ss ≤ k → RowBits f ss k at out → AreBits f (spots ss) out
all_rows f ss k at out h t =
    let n = length (spots ss) in
    let all : at ≡ n = t.at_is ∙ ap length (spots_all ss k h) in
    record {
      bits = λ j below. elim (cases_lt j n) as (λ _. bit_of out j ≡ (ltb j n && f (spot_at (spots ss) j))) [
        | inl low ↦ t.bits j (omega arith) ∙ sym (ap (λ b. b && f (spot_at (spots ss) j)) (lt-ltb j n low))
        | inr high ↦ t.rest j (omega arith) ∙ sym (ap (λ b. b && f (spot_at (spots ss) j)) (le-ltb j n high))
      ];
    }
