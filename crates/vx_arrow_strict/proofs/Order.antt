-- Offsets of the rows of a child, one after another.
use Rattle.std.proofs.Common.{zero, suc, ◌≡◌, ℕ, ◌+◌, ◌-◌, ◌<◌, ◌≤◌, true, false, List, length, get_or, set, ap, sym, ◌∙◌, refl, inl, inr, arith}
use Rattle.std.specs.Prelude.{◌⊎◌, replicate}
use Rattle.std.proofs.lemmas.Bool.{cases_eq, eq-eqb, eqb-true, le-leb, lt-leb, cond-true, cond_both}
use Rattle.std.proofs.lemmas.List.{get_or-set_same, get_or-set_other, length-set}
use Rattle.vx_arrow_image.specs.Image.{Part, dense_start}
use Rattle.vx_arrow_image.proofs.CutRows.{range_all}
use Rattle.vx_arrow_image.proofs.Stacks.{range_falls}
use Rattle.vx_arrow_strict.specs.Dense.{follows, id_of, precedes}

-- an earlier row with this id and this offset
pub record IsEarlier (p : Part) (i id at : ℕ) : Type 0 where
  pub row : ℕ
  pub from : p.offset ≤ row
  pub below : row < i
  pub same : id_of p row ≡ id
  pub offset : dense_start p row ≡ at

-- for each id the highest offset of the rows before row i, or 0
pub record AreHighest (p : Part) (last : List ℕ) (i : ℕ) : Type 0 where
  pub size : length last ≡ 256
  pub high : (j : ℕ) → p.offset ≤ j → j < i → dense_start p j ≤ get_or last (id_of p j) 0
  pub reached : (id : ℕ) → (get_or last id 0 ≡ 0) ⊎ IsEarlier p i id (get_or last id 0)

precedes_from : (p : Part) (i j : ℕ) → (id_of p j ≡ id_of p i → dense_start p j ≤ dense_start p i) → precedes p i j ≡ true
precedes_from p i j h = cond_both _ _ true (λ b. b ≡ true) (λ e. le-leb _ _ (h (eqb-true _ _ e))) (λ e. refl)

pub follows_from : (p : Part) (last : List ℕ) (i id at : ℕ) → p.offset ≤ i → AreHighest p last i → id ≡ id_of p i → at ≡ dense_start p i → get_or last id 0 ≤ at → follows p i ≡ true
unfolding follows
follows_from p last i id at from s e f h =
    range_all (precedes p i) p.offset (i - p.offset) (λ j low high. precedes_from p i j (λ same.
    let up = s.high j low (omega arith) in
    let one : get_or last (id_of p j) 0 ≡ get_or last id 0 = ap (λ (k : ℕ). get_or last k 0) (same ∙ sym e) in
    omega arith))

pub follows_not : (p : Part) (last : List ℕ) (i id at : ℕ) → p.offset ≤ i → AreHighest p last i → id ≡ id_of p i → at ≡ dense_start p i → at < get_or last id 0 → follows p i ≡ false
unfolding follows
follows_not p last i id at from s e f h =
    elim (s.reached id) as (λ _. follows p i ≡ false) [
      | inl none ↦ absurd (omega arith)
      | inr r ↦ let low = r.from in
          let below = r.below in
          let above = r.offset in
          sym (range_falls (precedes p i) p.offset (i - p.offset) r.row low (omega arith) (cond-true _ _ _ (eq-eqb _ _ (r.same ∙ e)) ∙ lt-leb _ _ (omega arith)))
    ]

later : (p : Part) (i id at : ℕ) → IsEarlier p i id at → IsEarlier p (i + 1) id at
later p i id at r = let below = r.below in record { row = r.row; from = r.from; below = omega arith; same = r.same; offset = r.offset }

pub copies : (n k x : ℕ) → get_or (replicate n x) k x ≡ x
copies zero k x = refl
copies (suc n) zero x = refl
copies (suc n) (suc k) x = copies n k x

pub highest_first : (p : Part) (last : List ℕ) (i : ℕ) → length last ≡ 256 → i ≡ p.offset → ((k : ℕ) → get_or last k 0 ≡ 0) → AreHighest p last i
highest_first p last i size e zeros = record {
  size = size;
  high = λ j low high. absurd (omega arith);
  reached = λ id. inl (zeros id);
}

pub highest_next : (p : Part) (last last' : List ℕ) (i id at : ℕ) → p.offset ≤ i → AreHighest p last i → id < 256 → id ≡ id_of p i → at ≡ dense_start p i → get_or last id 0 ≤ at → last' ≡ set last id at → AreHighest p last' (i + 1)
highest_next p last last' i id at from s small e f h is =
    let size = s.size in
    let same : get_or last' id 0 ≡ at = ap (λ (l : List ℕ). get_or l id 0) is ∙ get_or-set_same last id at 0 (omega arith) in
    let other = λ (k : ℕ) (ne : k ≡ id → ⊥). ap (λ (l : List ℕ). get_or l k 0) is ∙ get_or-set_other last id k at 0 ne in
    record {
      size = ap length is ∙ length-set last id at ∙ size;
      high = λ j low high.
          elim (cases_eq (id_of p j) id) as (λ _. dense_start p j ≤ get_or last' (id_of p j) 0) [
            | inl eq ↦ let here : get_or last' (id_of p j) 0 ≡ at = ap (λ (k : ℕ). get_or last' k 0) eq ∙ same in
                elim (cases_eq j i) as (λ _. dense_start p j ≤ get_or last' (id_of p j) 0) [
                  | inl now ↦ let a : dense_start p j ≡ dense_start p i = ap (dense_start p) now in omega arith
                  | inr before ↦ let up = s.high j low (omega arith) in
                      let there : get_or last (id_of p j) 0 ≡ get_or last id 0 = ap (λ (k : ℕ). get_or last k 0) eq in
                      omega arith
                ]
            | inr ne ↦ let there : get_or last' (id_of p j) 0 ≡ get_or last (id_of p j) 0 = other (id_of p j) ne in
                let up = s.high j low (let n : j ≡ i → ⊥ = λ now. ne (ap (id_of p) now ∙ sym e) in omega arith) in
                omega arith
          ];
      reached = λ k.
          elim (cases_eq k id) as (λ _. (get_or last' k 0 ≡ 0) ⊎ IsEarlier p (i + 1) k (get_or last' k 0)) [
            | inl eq ↦ inr (record { row = i; from = from; below = omega arith; same = sym e ∙ sym eq; offset = sym f ∙ sym same ∙ ap (λ (m : ℕ). get_or last' m 0) (sym eq) })
            | inr ne ↦ let there : get_or last' k 0 ≡ get_or last k 0 = other k ne in
                elim (s.reached k) as (λ _. (get_or last' k 0 ≡ 0) ⊎ IsEarlier p (i + 1) k (get_or last' k 0)) [
                  | inl none ↦ inl (there ∙ none)
                  | inr r ↦ inr (let q = later p i k (get_or last k 0) r in record { row = q.row; from = q.from; below = q.below; same = q.same; offset = q.offset ∙ sym there })
                ]
          ];
    }

pub follows_more : (p : Part) (i : ℕ) → ((j : ℕ) → p.offset ≤ j → j < i → follows p j ≡ true) → follows p i ≡ true → (j : ℕ) → p.offset ≤ j → j < i + 1 → follows p j ≡ true
follows_more p i before now j low high =
    elim (cases_eq j i) as (λ _. follows p j ≡ true) [
      | inl e ↦ ap (follows p) e ∙ now
      | inr other ↦ before j low (omega arith)
    ]
