-- The marks of blocks.
use Rattle.std.proofs.Common.{◌≡◌, ℕ, ◌+◌, ◌/◌, ◌<◌, ◌≤◌, Bool, true, false, ◌||◌, List, Option, None, Some, length, get_or, set, take, replicate, inl, inr, refl, sym, ap, ◌∙◌, arith, eq-eqb}
use Rattle.std.specs.List.{list_any}
use Rattle.std.proofs.lemmas.Bool.{cases_eq, ne_eqb}
use Rattle.std.proofs.lemmas.List.{get_or-replicate, get_or-set_other, get_or-set_same, length-replicate, length-set, take_all}
use Rattle.std.proofs.lemmas.List.Folds.{list_any_more}
use Rattle.vx_file.specs.Touched.{AreMarked, lies_in, with_mark}

pub no_marks : (n : ℕ) (picks : List (Option ℕ)) → AreMarked (replicate n false) (take 0 picks) n
no_marks n picks = record { long = length-replicate n false; each = λ k h. get_or-replicate n k false false h }

or_false : (b : Bool) → b ≡ (b || false)
or_false true = refl
or_false false = refl

or_true : (b : Bool) → true ≡ (b || true)
or_true true = refl
or_true false = refl

-- one more pick marks its block
marked_at : (marks : List Bool) (pick : Option ℕ) (k : ℕ) (any : Bool) → k < length marks → get_or marks k false ≡ any → get_or (with_mark marks pick) k false ≡ (any || lies_in k pick)
marked_at marks None k any h e = e ∙ or_false any
marked_at marks (Some p) k any h e = elim (cases_eq (p / 1024) k) [
  | inl same ↦
      ap (λ j. get_or (set marks j true) k false) same ∙ get_or-set_same marks k true false h ∙ or_true any
      ∙ sym (ap (λ b. any || b) (eq-eqb (p / 1024) k same))
  | inr other ↦
      get_or-set_other marks (p / 1024) k true false (λ e'. other (sym e')) ∙ e ∙ or_false any
      ∙ sym (ap (λ b. any || b) (ne_eqb (p / 1024) k other))
]

length-marked : (marks : List Bool) (pick : Option ℕ) → length (with_mark marks pick) ≡ length marks
length-marked marks None = refl
length-marked marks (Some p) = length-set marks (p / 1024) true

pub marks_more : (marks new : List Bool) (picks : List (Option ℕ)) (i n : ℕ) → i < length picks → AreMarked marks (take i picks) n → new ≡ with_mark marks (get_or picks i None) → AreMarked new (take (i + 1) picks) n
marks_more marks new picks i n h m e =
    record {
      long = ap length e ∙ length-marked marks (get_or picks i None) ∙ m.long;
      each = λ k p.
          ap (λ l. get_or l k false) e
          ∙ marked_at marks (get_or picks i None) k (list_any (lies_in k) (take i picks)) (omega (arith, m.long)) (m.each k p)
          ∙ sym (list_any_more (lies_in k) picks i None h);
    }

pub marks_all : (marks : List Bool) (picks : List (Option ℕ)) (i n : ℕ) → length picks ≤ i → AreMarked marks (take i picks) n → AreMarked marks picks n
marks_all marks picks i n h m =
    record {
      long = m.long;
      each = λ k p. m.each k p ∙ ap (list_any (lies_in k)) (take_all i picks h);
    }
