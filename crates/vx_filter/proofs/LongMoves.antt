-- Runs that move down within their list part by part.
use Rattle.std.proofs.Common.{◌≡◌, ℕ, ◌+◌, ◌-◌, ◌≤◌, List, ◌++◌, take, drop, sym, ap, subst, ◌∙◌, arith, append_assoc}
use Rattle.std.proofs.lemmas.List.{drop-drop}
use Rattle.std.proofs.Math.Seq.{take-add}
use Rattle.vx_filter.proofs.Moves.{same_further}

module _ {X : Type 0} where
  -- items stand in front, and those behind where they came from are as they were
  pub record IsMovedTo (old now : List X) (from to moved : ℕ) : Type 0 where
    pub front : take (to + moved) now ≡ take to old ++ take moved (drop from old)
    pub after : drop (from + moved) now ≡ drop (from + moved) old

  -- one part more was moved
  pub part_moved : (old now new : List X) (from to moved part : ℕ) → IsMovedTo old now from to moved → take (to + moved + part) new ≡ take (to + moved) now ++ take part (drop (from + moved) now) → drop (from + (moved + part)) new ≡ drop (from + (moved + part)) now → IsMovedTo old new from to (moved + part)
  part_moved old now new from to moved part h front after =
      let run = drop from old in
      let at : to + (moved + part) ≡ to + moved + part = omega arith in
      let left : drop (from + moved) now ≡ drop moved run = h.after ∙ sym (drop-drop moved from old) in
      record {
        front =
            ap (λ k. take k new) at ∙ front ∙ ap (λ l. l ++ take part (drop (from + moved) now)) h.front
            ∙ append_assoc (take to old) (take moved run) (take part (drop (from + moved) now))
            ∙ ap (λ l. take to old ++ (take moved run ++ take part l)) left
            ∙ ap (λ l. take to old ++ l) (sym (take-add moved part run));
        after = after ∙ same_further old now (from + moved) (from + (moved + part)) (omega arith) h.after;
      }

  -- all that was left of `count` items was moved
  pub rest_moved : (old now new : List X) (from to moved count : ℕ) → moved ≤ count → IsMovedTo old now from to moved → take (to + moved + (count - moved)) new ≡ take (to + moved) now ++ take (count - moved) (drop (from + moved) now) → drop (from + moved + (count - moved)) new ≡ drop (from + moved + (count - moved)) now → IsMovedTo old new from to count
  rest_moved old now new from to moved count within h front after =
      let all : moved + (count - moved) ≡ count = omega arith in
      let end : from + moved + (count - moved) ≡ from + (moved + (count - moved)) = omega arith in
      let behind = subst (λ (n : ℕ). drop n new ≡ drop n now) end after in
      subst (λ (n : ℕ). IsMovedTo old new from to n) all (part_moved old now new from to moved (count - moved) h front behind)

  -- a run that stands where it goes to
  pub in_its_place : (old : List X) (from to count : ℕ) → from ≡ to → take (to + count) old ≡ take to old ++ take count (drop from old)
  in_its_place old from to count e =
      take-add to count old ∙ ap (λ k. take to old ++ take count (drop k old)) (sym e)
