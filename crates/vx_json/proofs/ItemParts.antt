-- The items of a list, part by part.
use Rattle.std.proofs.Common.{◌≡◌, ℕ, ◌+◌, List, [], ◌∷◌, ◌++◌, take, drop, Option, Some, None, refl, sym, ap, ◌∙◌, append_assoc, take-append-drop, length, get_or, ◌<◌, ◌≤◌, arith}
use Rattle.std.proofs.lemmas.List.{drop-drop, length-take, length-drop}
use Rattle.serde_json.specs.Data.{Data}
use Rattle.serde_json.specs.View.{view, items_view}
use Rattle.serde_json.specs.declared.value.Value.{Value}
use Rattle.vx_json.specs.Meaning.{◌>>=◌, Fails, with_read}
use Rattle.vx_json.specs.Items.{each}
use Rattle.vx_json.specs.declared.error.DocError.{DocError}
use Rattle.vx_json.specs.declared.error.DocError.TheVariants.{Malformed, NoMemory}
use Rattle.vx_json.proofs.Reading.{none_read, items_from, IsReading}

-- what two parts mean, one behind the other
each-append : {A : Type 0} (f : Data → Option A) (vs ws : List Value) → each f (items_view (vs ++ ws)) ≡ (each f (items_view vs) >>= λ xs. with_read xs (each f (items_view ws)))
unfolding each
each-append f [] ws = sym (none_read (each f (items_view ws)))
each-append {A = A} f (v ∷ vs) ws = rw (each-append f vs ws) (regroup (f (view v)) (each f (items_view vs)) (each f (items_view ws)))
  where
    regroup : (o : Option A) (p r : Option (List A))
        → (o >>= λ x. ((p >>= λ xs. with_read xs r) >>= λ xs. Some (x ∷ xs))) ≡ ((o >>= λ x. (p >>= λ xs. Some (x ∷ xs))) >>= λ xs. with_read xs r)
    regroup None p r = refl
    regroup (Some x) None r = refl
    regroup (Some x) (Some xs) None = refl
    regroup (Some x) (Some xs) (Some more) = refl

-- the items from place k on, cut n further
cut_at : (vs : List Value) (k n : ℕ) → drop k vs ≡ take n (drop k vs) ++ drop (k + n) vs
cut_at vs k n = sym (take-append-drop n (drop k vs)) ∙ ap (λ l. take n (drop k vs) ++ l) (drop-drop n k vs)

-- a part that is there is as long as it says
pub part_long : (vs : List Value) (k n : ℕ) → k + n ≤ length vs → length (take n (drop k vs)) ≡ n
part_long vs k n h = simp (length-take, length-drop) (omega arith)

module _ {A : Type 0} (f : Data → Option A) (vs : List Value) (k : ℕ) (read : List A) {whole : Option (List A)} (r : IsReading f vs k read whole) (n : ℕ) where
  parts : with_read read (each f (items_view (take n (drop k vs))) >>= λ xs. with_read xs (each f (items_view (drop (k + n) vs)))) ≡ whole
  parts = sym (ap (λ l. with_read read (each f (items_view l))) (cut_at vs k n) ∙ ap (with_read read) (each-append f (take n (drop k vs)) (drop (k + n) vs))) ∙ r.so_far

  -- a part more
  pub part_goes_on : (more : List A) → each f (items_view (take n (drop k vs))) ≡ Some more → IsReading f vs (k + n) (read ++ more) whole
  part_goes_on more is =
      let all : with_read read (with_read more (each f (items_view (drop (k + n) vs)))) ≡ whole = rw is at parts in
      record { so_far = join (each f (items_view (drop (k + n) vs))) ∙ all }
    where
      join : (o : Option (List A)) → with_read (read ++ more) o ≡ with_read read (with_read more o)
      join None = refl
      join (Some xs) = ap Some (append_assoc read more xs)

  -- a part that gives nothing
  pub part_fails : (e : DocError) → Fails e (each f (items_view (take n (drop k vs)))) → Fails e whole
  part_fails Malformed none = let all : with_read read (None >>= λ xs. with_read xs (each f (items_view (drop (k + n) vs)))) ≡ whole = rw none at parts in sym all
  part_fails NoMemory none = tt

-- ---- from the last item back
module _ {A : Type 0} (f : Data → Option A) (vs : List Value) (k : ℕ) (v : Value) (h : k < length vs) (is : v ≡ get_or vs k v) where
  pub front_read : (x : A) (xs : List A) → f (view v) ≡ Some x → each f (items_view (drop (k + 1) vs)) ≡ Some xs → each f (items_view (drop k vs)) ≡ Some (x ∷ xs)
  unfolding each
  front_read x xs gives rest = rw (items_from vs k v h is, gives, rest) refl

  pub front_fails : (e : DocError) → Fails e (f (view v)) → Fails e (each f (items_view vs))
  unfolding each
  front_fails Malformed none =
      let from : each f (items_view (drop k vs)) ≡ None = rw (items_from vs k v h is, none) refl in
      ap (λ l. each f (items_view l)) (sym (take-append-drop k vs)) ∙ each-append f (take k vs) (drop k vs) ∙ rw from (nothing (each f (items_view (take k vs))))
    where
      nothing : (o : Option (List A)) → (o >>= λ xs. with_read xs None) ≡ None
      nothing None = refl
      nothing (Some xs) = refl
  front_fails NoMemory none = tt
