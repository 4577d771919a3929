-- Reading the items of a list one after another.
use Rattle.std.proofs.Common.{◌≡◌, ℕ, ◌+◌, ◌<◌, ◌≤◌, List, [], ◌∷◌, ◌++◌, length, get_or, drop, Option, Some, None, refl, sym, ap, ap₂, ◌∙◌, append_assoc, add-one, drop-cons, arith}
use Rattle.std.proofs.lemmas.List.{append-nil, drop_all, length-append}
use Rattle.std.proofs.Math.Seq.{drop-append_seam}
use Rattle.serde_json.specs.Data.{Data, item}
use Rattle.serde_json.specs.View.{view, items_view}
use Rattle.serde_json.specs.declared.value.Value.{Value}
use Rattle.vx_json.specs.Meaning.{◌>>=◌, Fails, with_read}
use Rattle.vx_json.specs.Items.{each}
use Rattle.vx_json.specs.declared.error.DocError.{DocError}
use Rattle.vx_json.specs.declared.error.DocError.TheVariants.{Malformed, NoMemory}

-- before the first item
pub none_read : {A : Type 0} (rest : Option (List A)) → with_read [] rest ≡ rest
none_read None = refl
none_read (Some xs) = refl

pub with_read-one : {A : Type 0} (read : List A) (x : A) (rest : Option (List A)) → with_read read (rest >>= λ xs. Some (x ∷ xs)) ≡ with_read (read ++ x ∷ []) rest
with_read-one read x None = refl
with_read-one read x (Some xs) = ap Some (simp append_assoc)

-- the items from place k on begin with the one there
pub items_from : (vs : List Value) (k : ℕ) (v : Value) → k < length vs → v ≡ get_or vs k v → items_view (drop k vs) ≡ item (view v) (items_view (drop (k + 1) vs))
items_from vs k v h is = ap items_view (drop-cons vs k v h) ∙ rw (← is, add-one) refl

-- The state of a loop that has read the items before place k: what was read, behind which the rest
-- gives the whole.
pub record IsReading {A : Type 0} (f : Data → Option A) (vs : List Value) (k : ℕ) (read : List A) (whole : Option (List A)) : Type 0 where
  pub so_far : with_read read (each f (items_view (drop k vs))) ≡ whole

pub reading_starts : {A : Type 0} (f : Data → Option A) (vs : List Value) → IsReading f vs 0 [] (each f (items_view vs))
reading_starts f vs = record { so_far = none_read (each f (items_view vs)) }

module _ {A : Type 0} (f : Data → Option A) (vs : List Value) (k : ℕ) (read : List A) {whole : Option (List A)} (r : IsReading f vs k read whole) where
  -- one item more
  pub reading_goes_on : (v : Value) (x : A) → k < length vs → v ≡ get_or vs k v → f (view v) ≡ Some x → IsReading f vs (k + 1) (read ++ x ∷ []) whole
  unfolding each
  reading_goes_on v x h is gives =
      let one : with_read read (each f (items_view (drop k vs))) ≡ with_read (read ++ x ∷ []) (each f (items_view (drop (k + 1) vs))) = rw (items_from vs k v h is, gives) (with_read-one read x _) in
      record { so_far = sym one ∙ r.so_far }

  -- an item that gives nothing
  pub reading_fails : (e : DocError) (v : Value) → k < length vs → v ≡ get_or vs k v → Fails e (f (view v)) → Fails e whole
  unfolding each
  reading_fails Malformed v h is none =
      let one : with_read read (each f (items_view (drop k vs))) ≡ None = rw (items_from vs k v h is, none) refl in
      sym r.so_far ∙ one
  reading_fails NoMemory v h is none = tt

  -- all are read
  pub reading_ends : length vs ≤ k → whole ≡ Some read
  unfolding each
  reading_ends h =
      let one : with_read read (each f (items_view (drop k vs))) ≡ Some read = rw (drop_all k vs h) (ap Some (append-nil read)) in
      sym r.so_far ∙ one

-- ---- what was read behind so many others
module _ {A : Type 0} (old : List A) (n : ℕ) (long : length old ≡ n) where
  pub read_behind : (rest : Option (List A)) (all : List A) → with_read old rest ≡ Some all → rest ≡ Some (drop n all)
  read_behind None all e = absurd cc
  read_behind (Some xs) all e =
      let same : all ≡ old ++ xs = cc in
      ap Some (sym (ap₂ drop (sym long) same ∙ drop-append_seam old xs))

  pub old_within : (rest : Option (List A)) (all : List A) → with_read old rest ≡ Some all → n ≤ length all
  old_within None all e = absurd cc
  old_within (Some xs) all e =
      let same : all ≡ old ++ xs = cc in
      omega (arith, length-append old xs, ap length same)
