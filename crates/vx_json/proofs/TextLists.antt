-- Texts that are read one behind another.
use Rattle.std.proofs.Common.{◌≡◌, ℕ, ◌+◌, ◌<◌, ◌≤◌, nat_le, true, false, List, [], ◌∷◌, ◌++◌, map, length, get_or, drop, Option, Some, None, option_and_then, refl, sym, ap, ap₂, ◌∙◌, arith}
use Rattle.std.specs.List.{concat}
use Rattle.std.proofs.lemmas.List.{append-nil, length-append, map-append}
use Rattle.std.proofs.lemmas.List.Folds.{concat-append}
use Rattle.std.proofs.Math.Seq.{drop-append_seam}
use Rattle.serde_json.specs.View.{view, items_view}
use Rattle.serde_json.specs.declared.value.Value.{Value}
use Rattle.vx_types.specs.declared.text.TextKind.{TextKind}
use Rattle.vx_json.specs.Meaning.{Fails, with_read}
use Rattle.vx_json.specs.declared.error.DocError.{DocError}
use Rattle.vx_json.specs.declared.error.DocError.TheVariants.{Malformed, NoMemory}
use Rattle.vx_json.specs.Items.{each}
use Rattle.vx_json.specs.Texts.{text_or_empty, ends_from, offset_record, offset_records, strung}
use Rattle.vx_json.proofs.Reading.{IsReading, reading_starts, reading_goes_on, reading_fails, reading_ends, read_behind}

module _ {A : Type 0} (old : List A) where
  -- what was read behind the old ones
  pub behind : (o : Option (List A)) (new : List A) → with_read old o ≡ Some new → o ≡ Some (drop (length old) new)
  behind o new e = read_behind old (length old) refl o new e

  pub grown : (o : Option (List A)) (new : List A) → with_read old o ≡ Some new → new ≡ old ++ drop (length old) new
  grown None new e = absurd cc
  grown (Some xs) new e =
      let same : new ≡ old ++ xs = cc in
      let cut : drop (length old) new ≡ xs = ap (drop (length old)) same ∙ drop-append_seam old xs in
      same ∙ ap (λ l. old ++ l) (sym cut)

  -- nothing was read
  pub not_behind : (e : DocError) (o : Option (List A)) → Fails e (with_read old o) → Fails e o
  not_behind Malformed None f = refl
  not_behind Malformed (Some xs) f = absurd cc
  not_behind NoMemory o f = tt

pub nothing_then : {A B : Type 0} (f : A → Option B) (e : DocError) (o : Option A) → Fails e o → Fails e (option_and_then f o)
nothing_then f Malformed None h = refl
nothing_then f Malformed (Some a) h = absurd cc
nothing_then f NoMemory o h = tt

-- an item that is none of the texts of which f makes something
pub text_fails : {A : Type 0} (f : List (List ℕ) → Option A) (kind : TextKind) (vs : List Value) (k : ℕ) (texts : List (List ℕ)) {whole : Option (List (List ℕ))} → IsReading (text_or_empty kind) vs k texts whole → (bytes : List ℕ) (e : DocError) (v : Value) → k < length vs → v ≡ get_or vs k v → Fails e (with_read bytes (text_or_empty kind (view v))) → Fails e (option_and_then f whole)
text_fails f kind vs k texts {whole} reading bytes e v h is none =
    nothing_then f e whole (reading_fails (text_or_empty kind) vs k texts {whole = whole} reading e v h is (not_behind bytes e (text_or_empty kind (view v)) none))

-- one text more
concat-one : (xs : List (List ℕ)) (x : List ℕ) → concat (xs ++ x ∷ []) ≡ concat xs ++ x
concat-one xs x = concat-append xs (x ∷ []) ∙ ap (λ l. concat xs ++ l) (append-nil x)

ends-one : (n : ℕ) (xs : List (List ℕ)) (x : List ℕ) → ends_from n (xs ++ x ∷ []) ≡ ends_from n xs ++ (n + length (concat xs ++ x)) ∷ []
ends-one n [] x = refl
ends-one n (y ∷ ys) x =
    let more : length ((y ++ concat ys) ++ x) ≡ length y + length (concat ys ++ x) = omega (arith, length-append (y ++ concat ys) x, length-append y (concat ys), length-append (concat ys) x) in
    let place : n + length y + length (concat ys ++ x) ≡ n + length ((y ++ concat ys) ++ x) = omega (arith, more) in
    ap (λ l. (n + length y) ∷ l) (ends-one (n + length y) ys x ∙ ap (λ (m : ℕ). ends_from (n + length y) ys ++ m ∷ []) place)

offsets-one : (xs : List (List ℕ)) (x : List ℕ) → offset_records (xs ++ x ∷ []) ≡ offset_records xs ++ offset_record (length (concat xs ++ x)) ∷ []
offsets-one xs x =
    let zero : 0 + length (concat xs ++ x) ≡ length (concat xs ++ x) = omega arith in
    ap (λ l. offset_record 0 ∷ map offset_record l) (ends-one 0 xs x ∙ ap (λ (m : ℕ). ends_from 0 xs ++ m ∷ []) zero) ∙ ap (λ l. offset_record 0 ∷ l) (map-append offset_record (ends_from 0 xs) (length (concat xs ++ x) ∷ []))

-- The state of a loop that has read the texts before place k.
pub record IsStrung (kind : TextKind) (vs : List Value) (k : ℕ) (offsets : List (List ℕ)) (bytes : List ℕ) (whole : Option (List (List ℕ))) : Type 0 where
  pub texts : List (List ℕ)
  pub reading : IsReading (text_or_empty kind) vs k texts whole
  pub together : bytes ≡ concat texts
  pub cut : offsets ≡ offset_records texts

pub strung_starts : (kind : TextKind) (vs : List Value) (offsets : List (List ℕ)) → offsets ≡ offset_record 0 ∷ [] → IsStrung kind vs 0 offsets [] (each (text_or_empty kind) (items_view vs))
strung_starts kind vs offsets is = record {
  texts = [];
  reading = reading_starts (text_or_empty kind) vs;
  together = refl;
  cut = is;
}

module _ (kind : TextKind) (vs : List Value) (k : ℕ) (offsets : List (List ℕ)) (bytes : List ℕ) {whole : Option (List (List ℕ))} (s : IsStrung kind vs k offsets bytes whole) where
  -- one text more
  pub strung_goes_on : (v : Value) (new : List ℕ) → k < length vs → v ≡ get_or vs k v → with_read bytes (text_or_empty kind (view v)) ≡ Some new → IsStrung kind vs (k + 1) (offsets ++ offset_record (length new) ∷ []) new whole
  strung_goes_on v new h is gives =
      let x = drop (length bytes) new in
      let all : new ≡ concat s.texts ++ x = grown bytes (text_or_empty kind (view v)) new gives ∙ ap (λ l. l ++ x) s.together in
      record {
        texts = s.texts ++ x ∷ [];
        reading = reading_goes_on (text_or_empty kind) vs k s.texts {whole = whole} s.reading v x h is (behind bytes (text_or_empty kind (view v)) new gives);
        together = all ∙ sym (concat-one s.texts x);
        cut = ap₂ (λ (l : List (List ℕ)) (m : List ℕ). l ++ offset_record (length m) ∷ []) s.cut all ∙ sym (offsets-one s.texts x);
      }

  -- all are read
  pub strung_ends : length vs ≤ k → length bytes ≤ 2147483647 → option_and_then strung whole ≡ Some (offsets, bytes)
  unfolding strung
  strung_ends h few =
      let all = reading_ends (text_or_empty kind) vs k s.texts {whole = whole} s.reading h in
      let fits : nat_le (length (concat s.texts)) 2147483647 ≡ true = rw (← s.together) (grind arith) in
      rw (all, fits) (ap₂ (λ (l : List (List ℕ)) (m : List ℕ). Some (l, m)) (sym s.cut) (sym s.together))

  pub strung_past : length vs ≤ k → 2147483647 < length bytes → option_and_then strung whole ≡ None
  unfolding strung
  strung_past h many =
      let all = reading_ends (text_or_empty kind) vs k s.texts {whole = whole} s.reading h in
      let past : nat_le (length (concat s.texts)) 2147483647 ≡ false = rw (← s.together) (grind arith) in
      rw (all, past) refl
