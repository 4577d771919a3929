-- Texts that are placed in a buffer or in their views, one after another.
use Rattle.std.proofs.Common.{◌≡◌, ℕ, ◌+◌, ◌<◌, ◌≤◌, nat_le, Bool, true, false, List, [], ◌∷◌, ◌++◌, length, get_or, take, drop, if◌then◌else◌, Option, Some, None, option_and_then, refl, sym, ap, ap₂, subst, ◌∙◌, append_assoc, arith}
use Rattle.std.proofs.lemmas.List.{append-nil, length-append}
use Rattle.std.proofs.Math.Seq.{take-append_seam}
use Rattle.serde_json.specs.View.{view, items_view}
use Rattle.serde_json.specs.declared.value.Value.{Value}
use Rattle.vx_types.specs.Text.{view_of}
use Rattle.vx_types.specs.declared.text.BinaryView.{BinaryView}
use Rattle.vx_types.specs.declared.text.TextKind.{TextKind}
use Rattle.vx_json.specs.Meaning.{Fails, with_read}
use Rattle.vx_json.specs.declared.error.DocError.{DocError}
use Rattle.vx_json.specs.declared.error.DocError.TheVariants.{Malformed, NoMemory}
use Rattle.vx_json.specs.Items.{each}
use Rattle.vx_json.specs.Texts.{text_or_empty}
use Rattle.vx_json.specs.Views.{outside, all_outside, views_from, views_and_buffer}
use Rattle.vx_json.proofs.Reading.{IsReading, reading_goes_on, reading_ends}
use Rattle.vx_json.proofs.TextLists.{behind, grown}

outside-append : (xs ys : List (List ℕ)) → all_outside (xs ++ ys) ≡ all_outside xs ++ all_outside ys
outside-append [] ys = refl
outside-append (x ∷ xs) ys = ap (λ l. outside x ++ l) (outside-append xs ys) ∙ sym (append_assoc (outside x) (all_outside xs) (all_outside ys))

outside-one : (xs : List (List ℕ)) (x : List ℕ) → all_outside (xs ++ x ∷ []) ≡ all_outside xs ++ outside x
outside-one xs x = outside-append xs (x ∷ []) ∙ ap (λ l. all_outside xs ++ l) (append-nil (outside x))

views-one : (n : ℕ) (xs : List (List ℕ)) (x : List ℕ) → views_from n (xs ++ x ∷ []) ≡ views_from n xs ++ view_of x 0 (n + length (all_outside xs)) ∷ []
views-one n [] x = let zero : n ≡ n + 0 = omega arith in ap (λ (m : ℕ). view_of x 0 m ∷ []) zero
views-one n (y ∷ ys) x =
    let place : n + length (outside y) + length (all_outside ys) ≡ n + length (outside y ++ all_outside ys) = omega (arith, length-append (outside y) (all_outside ys)) in
    ap (λ l. view_of y 0 n ∷ l) (views-one (n + length (outside y)) ys x ∙ ap (λ (m : ℕ). views_from (n + length (outside y)) ys ++ view_of x 0 m ∷ []) place)

there : {A : Type 0} (b : Bool) (a w : A) → (if b then Some a else None) ≡ Some w → (b ≡ true) × (a ≡ w)
there true a w e = (refl, cc)
there false a w e = absurd cc

missing : {A : Type 0} (b : Bool) (a : A) → (if b then Some a else None) ≡ None → b ≡ false
missing true a e = absurd cc
missing false a e = refl

-- The state of a loop that has placed the texts before place k.
pub record IsPlaced (kind : TextKind) (vs : List Value) (k : ℕ) (views : List BinaryView) (bytes : List ℕ) (whole : Option (List (List ℕ))) : Type 0 where
  pub texts : List (List ℕ)
  pub reading : IsReading (text_or_empty kind) vs k texts whole
  pub together : bytes ≡ all_outside texts
  pub cut : views ≡ views_from 0 texts

module _ (kind : TextKind) (vs : List Value) (k : ℕ) (views : List BinaryView) (bytes : List ℕ) {whole : Option (List (List ℕ))} (s : IsPlaced kind vs k views bytes whole) where
  -- one text more
  pub placed_goes_on : (v : Value) (new : List ℕ) → k < length vs → v ≡ get_or vs k v → with_read bytes (text_or_empty kind (view v)) ≡ Some new → IsPlaced kind vs (k + 1) (views ++ view_of (drop (length bytes) new) 0 (length bytes) ∷ []) (bytes ++ outside (drop (length bytes) new)) whole
  placed_goes_on v new h is gives =
      let x = drop (length bytes) new in
      let zero : length (all_outside s.texts) ≡ 0 + length (all_outside s.texts) = omega arith in
      record {
        texts = s.texts ++ x ∷ [];
        reading = reading_goes_on (text_or_empty kind) vs k s.texts {whole = whole} s.reading v x h is (behind bytes (text_or_empty kind (view v)) new gives);
        together = ap (λ l. l ++ outside x) s.together ∙ sym (outside-one s.texts x);
        cut = ap₂ (λ (l : List BinaryView) (m : List ℕ). l ++ view_of x 0 (length m) ∷ []) s.cut s.together ∙ ap (λ (m : ℕ). views_from 0 s.texts ++ view_of x 0 m ∷ []) zero ∙ sym (views-one 0 s.texts x);
      }

  -- all are read
  pub placed_ends : length vs ≤ k → length bytes ≤ 4294967295 → option_and_then views_and_buffer whole ≡ Some (views, bytes)
  unfolding views_and_buffer
  placed_ends h few =
      let all = reading_ends (text_or_empty kind) vs k s.texts {whole = whole} s.reading h in
      let fits : nat_le (length (all_outside s.texts)) 4294967295 ≡ true = rw (← s.together) (grind arith) in
      rw (all, fits) (ap₂ (λ (l : List BinaryView) (m : List ℕ). Some (l, m)) (sym s.cut) (sym s.together))

  -- a text that stands too far back, whatever follows
  pub placed_past : (v : Value) (new : List ℕ) → k < length vs → v ≡ get_or vs k v → with_read bytes (text_or_empty kind (view v)) ≡ Some new → 4294967295 < length bytes + length (outside (drop (length bytes) new)) → option_and_then views_and_buffer whole ≡ None
  unfolding views_and_buffer
  placed_past v new h is gives past =
      by (each (text_or_empty kind) (items_view (drop (k + 1) vs))) next.so_far
    where
      x : List ℕ
      x = drop (length bytes) new

      next : IsReading (text_or_empty kind) vs (k + 1) (s.texts ++ x ∷ []) whole
      next = reading_goes_on (text_or_empty kind) vs k s.texts {whole = whole} s.reading v x h is (behind bytes (text_or_empty kind (view v)) new gives)

      by : (rest : Option (List (List ℕ))) → with_read (s.texts ++ x ∷ []) rest ≡ whole → option_and_then views_and_buffer whole ≡ None
      by None e = rw (← e) refl
      by (Some xs) e =
          let cut : all_outside ((s.texts ++ x ∷ []) ++ xs) ≡ (bytes ++ outside x) ++ all_outside xs = outside-append (s.texts ++ x ∷ []) xs ∙ ap (λ l. l ++ all_outside xs) (outside-one s.texts x ∙ ap (λ l. l ++ outside x) (sym s.together)) in
          let long : 4294967295 < length (all_outside ((s.texts ++ x ∷ []) ++ xs)) = omega (arith, past, ap length cut, length-append (bytes ++ outside x) (all_outside xs), length-append bytes (outside x)) in
          let over : nat_le (length (all_outside ((s.texts ++ x ∷ []) ++ xs))) 4294967295 ≡ false = grind (arith, long) in
          rw (← e) (rw over refl)

  -- ---- by what `place` answers of the text behind the others
  module _ (v : Value) (new : List ℕ) (h : k < length vs) (is : v ≡ get_or vs k v) (gives : with_read bytes (text_or_empty kind (view v)) ≡ Some new) where
    front : take (length bytes) new ≡ bytes
    front = ap (take (length bytes)) (grown bytes (text_or_empty kind (view v)) new gives) ∙ take-append_seam bytes (drop (length bytes) new)

    pub placed_next : (start : ℕ) (w : BinaryView) (left : List ℕ) → start ≡ length bytes → (if nat_le (start + length (outside (drop start new))) 4294967295 then Some (view_of (drop start new) 0 start) else None) ≡ Some w → left ≡ take start new ++ outside (drop start new) → IsPlaced kind vs (k + 1) (views ++ w ∷ []) left whole × (length left ≤ 4294967295)
    placed_next start w left at view_is left_is =
        let x = drop (length bytes) new in
        let told = there (nat_le (length bytes + length (outside x)) 4294967295) (view_of x 0 (length bytes)) w (rw at at view_is) in
        let all : left ≡ bytes ++ outside x = rw at at left_is ∙ ap (λ l. l ++ outside x) front in
        let few : length bytes + length (outside x) ≤ 4294967295 = grind (arith, told.0) in
        let next = placed_goes_on v new h is gives in
        (subst (λ (l : List ℕ). IsPlaced kind vs (k + 1) (views ++ w ∷ []) l whole) (sym all) (subst (λ (u : BinaryView). IsPlaced kind vs (k + 1) (views ++ u ∷ []) (bytes ++ outside x) whole) told.1 next), omega (arith, few, ap length all, length-append bytes (outside x)))

    pub placed_no_more : (start : ℕ) (e : DocError) → start ≡ length bytes → Fails e (if nat_le (start + length (outside (drop start new))) 4294967295 then Some (view_of (drop start new) 0 start) else None) → Fails e (option_and_then views_and_buffer whole)
    placed_no_more start Malformed at none =
        let x = drop (length bytes) new in
        let over = missing (nat_le (length bytes + length (outside x)) 4294967295) (view_of x 0 (length bytes)) (rw at at none) in
        let past : 4294967295 < length bytes + length (outside x) = grind (arith, over) in
        placed_past v new h is gives past
    placed_no_more start NoMemory at none = tt
