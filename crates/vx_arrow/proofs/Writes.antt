-- Places and bits, written one after another.
use Rattle.std.proofs.Common.{◌≡◌, ℕ, ◌+◌, ◌-◌, ◌*◌, ◌/◌, ◌%◌, ◌<◌, ◌≤◌, ◌≢◌, Bool, List, [], ◌∷◌, ◌++◌, length, get_or, take, drop, set, map, eqb, Option, None, refl, ap, ap₂, subst, ◌∙◌, sym, inl, inr, arith, get_or-set_same, get_or-set_other, length-take-le, append_assoc, drop-cons, add-one}
use Rattle.std.specs.Prelude.{is_some}
use Rattle.std.specs.Int.{bit_at}
use Rattle.std.proofs.lemmas.Bool.{cases_eq, cases_lt}
use Rattle.std.proofs.lemmas.Nat.Bits.{bit_at-zero}
use Rattle.std.proofs.lemmas.List.{same_lists, length-map, get_or-map, map_push, take_more, set_at, drop-drop, take-append-drop}
use Rattle.vx_lemmas.proofs.Bits.{other_bits, set_bit}
use Rattle.vx_bits.specs.BitBuffer.{bit_of}
use Rattle.vx_bits.proofs.BitLists.{bit_in, length_bits}
use Rattle.vx_arrow.specs.Written.{AreMarked, IsByteOf, IsMarked, place_of}

-- ---- one bit

pub marked : (bs : List ℕ) (j x : ℕ) (b : Bool) → j < 8 * length bs → eqb (bit_at x (j % 8)) 1 ≡ b
    → ((r : ℕ) → r < 8 → r ≢ j % 8 → bit_at x r ≡ bit_at (get_or bs (j / 8) 0) r)
    → IsMarked bs (set bs (j / 8) x) j b
marked bs j x b lt same others = record { mark = set_bit bs j x b lt same; others = other_bits bs j x lt others }

pub marked_by : (bs : List ℕ) (j x y : ℕ) (a b : Bool) → x ≡ y → a ≡ b → IsMarked bs (set bs (j / 8) y) j b → IsMarked bs (set bs (j / 8) x) j a
marked_by bs j x y a b e f h = subst (λ (z : ℕ). IsMarked bs (set bs (j / 8) z) j a) (sym e) (subst (λ (v : Bool). IsMarked bs (set bs (j / 8) y) j v) (sym f) h)

-- ---- bits of picks

-- the bits of the first k picks are written
pub record Marked (picks : List (Option ℕ)) (old new : List ℕ) (k : ℕ) : Type 0 where
  pub marks : (j : ℕ) → j < k → bit_of new j ≡ is_some (get_or picks j None)
  pub rest : (j : ℕ) → k ≤ j → bit_of new j ≡ bit_of old j

pub all_marked : (picks : List (Option ℕ)) (old new : List ℕ) (k : ℕ) → k ≡ length picks → Marked picks old new k → AreMarked picks old new
all_marked picks old new k e m =
    record {
      marks = same_lists _ _ (length_bits new 0 (length picks) ∙ sym (length-map picks is_some)) (λ j d h.
          let below : j < length picks = omega (arith, length_bits new 0 (length picks)) in
          let at : 0 + j ≡ j = omega arith in
          bit_in new 0 (length picks) j d below ∙ ap (bit_of new) at ∙ m.marks j (omega arith) ∙ sym (get_or-map is_some picks j None d below));
      rest = λ j h. m.rest j (omega arith);
    }

-- ---- bytes of picks

pub no_byte : (picks : List (Option ℕ)) (first byte : ℕ) → byte ≡ 0 → IsByteOf picks first 0 byte
no_byte picks first byte e = record { bits = λ i h. absurd (omega arith); rest = λ i h. ap (λ n. bit_at n i) e ∙ bit_at-zero i }

pub byte_more : (picks : List (Option ℕ)) (first j old new : ℕ) (bit : Bool) → eqb (bit_at new j) 1 ≡ bit → bit ≡ is_some (get_or picks (first + j) None) → ((i : ℕ) → i ≢ j → bit_at new i ≡ bit_at old i) → IsByteOf picks first j old → IsByteOf picks first (j + 1) new
byte_more picks first j old new bit set is others b = record {
  bits = λ i h. elim (cases_eq i j) as (λ _. eqb (bit_at new i) 1 ≡ is_some (get_or picks (first + i) None)) [
    | inl same ↦ ap (λ n. eqb (bit_at new n) 1) same ∙ set ∙ is ∙ ap (λ n. is_some (get_or picks (first + n) None)) (sym same)
    | inr other ↦ ap (λ n. eqb n 1) (others i other) ∙ b.bits i (omega arith)
  ];
  rest = λ i h. others i (λ e. omega arith) ∙ b.rest i (omega arith);
}

-- a byte more is written
pub byte_put : (picks : List (Option ℕ)) (old out : List ℕ) (b byte : ℕ) → Marked picks old out (8 * b) → IsByteOf picks (8 * b) 8 byte → b < length out → Marked picks old (set out b byte) (8 * (b + 1))
byte_put picks old out b byte m own room = record {
  marks = λ j h. elim (cases_lt j (8 * b)) as (λ _. bit_of (set out b byte) j ≡ is_some (get_or picks j None)) [
    | inl low ↦ other j (λ e. omega arith) ∙ m.marks j low
    | inr high ↦
        let here : j / 8 ≡ b = omega arith in
        let at : j % 8 ≡ j - 8 * b = omega arith in
        ap (λ q. eqb (bit_at (get_or (set out b byte) q 0) (j % 8)) 1) here
        ∙ ap (λ y. eqb (bit_at y (j % 8)) 1) (get_or-set_same out b byte 0 room)
        ∙ ap (λ r. eqb (bit_at byte r) 1) at ∙ own.bits (j - 8 * b) (omega arith) ∙ ap (λ n. is_some (get_or picks n None)) (omega arith)
  ];
  rest = λ j h. other j (λ e. omega arith) ∙ m.rest j (omega arith);
}
  where
    other : (j : ℕ) → (j / 8 ≡ b → ⊥) → bit_of (set out b byte) j ≡ bit_of out j
    other j ne = ap (λ y. eqb (bit_at y (j % 8)) 1) (get_or-set_other out b (j / 8) byte 0 ne)

-- ---- places of picks

-- f of one item more is written
pub next_written : {X : Type 0} (f : X → ℕ) (items : List X) (d : X) (old places : List ℕ) (k : ℕ) (x : X) → length items ≤ length old → k < length items
    → places ≡ map f (take k items) ++ drop k old → x ≡ get_or items k d
    → set places k (f x) ≡ map f (take (k + 1) items) ++ drop (k + 1) old
next_written f items d old places k x fits h is pick =
    let front = map f (take k items) in
    let long : length front ≡ k = length-map (take k items) f ∙ length-take-le k items (omega arith) in
    let cut : drop k old ≡ get_or old k 0 ∷ drop (k + 1) old = drop-cons old k 0 (omega arith) ∙ rw (add-one) refl in
    let more : map f (take (k + 1) items) ≡ front ++ f x ∷ [] =
    ap (map f) (take_more items k d h) ∙ map_push f (take k items) (get_or items k d) ∙ ap (λ y. front ++ f y ∷ []) (sym pick) in
    ap (λ l. set l k (f x)) (is ∙ ap (λ l. front ++ l) cut)
    ∙ set_at front (get_or old k 0) (drop (k + 1) old) (f x) k long
    ∙ sym (append_assoc front (f x ∷ []) (drop (k + 1) old))
    ∙ ap (λ l. l ++ drop (k + 1) old) (sym more)

pub next_placed : (picks : List (Option ℕ)) (old places : List ℕ) (k : ℕ) (x : Option ℕ) → length picks ≤ length old → k < length picks
    → places ≡ map place_of (take k picks) ++ drop k old → x ≡ get_or picks k None
    → set places k (place_of x) ≡ map place_of (take (k + 1) picks) ++ drop (k + 1) old
next_placed picks = next_written place_of picks None

pub same_items : (items : List ℕ) → map (λ (p : ℕ). p) items ≡ items
same_items [] = refl
same_items (x ∷ items) = ap (λ l. x ∷ l) (same_items items)

-- ---- places behind those that are written

pub same_further : (old new : List ℕ) (m n : ℕ) → m ≤ n → drop m new ≡ drop m old → drop n new ≡ drop n old
same_further old new m n h e =
    let at : m + (n - m) ≡ n = omega arith in
    ap (λ k. drop k new) (sym at) ∙ sym (drop-drop (n - m) m new) ∙ ap (drop (n - m)) e ∙ drop-drop (n - m) m old ∙ ap (λ k. drop k old) at

pub front_and_rest : (n : ℕ) (new old front : List ℕ) → take n new ≡ front → drop n new ≡ drop n old → new ≡ front ++ drop n old
front_and_rest n new old front e f = sym (take-append-drop n new) ∙ ap₂ ◌++◌ e f
