-- What picks are, and where their rows stand.
use Rattle.std.proofs.Common.{map, ◌≡◌, ℕ, ◌+◌, ◌*◌, ◌^◌, ◌<◌, ◌≤◌, Bool, true, false, cond, List, [], ◌∷◌, length, nat_lt, zero, suc, get_or, Option, Some, None, arith, ap, ◌∙◌, sym, refl, inl, inr}
use Rattle.std.specs.List.{list_all}
use Rattle.std.specs.Option.{option_map}
use Rattle.std.proofs.lemmas.Bool.{cases_eq, and_parts, lt-ltb, ltb-true}
use Rattle.std.proofs.lemmas.List.{ext_get_or, get_or-map, length-map}
use Rattle.std.proofs.lemmas.List.FromFn.{length-map-range_with_len, get_or-map-range_with_len}
use Rattle.vx_arrow_image.specs.Image.{Part, is_placed, is_valid, bit_of}
use Rattle.vx_arrow_columns.specs.Picks.{picks_of, pick_at}
use Rattle.vx_arrow_columns.specs.Taken.{AreWithin, AreFull}

pub length_picks : (ps vs : List ℕ) (add : ℕ) → length (picks_of ps vs add) ≡ length ps
unfolding picks_of
length_picks ps vs add = length-map-range_with_len (pick_at ps vs add) 0 (length ps)

pub get_picks : (ps vs : List ℕ) (add k : ℕ) → k < length ps → get_or (picks_of ps vs add) k None ≡ pick_at ps vs add k
unfolding picks_of
get_picks ps vs add k h = get_or-map-range_with_len (pick_at ps vs add) 0 (length ps) k k None h (omega arith)

pub pick_there : (ps vs : List ℕ) (add k : ℕ) → is_valid vs k ≡ true → pick_at ps vs add k ≡ Some (add + get_or ps k 0)
pick_there ps vs add k h = ap (λ b. cond b (Some (add + get_or ps k 0)) None) h

pub pick_null : (ps vs : List ℕ) (add k : ℕ) → is_valid vs k ≡ false → pick_at ps vs add k ≡ None
pick_null ps vs add k h = ap (λ b. cond b (Some (add + get_or ps k 0)) None) h

-- a pick that is there is below what all are
pub place_below : (ps vs : List ℕ) (add n k : ℕ) → AreWithin (picks_of ps vs add) n → k < length ps → is_valid vs k ≡ true → add + get_or ps k 0 < n
place_below ps vs add n k w h e = w.below k _ (omega (arith, length_picks ps vs add)) (get_picks ps vs add k h ∙ pick_there ps vs add k e)

pub not_within : (ps vs : List ℕ) (add n k : ℕ) → k < length ps → is_valid vs k ≡ true → n ≤ add + get_or ps k 0 → AreWithin (picks_of ps vs add) n → ⊥
not_within ps vs add n k h there far within = let low = place_below ps vs add n k within h there in omega arith

pub all_within : (ps vs : List ℕ) (add n m : ℕ) → length ps ≤ m → ((j i : ℕ) → j < m → pick_at ps vs add j ≡ Some i → i < n) → AreWithin (picks_of ps vs add) n
all_within ps vs add n m long h = record {
  below = λ k i b e.
      let low : k < length ps = omega (arith, length_picks ps vs add) in
      h k i (omega arith) (sym (get_picks ps vs add k low) ∙ e);
}

pub pick_is : (ps vs : List ℕ) (add k i : ℕ) (v : Bool) → is_valid vs k ≡ v → pick_at ps vs add k ≡ Some i → (v ≡ true) × (i ≡ add + get_or ps k 0)
pick_is ps vs add k i true e f = (refl, (let g : Some (add + get_or ps k 0) ≡ Some i = sym (pick_there ps vs add k e) ∙ f in cc))
pick_is ps vs add k i false e f = absurd (let g : None ≡ Some i = sym (pick_null ps vs add k e) ∙ f in cc)

pub within_next : (ps vs : List ℕ) (add n k : ℕ) → ((j i : ℕ) → j < k → pick_at ps vs add j ≡ Some i → i < n) → (is_valid vs k ≡ true → add + get_or ps k 0 < n)
    → (j i : ℕ) → j < k + 1 → pick_at ps vs add j ≡ Some i → i < n
within_next ps vs add n k old here j i h e = elim (cases_eq j k) as (λ _. i < n) [
  | inl same ↦
      let is = pick_is ps vs add k i (is_valid vs k) refl (ap (pick_at ps vs add) (sym same) ∙ e) in
      let low = here is.0 in
      omega (arith, is.1)
  | inr other ↦ old j i (omega arith) e
]

-- places that are all below, where no pick is null
pub below_each : (ps : List ℕ) (n j : ℕ) → list_all (λ p. nat_lt p n) ps ≡ true → j < length ps → get_or ps j 0 < n
below_each [] n j h l = absurd (omega arith)
below_each (p ∷ ps) n zero h l = ltb-true p n (and_parts (nat_lt p n) (list_all (λ q. nat_lt q n) ps) h).0
below_each (p ∷ ps) n (suc j) h l = below_each ps n j (and_parts (nat_lt p n) (list_all (λ q. nat_lt q n) ps) h).1 (omega arith)

each_below : (ps : List ℕ) (n : ℕ) → ((j : ℕ) → j < length ps → get_or ps j 0 < n) → list_all (λ p. nat_lt p n) ps ≡ true
each_below [] n h = refl
each_below (p ∷ ps) n h =
    let low : nat_lt p n ≡ true = lt-ltb p n (h zero (omega arith)) in
    rw (low, each_below ps n (λ j l. h (suc j) (omega arith))) refl

pub below_any : (ps vs : List ℕ) (n : ℕ) → list_all (λ p. nat_lt p n) ps ≡ true → AreWithin (picks_of ps vs 0) n
below_any ps vs n h = all_within ps vs 0 n (length ps) (omega arith) (λ j i l e.
    let is = pick_is ps vs 0 j i (is_valid vs j) refl e in
    let low = below_each ps n j h l in
    omega (arith, is.1))

pub below_within : (ps : List ℕ) (n : ℕ) → list_all (λ p. nat_lt p n) ps ≡ true → AreWithin (picks_of ps [] 0) n
below_within ps n h = all_within ps [] 0 n (length ps) (omega arith) (λ j i l e.
    let is = pick_is ps [] 0 j i true refl e in
    let low = below_each ps n j h l in
    omega (arith, is.1))

pub within_below : (ps : List ℕ) (n : ℕ) → AreWithin (picks_of ps [] 0) n → list_all (λ p. nat_lt p n) ps ≡ true
within_below ps n w = each_below ps n (λ j l. let low = place_below ps [] 0 n j w l refl in omega arith)

pub all_full : (ps vs : List ℕ) (add m : ℕ) → length ps ≤ m → ((j : ℕ) → j < m → is_valid vs j ≡ true) → AreFull (picks_of ps vs add)
all_full ps vs add m long h = record {
  full = λ k b e.
      let low : k < length ps = omega (arith, length_picks ps vs add) in
      let f : Some (add + get_or ps k 0) ≡ None = sym (get_picks ps vs add k low ∙ pick_there ps vs add k (h k (omega arith))) ∙ e in cc;
}

pub not_full : (ps vs : List ℕ) (add k : ℕ) → k < length ps → is_valid vs k ≡ false → AreFull (picks_of ps vs add) → ⊥
not_full ps vs add k h gone full = full.full k (omega (arith, length_picks ps vs add)) (get_picks ps vs add k h ∙ pick_null ps vs add k gone)

pub within_more : (q : List (Option ℕ)) (m n : ℕ) → AreWithin q m → m ≤ n → AreWithin q n
within_more q m n w h = record { below = λ k i b e. let low = w.below k i b e in omega arith }

pub placed_end : (p : Part) → is_placed p ≡ true → p.offset + p.len < 2 ^ 60
unfolding is_placed
placed_end p h = ltb-true _ _ (and_parts _ _ h).0

-- ---- bits of validity

-- bytes with room for a bit show that bit
pub shows_bit : (v : List ℕ) (k : ℕ) → k < 8 * length v → is_valid v k ≡ bit_of v k
shows_bit [] k h = absurd (omega arith)
shows_bit (b ∷ bs) k h = refl

-- ---- places that are all there, and places further on

pub all_picks : (ps : List ℕ) → picks_of ps [] 0 ≡ map Some ps
all_picks ps = ext_get_or None (picks_of ps [] 0) (map Some ps) (length_picks ps [] 0 ∙ sym (length-map ps Some)) (λ k h.
    let below : k < length ps = omega (arith, length_picks ps [] 0) in
    get_picks ps [] 0 k below ∙ ap Some (let e : 0 + get_or ps k 0 ≡ get_or ps k 0 = omega arith in e) ∙ sym (get_or-map Some ps k 0 None below))

moved_pick : (v : Bool) (m a by x : ℕ) → (v ≡ true → m + x ≡ by + (a + x)) → cond v (Some (m + x)) None ≡ option_map (λ i. by + i) (cond v (Some (a + x)) None)
moved_pick true m a by x e = ap Some (e refl)
moved_pick false m a by x e = refl

-- picks below n, further on by a sum that may wrap, where none that is there does
pub moved_picks : (ps vs : List ℕ) (a m by n : ℕ) → AreWithin (picks_of ps vs a) n → by + n < 2 ^ 60 → (a + by < 2 ^ 64 → m ≡ a + by)
    → picks_of ps vs m ≡ map (option_map (λ i. by + i)) (picks_of ps vs a)
moved_picks ps vs a m by n w few e =
    let f = option_map (λ (i : ℕ). by + i) in
    ext_get_or None (picks_of ps vs m) (map f (picks_of ps vs a)) (length_picks ps vs m ∙ sym (length-map (picks_of ps vs a) f ∙ length_picks ps vs a)) (λ k h.
    let below : k < length ps = omega (arith, length_picks ps vs m) in
    get_picks ps vs m k below
    ∙ moved_pick (is_valid vs k) m a by (get_or ps k 0) (λ there. let low = place_below ps vs a n k w below there in let s = e (omega arith) in omega arith)
    ∙ ap f (sym (get_picks ps vs a k below))
    ∙ sym (get_or-map f (picks_of ps vs a) k None None (omega (arith, length_picks ps vs a))))

-- the row of a pick that is there has a place
pub row_fits : (p : Part) (ps vs : List ℕ) (add k : ℕ) → is_placed p ≡ true → AreWithin (picks_of ps vs add) p.len → k < length ps → is_valid vs k ≡ true → (add + get_or ps k 0 < p.len) × (p.offset + p.len < 2 ^ 60)
row_fits p ps vs add k placed within low there = (place_below ps vs add p.len k within low there, placed_end p placed)
