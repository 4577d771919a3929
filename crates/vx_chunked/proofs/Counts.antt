-- The calls that ascending positions ask for, chunk by chunk.
use Rattle.std.proofs.Common.{◌≡◌, refl, ℕ, zero, suc, ◌+◌, ◌*◌, ◌-◌, ◌/◌, ◌<◌, ◌≤◌, false, cond, eqb, leb, List, [], ◌∷◌, ◌++◌, length, map, Option, sym, ap, ap₂, ◌∙◌, arith, eq-eqb, ne_eqb}
use Rattle.vx_bits.specs.WordReader.{then_told}
use Rattle.std.proofs.lemmas.Bool.{le-leb}
use Rattle.std.proofs.lemmas.Bool.Decides.{nat_tests}
use Rattle.std.specs.List.{All, range_with_len, flat_map}
use Rattle.std.proofs.lemmas.List.Elements.{All-head, All-tail}
use Rattle.std.proofs.lemmas.List.Sums.{sum_by-cons, sum_by-append}
use Rattle.vx_decoder.specs.declared.call.Call.{Call}
use Rattle.vx_decoder.specs.declared.call.Call.TheVariants.{Whole, Only}
use Rattle.vx_chunked.specs.Asked.{call_for, count_in, calls_from}
use Rattle.vx_bits.proofs.Told.{told_more, told_none}

-- all places lie in their chunk
counts_here : (chunk : ℕ) (places : List ℕ) → All (λ p. p < 1024) places → count_in (map (λ p. 1024 * chunk + p) places) chunk ≡ length places
counts_here chunk [] a = refl
counts_here chunk (p ∷ places) a =
    let below = All-head (λ q. q < 1024) p places a in
    sum_by-cons (λ q. cond (eqb (q / 1024) chunk) 1 0) (1024 * chunk + p) (map (λ q. 1024 * chunk + q) places)
    ∙ ap₂ (λ b n. cond b 1 0 + n) (eq-eqb ((1024 * chunk + p) / 1024) chunk (omega arith)) (counts_here chunk places (All-tail (λ q. q < 1024) p places a))
    ∙ omega arith

-- and none in another
counts_none : (chunk other : ℕ) (places : List ℕ) → All (λ p. p < 1024) places → chunk < other → count_in (map (λ p. 1024 * chunk + p) places) other ≡ 0
counts_none chunk other [] a h = refl
counts_none chunk other (p ∷ places) a h =
    let below = All-head (λ q. q < 1024) p places a in
    sum_by-cons (λ q. cond (eqb (q / 1024) other) 1 0) (1024 * chunk + p) (map (λ q. 1024 * chunk + q) places)
    ∙ ap₂ (λ b n. cond b 1 0 + n) (ne_eqb ((1024 * chunk + p) / 1024) other (λ e. omega arith)) (counts_none chunk other places (All-tail (λ q. q < 1024) p places a) h)

-- none of those beyond a chunk lies in it
counts_beyond : (chunk : ℕ) (xs : List ℕ) → All (λ p. 1024 * (chunk + 1) ≤ p) xs → count_in xs chunk ≡ 0
counts_beyond chunk [] a = refl
counts_beyond chunk (x ∷ xs) a =
    let above = All-head (λ q. 1024 * (chunk + 1) ≤ q) x xs a in
    sum_by-cons (λ q. cond (eqb (q / 1024) chunk) 1 0) x xs
    ∙ ap₂ (λ b n. cond b 1 0 + n) (ne_eqb (x / 1024) chunk (λ e. omega arith)) (counts_beyond chunk xs (All-tail (λ q. 1024 * (chunk + 1) ≤ q) x xs a))

pub flat_map_range : {A : Type 0} (f g : ℕ → List A) (a n : ℕ) → ((j : ℕ) → a ≤ j → f j ≡ g j) → flat_map f (range_with_len a n) ≡ flat_map g (range_with_len a n)
flat_map_range f g a zero h = refl
flat_map_range f g a (suc n) h = ap₂ ◌++◌ (h a (omega arith)) (flat_map_range f g (a + 1) n (λ j p. h j (omega arith)))

-- one chunk's call, and those for the rest
pub calls_next : (limit : ℕ) (all places rest : List ℕ) (chunk n m : ℕ) → all ≡ map (λ p. 1024 * chunk + p) places ++ rest → All (λ p. p < 1024) places → All (λ p. 1024 * (chunk + 1) ≤ p) rest → n ≡ suc m → calls_from limit all chunk n ≡ call_for limit chunk (length places) ++ calls_from limit rest (chunk + 1) m
unfolding calls_from
calls_next limit all places rest chunk n m e inside beyond c =
    let here = map (λ p. 1024 * chunk + p) places in
    let split : (j : ℕ) → count_in all j ≡ count_in here j + count_in rest j = λ j. ap (λ l. count_in l j) e ∙ sum_by-append (λ q. cond (eqb (q / 1024) j) 1 0) here rest in
    let first : count_in all chunk ≡ length places = split chunk ∙ ap₂ ◌+◌ (counts_here chunk places inside) (counts_beyond chunk rest beyond) ∙ omega arith in
    let later : (j : ℕ) → chunk + 1 ≤ j → call_for limit j (count_in all j) ≡ call_for limit j (count_in rest j) = λ j p. let none : 0 + count_in rest j ≡ count_in rest j = omega arith in ap (call_for limit j) (split j ∙ ap (λ n. n + count_in rest j) (counts_none chunk j places inside (omega arith)) ∙ none) in
    ap (λ k. flat_map (λ j. call_for limit j (count_in all j)) (range_with_len chunk k)) c
    ∙ ap₂ ◌++◌ (ap (call_for limit chunk) first) (flat_map_range (λ j. call_for limit j (count_in all j)) (λ j. call_for limit j (count_in rest j)) (chunk + 1) m later)

pub calls_none : (limit : ℕ) (all : List ℕ) (chunk : ℕ) → calls_from limit all chunk 0 ≡ []
unfolding calls_from
calls_none limit all chunk = refl

-- one chunk's call was recorded
pub told_next : (now new total : Option (List Call)) (limit : ℕ) (all places rest : List ℕ) (chunk n m : ℕ) → then_told now (calls_from limit all chunk n) ≡ total → new ≡ then_told now (call_for limit chunk (length places)) → all ≡ map (λ p. 1024 * chunk + p) places ++ rest → All (λ p. p < 1024) places → All (λ p. 1024 * (chunk + 1) ≤ p) rest → n ≡ suc m → then_told new (calls_from limit rest (chunk + 1) m) ≡ total
told_next now new total limit all places rest chunk n m h t e inside beyond c =
    ap (λ r. then_told r (calls_from limit rest (chunk + 1) m)) t
    ∙ told_more now (call_for limit chunk (length places)) (calls_from limit rest (chunk + 1) m)
    ∙ ap (then_told now) (sym (calls_next limit all places rest chunk n m e inside beyond c)) ∙ h

pub told_end : (now total : Option (List Call)) (limit : ℕ) (rest : List ℕ) (chunk n : ℕ) → n ≡ 0 → then_told now (calls_from limit rest chunk n) ≡ total → now ≡ total
told_end now total limit rest chunk n e h =
    told_none now ∙ ap (then_told now) (sym (calls_none limit rest chunk) ∙ ap (calls_from limit rest chunk) (sym e)) ∙ h

-- no value asks for no call
pub calls_of_none : (limit : ℕ) (values : List ℕ) (chunk n : ℕ) → length values ≡ 0 → calls_from limit values chunk n ≡ []
unfolding calls_from
calls_of_none limit [] chunk zero e = refl
calls_of_none limit [] chunk (suc n) e = calls_of_none limit [] (chunk + 1) n e
calls_of_none limit (v ∷ values) chunk n e = absurd (omega arith)

pub told_of_none : (calls : Option (List Call)) (limit : ℕ) (values : List ℕ) (n : ℕ) → length values ≡ 0 → calls ≡ then_told calls (calls_from limit values 0 n)
told_of_none calls limit values n e = told_none calls ∙ ap (then_told calls) (sym (calls_of_none limit values 0 n e))

pub read_of_none : {X : Type 0} (f : ℕ → X) (values : List ℕ) → length values ≡ 0 → [] ≡ map f values
read_of_none f [] e = refl
read_of_none f (v ∷ values) e = absurd (omega arith)

not_le : (limit count : ℕ) → limit < count → leb count limit ≡ false
not_le limit count h = grind (arith, nat_tests)

-- the call for a chunk of which so many values are selected
pub call_none : (limit chunk count : ℕ) → count ≡ 0 → [] ≡ call_for limit chunk count
call_none limit chunk count e = sym (ap (λ b. cond b [] (cond (leb count limit) (Only chunk count ∷ []) (Whole chunk ∷ []))) (eq-eqb count 0 e))

pub call_only : (limit chunk count n : ℕ) → n ≡ count → (count ≡ 0 → ⊥) → count ≤ limit → Only chunk n ∷ [] ≡ call_for limit chunk count
call_only limit chunk count n e some few =
    ap (λ k. Only chunk k ∷ []) e
    ∙ sym (ap (λ b. cond b [] (cond (leb count limit) (Only chunk count ∷ []) (Whole chunk ∷ []))) (ne_eqb count 0 some)
    ∙ ap (λ b. cond b (Only chunk count ∷ []) (Whole chunk ∷ [])) (le-leb count limit few))

pub call_whole : (limit chunk count : ℕ) → (count ≡ 0 → ⊥) → limit < count → Whole chunk ∷ [] ≡ call_for limit chunk count
call_whole limit chunk count some many =
    sym (ap (λ b. cond b [] (cond (leb count limit) (Only chunk count ∷ []) (Whole chunk ∷ []))) (ne_eqb count 0 some)
    ∙ ap (λ b. cond b (Only chunk count ∷ []) (Whole chunk ∷ [])) (not_le limit count many))

-- chunks that hold none of the values ask for no call
skip_by : (limit : ℕ) (rest : List ℕ) (chunk j n m : ℕ) → n ≡ j + m → All (λ p. 1024 * (chunk + j) ≤ p) rest → calls_from limit rest chunk n ≡ calls_from limit rest (chunk + j) m
skip_by limit rest chunk zero n m e a = ap₂ (calls_from limit rest) (omega arith) (omega (arith, e))
skip_by limit rest chunk (suc j) n m e a =
    calls_next limit rest [] rest chunk n (j + m) refl (λ k d p. absurd (omega arith)) (λ k d p. omega (arith, a k d p)) (omega (arith, e))
    ∙ ap (λ l. l ++ calls_from limit rest (chunk + 1) (j + m)) (sym (call_none limit chunk 0 refl))
    ∙ skip_by limit rest (chunk + 1) j (j + m) m refl (λ k d p. omega (arith, a k d p)) ∙ ap (λ k. calls_from limit rest k m) (omega arith)

pub calls_skip : (limit : ℕ) (rest : List ℕ) (chunk next chunks : ℕ) → chunk ≤ next → next ≤ chunks → All (λ p. 1024 * next ≤ p) rest → calls_from limit rest chunk (chunks - chunk) ≡ calls_from limit rest next (chunks - next)
calls_skip limit rest chunk next chunks h p a =
    let e : chunk + (next - chunk) ≡ next = omega (arith, h) in
    skip_by limit rest chunk (next - chunk) (chunks - chunk) (chunks - next) (omega (arith, h, p)) (λ k d q. omega (arith, a k d q, h)) ∙ ap (λ k. calls_from limit rest k (chunks - next)) e
