-- Rows of one source that follow one another: their items, counted, and numbers written for them.
use Rattle.std.proofs.Common.{zero, suc, ◌≡◌, ℕ, ◌+◌, ◌-◌, ◌<◌, ◌≤◌, List, [], ◌++◌, length, get_or, take, drop, ap, sym, ◌∙◌, refl, subst, inl, inr, arith, length-append}
use Rattle.std.specs.List.{flat_map, range_with_len}
use Rattle.std.proofs.lemmas.Bool.{cases_eq, cases_lt}
use Rattle.std.proofs.lemmas.List.{append-nil, append_assoc, flat_map_more, take-append-drop}
use Rattle.std.proofs.lemmas.List.Concat.{flat_map-append}
use Rattle.vx_lemmas.proofs.Lists.{range_more}
use Rattle.vx_arrow_image.specs.declared.format.Offsets.{Offsets}
use Rattle.vx_arrow_image.specs.Image.{offset_at}
use Rattle.vx_arrow_columns.specs.Written.{PutsOffset}
use Rattle.vx_arrow_interleave.specs.declared.spans.Span.{Span}
use Rattle.vx_arrow_interleave.specs.Spots.{Spot, run_of, spots}
use Rattle.vx_arrow_interleave.proofs.SpotLists.{no_span, spots_all, spots_join, spots_len, spots_none, spots_same, spots_up_to}

-- ---- how many items rows have

abbrev pub sum_of : (ℕ → List Spot) → ℕ → ℕ → ℕ
sum_of g a n = length (flat_map g (range_with_len a n))

pub items_next : (g : ℕ → List Spot) (a n : ℕ) → flat_map g (range_with_len a (n + 1)) ≡ flat_map g (range_with_len a n) ++ g (a + n)
items_next g a n = ap (flat_map g) (range_more a n) ∙ sym (flat_map_more g [] (range_with_len a n) (a + n))

pub sum_more : (g : ℕ → List Spot) (a n : ℕ) → sum_of g a (n + 1) ≡ sum_of g a n + length (g (a + n))
sum_more g a n = ap length (items_next g a n) ∙ length-append (flat_map g (range_with_len a n)) (g (a + n))

sum_up : (g : ℕ → List Spot) (a n d : ℕ) → sum_of g a n ≤ sum_of g a (n + d)
sum_up g a n zero = let e : n ≡ n + 0 = omega arith in omega (arith, ap (sum_of g a) e)
sum_up g a n (suc d) =
    let e : n + d + 1 ≡ n + suc d = omega arith in
    omega (arith, sum_up g a n d, sum_more g a (n + d), ap (sum_of g a) e)

pub sum_within : (g : ℕ → List Spot) (a n m : ℕ) → n ≤ m → sum_of g a n ≤ sum_of g a m
sum_within g a n m h = let e : n + (m - n) ≡ m = omega arith in omega (arith, sum_up g a n (m - n), ap (sum_of g a) e)

-- one row's are some of all
pub one_within : (g : ℕ → List Spot) (a i n : ℕ) → i < n → sum_of g a i + length (g (a + i)) ≤ sum_of g a n
one_within g a i n h = omega (arith, sum_more g a i, sum_within g a (i + 1) n (omega arith))

-- ---- their items, pushed and counted

pub record PushedTo (g : ℕ → List Spot) (limit a n total sum : ℕ) (old new : List Spot) : Type 0 where
  pub items : new ≡ old ++ flat_map g (range_with_len a n)
  pub counted : sum ≡ total + sum_of g a n
  pub small : sum < limit

pub none_pushed : (g : ℕ → List Spot) (limit a total : ℕ) (old : List Spot) → total < limit → PushedTo g limit a 0 total total old old
none_pushed g limit a total old h = record { items = sym (append-nil old); counted = omega arith; small = h }

pub more_pushed : (g : ℕ → List Spot) (limit a n total sum after : ℕ) (old new more own : List Spot) → g (a + n) ≡ own → more ≡ new ++ own → after ≡ sum + length own → after < limit → PushedTo g limit a n total sum old new → PushedTo g limit a (n + 1) total after old more
more_pushed g limit a n total sum after old new more own is pushed counted few t =
    let all : flat_map g (range_with_len a (n + 1)) ≡ flat_map g (range_with_len a n) ++ own = items_next g a n ∙ ap (λ (l : List Spot). flat_map g (range_with_len a n) ++ l) is in
    record {
      items = pushed ∙ ap (λ (l : List Spot). l ++ own) t.items ∙ append_assoc old (flat_map g (range_with_len a n)) own ∙ ap (λ (l : List Spot). old ++ l) (sym all);
      counted = omega (arith, counted, t.counted, ap length all, length-append (flat_map g (range_with_len a n)) own);
      small = few;
    }

-- ---- a number for each row

-- those of the first n rows, from number `first` on
pub record RunTo (z : Offsets) (f : ℕ → ℕ) (first n : ℕ) (old out : List ℕ) : Type 0 where
  pub put : (i : ℕ) → i < n → offset_at z out (first + i) ≡ f i
  pub before : (j : ℕ) → j < first → offset_at z out j ≡ offset_at z old j

pub no_run : (z : Offsets) (f : ℕ → ℕ) (first : ℕ) (out : List ℕ) → RunTo z f first 0 out out
no_run z f first out = record { put = λ i h. absurd (omega arith); before = λ j h. refl }

pub more_run : (z : Offsets) (f : ℕ → ℕ) (first n value : ℕ) (old out new : List ℕ) → value ≡ f n → PutsOffset z out new (first + n) value → RunTo z f first n old out → RunTo z f first (n + 1) old new
more_run z f first n value old out new is own t =
    record {
      put = λ i h. elim (cases_eq i n) as (λ _. offset_at z new (first + i) ≡ f i) [
        | inl same ↦ let here : first + i ≡ first + n = omega arith in ap (offset_at z new) here ∙ own.put ∙ is ∙ ap f (sym same)
        | inr other ↦ own.before (first + i) (omega arith) ∙ t.put i (omega arith)
      ];
      before = λ j h. own.before j (omega arith) ∙ t.before j h;
    }

-- those of the rows of the first k spans
pub record NumbersTo (z : Offsets) (f : ℕ → ℕ) (ss : List Span) (k first : ℕ) (out : List ℕ) : Type 0 where
  pub first_is : first ≡ length (spots (take k ss))
  pub put : (j : ℕ) → j < first → offset_at z out j ≡ f j

pub no_numbers : (z : Offsets) (f : ℕ → ℕ) (ss : List Span) (out : List ℕ) → NumbersTo z f ss 0 0 out
no_numbers z f ss out = record { first_is = ap length (sym (spots_none ss)); put = λ j h. absurd (omega arith) }

pub more_numbers : (z : Offsets) (f g : ℕ → ℕ) (ss : List Span) (k first : ℕ) (r : Span) (out new : List ℕ) → k < length ss → r ≡ get_or ss k no_span → ((i : ℕ) → i < r.len → g i ≡ f (first + i)) → RunTo z g first r.len out new → NumbersTo z f ss k first out
    → NumbersTo z f ss (k + 1) (first + r.len) new
more_numbers z f g ss k first r out new h e same own t =
    record {
      first_is = ap (λ n. n + r.len) t.first_is ∙ sym (spots_len ss k r h e);
      put = λ j below. elim (cases_lt j first) as (λ _. offset_at z new j ≡ f j) [
        | inl low ↦ own.before j low ∙ t.put j low
        | inr high ↦
            let i = j - first in
            let here : first + i ≡ j = omega arith in
            let low : i < r.len = omega arith in
            ap (offset_at z new) (sym here) ∙ own.put i low ∙ same i low ∙ ap f here
      ];
    }

pub same_numbers : (z : Offsets) (f : ℕ → ℕ) (ss : List Span) (k first : ℕ) (r : Span) (out : List ℕ) → k < length ss → r ≡ get_or ss k no_span → r.len ≡ 0 → NumbersTo z f ss k first out → NumbersTo z f ss (k + 1) first out
same_numbers z f ss k first r out h e none t = record { first_is = t.first_is ∙ ap length (sym (spots_same ss k r h e none)); put = t.put }

pub as_numbers : (z : Offsets) (f : ℕ → ℕ) (ss : List Span) (k first now : ℕ) (out new : List ℕ) → now ≡ first → new ≡ out → NumbersTo z f ss k first out → NumbersTo z f ss k now new
as_numbers z f ss k first now out new e g t =
    subst (λ (n : ℕ). NumbersTo z f ss k n new) (sym e) (subst (λ (l : List ℕ). NumbersTo z f ss k first l) (sym g) t)

pub all_numbers : (z : Offsets) (f : ℕ → ℕ) (ss : List Span) (k first : ℕ) (out : List ℕ) → length ss ≤ k → NumbersTo z f ss k first out → (j : ℕ) → j < length (spots ss) → offset_at z out j ≡ f j
all_numbers z f ss k first out h t j low =
    let all : first ≡ length (spots ss) = t.first_is ∙ ap length (spots_all ss k h) in
    t.put j (omega arith)

-- ---- what rows of spans are made into

-- rows up to row i of span k
pub made_up_to : (f : Spot → List Spot) (ss : List Span) (k i : ℕ) (r : Span) → k < length ss → r ≡ get_or ss k no_span → i ≤ r.len
    → flat_map f (take (length (spots (take k ss)) + i) (spots ss)) ≡ flat_map f (spots (take k ss)) ++ flat_map f (run_of r.source r.start i)
made_up_to f ss k i r h e low = ap (flat_map f) (spots_up_to ss k i r h e low) ∙ flat_map-append f (spots (take k ss)) (run_of r.source r.start i)

-- those of the first spans are some of all
pub made_within : (f : Spot → List Spot) (ss : List Span) (k : ℕ) → length (flat_map f (spots (take k ss))) ≤ length (flat_map f (spots ss))
made_within f ss k =
    omega (arith, ap (λ (l : List Spot). length (flat_map f l)) (sym (spots_join (take k ss) (drop k ss)) ∙ ap spots (take-append-drop k ss)), ap length (flat_map-append f (spots (take k ss)) (spots (drop k ss))), length-append (flat_map f (spots (take k ss))) (flat_map f (spots (drop k ss))))
