-- Lines behind lines.
use Rattle.std.proofs.Common.{◌≡◌, ℕ, zero, suc, ◌+◌, ◌-◌, ◌<◌, ◌≤◌, List, [], ◌∷◌, ◌++◌, length, take, drop, get_or, min, refl, sym, ap, ◌∙◌, append_assoc, drop-cons, length-drop, arith}
use Rattle.std.proofs.Math.Seq.{take-add}
use Rattle.std.proofs.lemmas.List.{drop_all, drop-take, get_or-take, get_or_default, length-take-le}
use Rattle.std.proofs.lemmas.List.Concat.{flat_map-append}
use Rattle.vx_print.specs.Text.{line, lines}

take_capped : {X : Type 0} (xs : List X) (m n : ℕ) → m ≤ n → (m < n → length xs ≤ m) → take m xs ≡ take n xs
take_capped xs zero zero h e = refl
take_capped [] zero (suc n) h e = refl
take_capped (x ∷ xs) zero (suc n) h e = let f : length (x ∷ xs) ≤ 0 = e (omega arith) in absurd (omega arith)
take_capped xs (suc m) zero h e = absurd (omega arith)
take_capped [] (suc m) (suc n) h e = refl
take_capped (x ∷ xs) (suc m) (suc n) h e = ap (λ l. x ∷ l) (take_capped xs m n (omega arith) (λ l. let f : length (x ∷ xs) ≤ suc m = e (omega arith) in omega arith))

-- one block more, behind the first k
pub block_more : {X : Type 0} (f : X → List ℕ) (bs : List ℕ) (xs : List X) (start end : ℕ) → end ≡ start + min (length xs - start) 64 → start ≤ length xs → (bs ++ lines f (take start xs)) ++ lines f (take (end - start) (drop start xs)) ≡ bs ++ lines f (take (start + 64) xs)
block_more f bs xs start end is h =
    let part = drop start xs in
    let long : length part ≡ length xs - start = length-drop start xs in
    let capped : take (end - start) part ≡ take 64 part = take_capped part (end - start) 64 (omega arith) (λ l. omega arith) in
    let joined : lines f (take start xs ++ take 64 part) ≡ lines f (take start xs) ++ lines f (take 64 part) = flat_map-append (λ x. line (f x)) (take start xs) (take 64 part) in
    let whole : take (start + 64) xs ≡ take start xs ++ take 64 part = take-add start 64 xs in
    append_assoc bs (lines f (take start xs)) (lines f (take (end - start) part))
    ∙ ap (λ l. bs ++ (lines f (take start xs) ++ lines f l)) capped
    ∙ sym (ap (λ l. bs ++ l) (ap (lines f) whole ∙ joined))

-- item `end - 1 - k` stands in front of the last k of those before `end`
pub drop_before : {X : Type 0} (xs : List X) (end k : ℕ) (x d : X) → k < end → end ≤ length xs → x ≡ get_or xs (end - 1 - k) d → x ∷ drop (end - k) (take end xs) ≡ drop (end - (k + 1)) (take end xs)
drop_before xs end k x d h within is =
    let ys = take end xs in
    let j = end - 1 - k in
    let lt : j < length ys = omega (arith, length-take-le end xs within) in
    let behind : end - k ≡ suc j = omega arith in
    let here : j ≡ end - (k + 1) = omega arith in
    let same : x ≡ get_or ys j x = is ∙ get_or_default xs j d x (omega arith) ∙ sym (get_or-take end xs j x (omega arith)) in
    ap (λ (n : ℕ). x ∷ drop n ys) behind
    ∙ ap (λ y. y ∷ drop (suc j) ys) same
    ∙ sym (drop-cons ys j x lt)
    ∙ ap (λ (n : ℕ). drop n ys) here

-- one row more, in front of the last k of those before `end`
pub row_more : {X : Type 0} (f : X → List ℕ) (xs : List X) (end k : ℕ) (x d : X) → k < end → end ≤ length xs → x ≡ get_or xs (end - 1 - k) d → f x ++ 10 ∷ lines f (drop (end - k) (take end xs)) ≡ lines f (drop (end - (k + 1)) (take end xs))
row_more f xs end k x d h within is =
    let rest = drop (end - k) (take end xs) in
    sym (append_assoc (f x) (10 ∷ []) (lines f rest)) ∙ ap (lines f) (drop_before xs end k x d h within is)

-- the rows from `start` up to `end` are those of the first `end` that are left behind `start`
pub rows_between : {X : Type 0} (xs : List X) (start end : ℕ) → start ≤ end → drop start (take end xs) ≡ take (end - start) (drop start xs)
rows_between xs start end h =
    let whole : end ≡ start + (end - start) = omega arith in
    ap (λ (n : ℕ). drop start (take n xs)) whole ∙ drop-take start (end - start) xs

-- nothing is written before the first of the rows before `end`
pub none_put : {X : Type 0} (texts : List X → List ℕ) (dst : List ℕ) (xs : List X) (n end : ℕ) → texts [] ≡ [] → length dst ≤ n → end ≤ length xs → drop n dst ≡ texts (drop (end - 0) (take end xs))
none_put texts dst xs n end none short within =
    let long = length-take-le end xs within in
    drop_all n dst short ∙ sym (ap texts (drop_all (end - 0) (take end xs) (omega (arith, long))) ∙ none)

-- the last k of those before `end` are those from `start` on
pub all_put : {X : Type 0} (texts : List X → List ℕ) (xs : List X) (start end k : ℕ) → end - k ≡ start → start ≤ end → texts (drop (end - k) (take end xs)) ≡ texts (take (end - start) (drop start xs))
all_put texts xs start end k is h =
    ap (λ (n : ℕ). texts (drop n (take end xs))) is ∙ ap texts (rows_between xs start end h)
