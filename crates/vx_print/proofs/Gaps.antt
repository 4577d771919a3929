-- Texts with `, ` between them.
use Rattle.std.proofs.Common.{◌≡◌, ℕ, ◌+◌, ◌-◌, ◌<◌, ◌≤◌, Bool, true, false, List, [], ◌∷◌, ◌++◌, ◌∙◌, length, map, take, drop, get_or, slice_range, eqb, refl, sym, ap, ap₂, append_assoc, append-nil, length-drop, arith}
use Rattle.std.specs.Prelude.{codes, flat_map}
use Rattle.std.proofs.lemmas.Bool.Decides.{nat_tests}
use Rattle.std.proofs.lemmas.List.{flat_map_more, map_push, map-append, take_more, length-map, length-take-le}
use Rattle.std.proofs.lemmas.List.Concat.{flat_map-append}
use Rattle.vx_types.specs.RowValue.{RowValue, null}
use Rattle.vx_types.specs.TypeTree.{TypeTree}
use Rattle.vx_model.specs.Column.{Column}
use Rattle.vx_model.proofs.Items.{length-slice_range}
use Rattle.vx_print.specs.Text.{comma_list, gap, row_text}
use Rattle.vx_print.proofs.Blocks.{drop_before}
use Rattle.vx_lemmas.proofs.Lists.{slice-more, slice_join}

-- it is the first one exactly where none stands there
pub record IsFirst (b : Bool) (n : ℕ) : Type 0 where
  pub yes : b ≡ true → n ≡ 0
  pub no : b ≡ false → 0 < n

-- what a test of two numbers says
pub first_by : (i s n : ℕ) → n ≡ i - s → s ≤ i → IsFirst (eqb i s) n
first_by i s n e h = record { yes = λ t. grind (arith, nat_tests); no = λ t. grind (arith, nat_tests) }

joined-push : (ts : List (List ℕ)) (t : List ℕ) (b : Bool) → IsFirst b (length ts) → (comma_list ts ++ gap b) ++ t ≡ comma_list (ts ++ t ∷ [])
joined-push [] t true h = sym (append-nil t)
joined-push [] t false h = let f : 0 < 0 = h.no refl in absurd (omega arith)
joined-push (s ∷ ss) t true h = let f : length (s ∷ ss) ≡ 0 = h.yes refl in absurd (omega arith)
joined-push (s ∷ ss) t false h =
    append_assoc (comma_list (s ∷ ss)) (codes ", ") t ∙ flat_map_more (λ u. codes ", " ++ u) s ss t

-- one text more, behind those that are there
joined_behind : (bs : List ℕ) (ts : List (List ℕ)) (t : List ℕ) (b : Bool) → IsFirst b (length ts) → ((bs ++ comma_list ts) ++ gap b) ++ t ≡ bs ++ comma_list (ts ++ t ∷ [])
joined_behind bs ts t b h =
    ap (λ l. l ++ t) (append_assoc bs (comma_list ts) (gap b))
    ∙ append_assoc bs (comma_list ts ++ gap b) t
    ∙ ap (λ l. bs ++ l) (joined-push ts t b h)

-- text i of these, behind those before it
pub text_more : (bs : List ℕ) (ts : List (List ℕ)) (i : ℕ) → i < length ts → ((bs ++ comma_list (take i ts)) ++ gap (eqb i 0)) ++ get_or ts i [] ≡ bs ++ comma_list (take (i + 1) ts)
text_more bs ts i h =
    joined_behind bs (take i ts) (get_or ts i []) (eqb i 0) (first_by i 0 (length (take i ts)) (omega (arith, length-take-le i ts (omega arith))) (omega arith))
    ∙ sym (ap (λ l. bs ++ comma_list l) (take_more ts i [] h))

-- row i, behind those from s on
pub element_more : {X : Type 0} (f : X → List ℕ) (bs : List ℕ) (xs : List X) (s i : ℕ) (d : X) → s ≤ i → i < length xs → ((bs ++ comma_list (map f (slice_range xs s i))) ++ gap (eqb i s)) ++ f (get_or xs i d) ≡ bs ++ comma_list (map f (slice_range xs s (i + 1)))
element_more f bs xs s i d h l =
    let part = slice_range xs s i in
    let long : length (map f part) ≡ i - s = length-map part f ∙ length-slice_range xs s i h (omega arith) in
    joined_behind bs (map f part) (f (get_or xs i d)) (eqb i s) (first_by i s (length (map f part)) long h)
    ∙ sym (ap (λ l. bs ++ comma_list l) (ap (map f) (slice-more xs s i d h l) ∙ map_push f part (get_or xs i d)))

-- a column's row i, behind those from s on, by what was appended: a gap, and then the text of the
-- row
pub row_appended : (k : Column) (bs : List ℕ) (s i : ℕ) (before text new : List ℕ) → s ≤ i → i < length k.rows → before ≡ bs ++ comma_list (map (row_text k.dtype) (slice_range k.rows s i)) → text ≡ before ++ gap (eqb i s) → new ≡ text ++ row_text k.dtype (get_or k.rows i null) → new ≡ bs ++ comma_list (map (row_text k.dtype) (slice_range k.rows s (i + 1)))
row_appended k bs s i before text new h l so_far next more =
    let f = row_text k.dtype in
    more
    ∙ ap (λ l. l ++ f (get_or k.rows i null)) (next ∙ ap (λ l. l ++ gap (eqb i s)) so_far)
    ∙ element_more f bs k.rows s i null h l

-- a row of this type that was read, behind those from s on
pub row_behind : (k : Column) (bs : List ℕ) (s i : ℕ) (before text new : List ℕ) (t : TypeTree) (x : RowValue) → s ≤ i → i < length k.rows → before ≡ bs ++ comma_list (map (row_text k.dtype) (slice_range k.rows s i)) → text ≡ before ++ gap (eqb i s) → t ≡ k.dtype → x ≡ get_or k.rows i null → new ≡ text ++ row_text t x → new ≡ bs ++ comma_list (map (row_text k.dtype) (slice_range k.rows s (i + 1)))
row_behind k bs s i before text new t x h l so_far next type row more =
    row_appended k bs s i before text new h l so_far next (more ∙ ap₂ (λ (u : TypeTree) (y : RowValue). text ++ row_text u y) type row)

-- a list of one row is the row
pub one_row : (k : Column) (i : ℕ) → i < length k.rows → comma_list (map (row_text k.dtype) (slice_range k.rows i (i + 1))) ≡ row_text k.dtype (get_or k.rows i null)
one_row k i h =
    let f = row_text k.dtype in
    let none : i - i ≡ 0 = omega arith in
    ap (λ l. comma_list (map f l)) (slice-more k.rows i i null (omega arith) h ∙ ap (λ (n : ℕ). take n (drop i k.rows) ++ get_or k.rows i null ∷ []) none)
    ∙ append-nil (f (get_or k.rows i null))

-- a text in front of those that are there
joined-front : (t : List ℕ) (ts : List (List ℕ)) (b : Bool) → IsFirst b (length ts) → t ++ (gap b ++ comma_list ts) ≡ comma_list (t ∷ ts)
joined-front t [] true h = refl
joined-front t [] false h = let f : 0 < 0 = h.no refl in absurd (omega arith)
joined-front t (s ∷ ss) true h = let f : length (s ∷ ss) ≡ 0 = h.yes refl in absurd (omega arith)
joined-front t (s ∷ ss) false h = refl

-- the next row, in front of the last k of those before `end`
pub element_in_front : {X : Type 0} (f : X → List ℕ) (xs : List X) (end k : ℕ) (x d : X) → k < end → end ≤ length xs → x ≡ get_or xs (end - 1 - k) d → f x ++ (gap (eqb k 0) ++ comma_list (map f (drop (end - k) (take end xs)))) ≡ comma_list (map f (drop (end - (k + 1)) (take end xs)))
element_in_front f xs end k x d h within is =
    let rest = drop (end - k) (take end xs) in
    let long : length (map f rest) ≡ k - 0 = length-map rest f ∙ omega (arith, length-drop (end - k) (take end xs), length-take-le end xs within) in
    joined-front (f x) (map f rest) (eqb k 0) (first_by k 0 (length (map f rest)) long (omega arith))
    ∙ ap (λ l. comma_list (map f l)) (drop_before xs end k x d h within is)

-- texts behind others
joined-append : (ts us : List (List ℕ)) (b : Bool) → IsFirst b (length ts) → 0 < length us → (comma_list ts ++ gap b) ++ comma_list us ≡ comma_list (ts ++ us)
joined-append ts [] b h l = absurd (omega arith)
joined-append [] (u ∷ us) true h l = refl
joined-append [] (u ∷ us) false h l = let f : 0 < 0 = h.no refl in absurd (omega arith)
joined-append (s ∷ ss) (u ∷ us) true h l = let f : length (s ∷ ss) ≡ 0 = h.yes refl in absurd (omega arith)
joined-append (s ∷ ss) (u ∷ us) false h l =
    let g : List ℕ → List ℕ = λ t. codes ", " ++ t in
    append_assoc (comma_list (s ∷ ss)) (codes ", ") (comma_list (u ∷ us))
    ∙ append_assoc s (flat_map g ss) (flat_map g (u ∷ us))
    ∙ sym (ap (λ l. s ++ l) (flat_map-append g ss (u ∷ us)))

-- the rows from m up to e, behind those from s up to m
pub elements_more : {X : Type 0} (f : X → List ℕ) (bs : List ℕ) (xs : List X) (s m e : ℕ) (b : Bool) → IsFirst b (m - s) → s ≤ m → m < e → e ≤ length xs → ((bs ++ comma_list (map f (slice_range xs s m))) ++ gap b) ++ comma_list (map f (slice_range xs m e)) ≡ bs ++ comma_list (map f (slice_range xs s e))
elements_more f bs xs s m e b first h k within =
    let here = map f (slice_range xs s m) in
    let next = map f (slice_range xs m e) in
    let long : length here ≡ m - s = length-map (slice_range xs s m) f ∙ length-slice_range xs s m h (omega arith) in
    let more : length next ≡ e - m = length-map (slice_range xs m e) f ∙ length-slice_range xs m e (omega arith) within in
    let is : IsFirst b (length here) = record { yes = λ t. long ∙ first.yes t; no = λ t. omega (arith, long, first.no t) } in
    ap (λ l. l ++ comma_list next) (append_assoc bs (comma_list here) (gap b))
    ∙ append_assoc bs (comma_list here ++ gap b) (comma_list next)
    ∙ ap (λ l. bs ++ l) (joined-append here next b is (omega arith) ∙ ap comma_list (sym (map-append f (slice_range xs s m) (slice_range xs m e)) ∙ ap (map f) (slice_join xs s m e h (omega arith))))

pub ruleset alone = (one_row)
