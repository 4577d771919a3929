-- Lists of one size that stand one after another.
use Rattle.std.proofs.Common.{◌≡◌, ℕ, suc, ◌+◌, ◌*◌, true, List, [], ◌∷◌, length, map, None, refl, sym, ap, ap₂, ◌∙◌, arith}
use Rattle.std.specs.Prelude.{◌==◌}
use Rattle.std.specs.List.{All, sum_by}
use Rattle.std.proofs.lemmas.Bool.Decides.{nat_tests}
use Rattle.std.proofs.lemmas.List.Elements.{All-tail}
use Rattle.std.proofs.lemmas.List.Concat.{length-flat_map}
use Rattle.std.proofs.lemmas.List.Sums.{sum_by-cons}
use Rattle.vx_types.specs.RowValue.{RowValue}
use Rattle.vx_offsets.specs.Offsets.{spans}
use Rattle.vx_model.specs.FixedSizeList.{FixedParts, fixed_fault, runs_from}
use Rattle.vx_model.specs.Valid.{is_fitting}
use Rattle.vx_lists.specs.Sums.{concat_lists, sums_from}

pub runs-spans : (s size : ℕ) (lists : List (List RowValue)) → All (λ (x : List RowValue). length x ≡ size) lists → runs_from s size (length lists) ≡ spans (s ∷ sums_from s (map length lists))
runs-spans s size [] h = refl
runs-spans s size (l ∷ lists) h =
    let here : length l ≡ size = h 0 l (omega arith) in
    ap₂ ◌∷◌ (ap (λ n. (s, s + n)) (sym here))
    (ap (λ n. runs_from (s + n) size (length lists)) (sym here) ∙ runs-spans (s + length l) size lists (All-tail (λ (x : List RowValue). length x ≡ size) l lists h))

sum-sizes : (size : ℕ) (lists : List (List RowValue)) → All (λ (x : List RowValue). length x ≡ size) lists → sum_by length lists ≡ size * length lists
sum-sizes size [] h = omega arith
sum-sizes size (l ∷ lists) h =
    let here : length l ≡ size = h 0 l (omega arith) in
    let rest = sum-sizes size lists (All-tail (λ (x : List RowValue). length x ≡ size) l lists h) in
    let all = sum_by-cons length l lists in
    let more : size * suc (length lists) ≡ size + size * length lists = grind arith in
    omega (arith, here, rest, all, more)

pub fixed_sound : (p : FixedParts) (lists : List (List RowValue)) → All (λ (x : List RowValue). length x ≡ p.size) lists → p.len ≡ length lists → p.elements.rows ≡ concat_lists lists → is_fitting p.valid (length lists) ≡ true → fixed_fault p ≡ None
fixed_sound p lists sizes count rows fits =
    let total : length p.elements.rows ≡ p.size * length lists = ap length rows ∙ length-flat_map (λ (l : List RowValue). l) lists ∙ sum-sizes p.size lists sizes in
    let long : length p.elements.rows ≡ p.size * p.len = total ∙ ap (λ n. p.size * n) (sym count) in
    let same : (length p.elements.rows == p.size * p.len) ≡ true = grind (arith, nat_tests) in
    let fit : is_fitting p.valid p.len ≡ true = ap (is_fitting p.valid) count ∙ fits in
    rw (same, fit) refl
