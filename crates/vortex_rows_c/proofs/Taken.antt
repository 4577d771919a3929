-- What a read takes.
use Rattle.std.proofs.Common.{◌≡◌, ℕ, ◌+◌, ◌-◌, ◌≤◌, List, ◌++◌, length, take, drop, refl, sym, ap, ◌∙◌, arith}
use Rattle.std.proofs.lemmas.List.{take-append-le, take-append-drop, length-take-le, length-drop, drop-drop, take_all}

-- what was copied to the front of dst came from the front of what was left
pub took : (left all moved dst : List ℕ) (at n : ℕ) → left ≡ drop at all
    → moved ≡ take ((at + n) - at) (drop at all) → at + n ≤ length all
    → left ≡ take n (moved ++ drop n dst) ++ drop (at + n) all
took left all moved dst at n was copied fits =
    let k : (at + n) - at ≡ n = omega arith in
    let m : moved ≡ take n (drop at all) = copied ∙ rw k refl in
    let room : n ≤ length (drop at all) = omega (arith, length-drop at all) in
    let len : length moved ≡ n = ap length m ∙ length-take-le n (drop at all) room in
    let front : take n (moved ++ drop n dst) ≡ take n (drop at all) = take-append-le n moved (drop n dst) (omega arith) ∙ take_all n moved (omega arith) ∙ m in
    let back : drop (at + n) all ≡ drop n (drop at all) = sym (drop-drop n at all) in
    was ∙ sym (rw (front, back) (take-append-drop n (drop at all)))
