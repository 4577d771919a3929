-- Blocks of bytes written over others.
use Rattle.std.proofs.Common.{◌≡◌, ℕ, ◌+◌, ◌≤◌, List, ◌++◌, length, take, drop, ap, ap₂, sym, ◌∙◌, arith, append_assoc, length-append}
use Rattle.std.proofs.lemmas.List.{length-take-le, take_at, take-take, take-append-drop}

-- the front of a block that is written behind a beginning
pub block_front : (xs src rest : List ℕ) (at b count : ℕ) → at ≤ length xs → count ≤ b → b ≤ length src → take (at + count) (take at xs ++ (take b src ++ rest)) ≡ take at xs ++ take count src
block_front xs src rest at b count h few long =
    let own = take b src in
    let front = take count own in
    let e : take at xs ++ (own ++ rest) ≡ take at xs ++ front ++ (drop count own ++ rest) =
    ap (λ (l : List ℕ). take at xs ++ (l ++ rest)) (sym (take-append-drop count own))
    ∙ ap (λ (l : List ℕ). take at xs ++ l) (append_assoc front (drop count own) rest)
    ∙ sym (append_assoc (take at xs) front (drop count own ++ rest)) in
    let wide : length (take at xs ++ front) ≡ at + count = length-append (take at xs) front ∙ ap₂ ◌+◌ (length-take-le at xs h) (length-take-le count own (omega (arith, length-take-le b src long))) in
    ap (take (at + count)) e ∙ take_at (take at xs ++ front) (drop count own ++ rest) (at + count) wide ∙ ap (λ (l : List ℕ). take at xs ++ l) (take-take count b src few)
