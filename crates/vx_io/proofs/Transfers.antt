-- What a read takes, and what reads and writes in turn have moved.
use Rattle.std.proofs.Common.{◌≡◌, ℕ, ◌+◌, ◌-◌, ◌≤◌, List, ◌++◌, length, take, drop, Option, Some, None, refl, sym, ap, subst, ◌∙◌, append_assoc, arith}
use Rattle.std.proofs.lemmas.List.{take-append-le, take-append-drop, length-take-le, length-drop, drop-drop, take_all, take_rest}
use Rattle.std.proofs.Math.Seq.{take-add, take-take, take-append-add}
use Rattle.vx_io.specs.Bytes.{with_front, with_back}

-- what was copied to the front of dst came from the front of what was left
pub took : (left all src moved dst : List ℕ) (at n : ℕ) → left ≡ drop at all → src ≡ all
    → moved ≡ take ((at + n) - at) (drop at src) → at + n ≤ length all
    → left ≡ take n (moved ++ drop n dst) ++ drop (at + n) all
took left all src moved dst at n was same copied fits =
    let k : (at + n) - at ≡ n = omega arith in
    let m : moved ≡ take n (drop at all) = copied ∙ rw (k, same) in
    let room : n ≤ length (drop at all) = omega (arith, length-drop at all) in
    let len : length moved ≡ n = ap length m ∙ length-take-le n (drop at all) room in
    let front : take n (moved ++ drop n dst) ≡ take n (drop at all) = take-append-le n moved (drop n dst) (omega arith) ∙ take_all n moved (omega arith) ∙ m in
    let back : drop (at + n) all ≡ drop n (drop at all) = sym (drop-drop n at all) in
    was ∙ sym (rw (front, back) (take-append-drop n (drop at all)))

with_front-twice : (rest : Option (List ℕ)) (a b : List ℕ) → with_front a (with_front b rest) ≡ with_front (a ++ b) rest
with_front-twice None a b = refl
with_front-twice (Some bytes) a b = ap Some (sym (append_assoc a b bytes))

-- a read put n more bytes behind those that are filled
pub more_taken : (old mid new : Option (List ℕ)) (before roomy dst after : List ℕ) (filled n : ℕ)
    → mid ≡ with_front (take n dst) new → old ≡ with_front (take filled before) mid
    → take filled roomy ≡ take filled before → take (filled + n) after ≡ take filled roomy ++ take n dst
    → old ≡ with_front (take (filled + n) after) new
more_taken old mid new before roomy dst after filled n now was kept filled_now =
    was ∙ rw (now, with_front-twice new (take filled before) (take n dst)) (rw (← kept, ← filled_now) refl)

-- the filled bytes and those of a read stand at the front of the buffer after it
pub filled_after : (roomy buf dst post tail : List ℕ) (filled n len : ℕ)
    → buf ≡ roomy → filled ≤ length buf → n ≤ length dst → filled + n ≤ len
    → take (filled + n) (take len ((take filled buf ++ (dst ++ post)) ++ tail)) ≡ take filled roomy ++ take n dst
filled_after roomy buf dst post tail filled n len same fits some within =
    let front : length (take filled buf) ≡ filled = length-take-le filled buf fits in
    let all : List ℕ = take filled buf ++ (dst ++ (post ++ tail)) in
    let split : (take filled buf ++ (dst ++ post)) ++ tail ≡ all = append_assoc (take filled buf) (dst ++ post) tail ∙ rw append_assoc refl in
    let behind : take (filled + n) all ≡ take filled buf ++ take n dst =
    subst (λ k. take (k + n) all ≡ take filled buf ++ take n dst) front
    (take-append-add (take filled buf) (dst ++ (post ++ tail)) n ∙ rw (take-append-le n dst (post ++ tail) some) refl) in
    take-take (filled + n) len ((take filled buf ++ (dst ++ post)) ++ tail) within ∙ rw split (behind ∙ rw same refl)

with_back-twice : (held : Option (List ℕ)) (a b : List ℕ) → with_back (with_back held a) b ≡ with_back held (a ++ b)
with_back-twice None a b = refl
with_back-twice (Some bytes) a b = ap Some (append_assoc bytes a b)

-- a write sent n more bytes of the text
pub more_written : (old mid new : Option (List ℕ)) (text : List ℕ) (at n : ℕ)
    → new ≡ with_back mid (take n (take (length text - at) (drop at text)))
    → mid ≡ with_back old (take at text) → new ≡ with_back old (take (at + n) text)
more_written old mid new text at n now before =
    now ∙ rw (take_rest text at, before) (with_back-twice old (take at text) (take n (drop at text)) ∙ ap (with_back old) (sym (take-add at n text)))
