-- Bytes between quotes, a run at a time.
use Rattle.std.proofs.Common.{◌≡◌, ℕ, ◌+◌, ◌-◌, ◌/◌, ◌%◌, ◌<◌, ◌≤◌, Bool, true, false, List, map, [], ◌∷◌, ◌++◌, ◌∙◌, length, take, drop, get_or, refl, sym, ap, ap₂, arith, length-drop, append_assoc, append-nil}
use Rattle.std.specs.Prelude.{if◌then◌else◌, codes, flat_map}
use Rattle.std.specs.List.{list_all, range_with_len}
use Rattle.std.proofs.lemmas.Bool.{and_parts}
use Rattle.std.proofs.lemmas.List.{take_more, get_or-drop, flat_map_more}
use Rattle.std.proofs.lemmas.List.FromFn.{get_or-map-range_with_len}
use Rattle.hex.specs.Hex.{encode_lower, encode_with, lower_digits}
use Rattle.vx_quote.specs.Quoted.{is_plain, quoted_byte}
use Rattle.vx_quote.specs.declared.quoted.TheConstants.{PLAIN}

pub plain_byte : (b : ℕ) → is_plain b ≡ true → quoted_byte b ≡ b ∷ []
plain_byte b h = ap (λ is. if is then b ∷ [] else codes "\\x" ++ encode_lower (b ∷ [])) h

pub escaped_byte : (b : ℕ) → is_plain b ≡ false → quoted_byte b ≡ 92 ∷ 120 ∷ get_or lower_digits (b / 16) 0 ∷ get_or lower_digits (b % 16) 0 ∷ []
unfolding encode_with
escaped_byte b h = ap (λ is. if is then b ∷ [] else codes "\\x" ++ encode_lower (b ∷ [])) h

-- bytes that all stand for themselves
pub plain_bytes : (b : List ℕ) → list_all is_plain b ≡ true → flat_map quoted_byte b ≡ b
plain_bytes [] h = refl
plain_bytes (x ∷ xs) h =
    let parts = and_parts (is_plain x) (list_all is_plain xs) h in
    ap₂ (λ l m. l ++ m) (plain_byte x parts.0) (plain_bytes xs parts.1)

-- one byte more, behind the run that began at `start`
run_more : (xs : List ℕ) (start i d : ℕ) → start ≤ i → i < length xs → take (i + 1 - start) (drop start xs) ≡ take (i - start) (drop start xs) ++ get_or xs i d ∷ []
run_more xs start i d h l =
    let m = i - start in
    let next : i + 1 - start ≡ m + 1 = omega arith in
    let at : start + m ≡ i = omega arith in
    ap (λ (n : ℕ). take n (drop start xs)) next
    ∙ take_more (drop start xs) m d (omega (arith, length-drop start xs))
    ∙ ap (λ x. take m (drop start xs) ++ x ∷ []) (get_or-drop start xs m d ∙ ap (λ (n : ℕ). get_or xs n d) at)

-- the quoted bytes, and one more
quoted_more : (text init xs : List ℕ) (i : ℕ) → i < length xs → text ≡ init ++ flat_map quoted_byte (take i xs) → text ++ quoted_byte (get_or xs i 0) ≡ init ++ flat_map quoted_byte (take (i + 1) xs)
quoted_more text init xs i l h =
    ap (λ t. t ++ quoted_byte (get_or xs i 0)) h
    ∙ flat_map_more quoted_byte init (take i xs) (get_or xs i 0)
    ∙ sym (ap (λ b. init ++ flat_map quoted_byte b) (take_more xs i 0 l))

-- a byte that stands for itself is one more of the run
pub run_on : (text init xs : List ℕ) (start i : ℕ) → start ≤ i → i < length xs → is_plain (get_or xs i 0) ≡ true → text ++ take (i - start) (drop start xs) ≡ init ++ flat_map quoted_byte (take i xs) → text ++ take (i + 1 - start) (drop start xs) ≡ init ++ flat_map quoted_byte (take (i + 1) xs)
run_on text init xs start i h l plain put =
    let run = take (i - start) (drop start xs) in
    let b = get_or xs i 0 in
    ap (λ r. text ++ r) (run_more xs start i 0 h l)
    ∙ sym (append_assoc text run (b ∷ []))
    ∙ sym (ap (λ q. (text ++ run) ++ q) (plain_byte b plain))
    ∙ quoted_more (text ++ run) init xs i l put

-- behind another byte a run begins
pub run_over : (text init xs : List ℕ) (start i : ℕ) → i < length xs → text ++ take (i - start) (drop start xs) ≡ init ++ flat_map quoted_byte (take i xs) → ((text ++ take (i - start) (drop start xs)) ++ quoted_byte (get_or xs i 0)) ++ take (i + 1 - (i + 1)) (drop (i + 1) xs) ≡ init ++ flat_map quoted_byte (take (i + 1) xs)
run_over text init xs start i l put =
    let all = (text ++ take (i - start) (drop start xs)) ++ quoted_byte (get_or xs i 0) in
    let none : i + 1 - (i + 1) ≡ 0 = omega arith in
    ap (λ (n : ℕ). all ++ take n (drop (i + 1) xs)) none
    ∙ append-nil all
    ∙ quoted_more (text ++ take (i - start) (drop start xs)) init xs i l put

-- ---- the table of bytes

listed : PLAIN ≡ map is_plain (range_with_len 0 256)
listed = refl

pub listed_byte : (b : ℕ) (d : Bool) → b < 256 → get_or PLAIN b d ≡ is_plain b
listed_byte b d h =
    ap (λ l. get_or l b d) listed ∙ get_or-map-range_with_len is_plain 0 256 b b d h (omega arith)
