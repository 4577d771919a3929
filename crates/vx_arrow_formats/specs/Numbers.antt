-- Numbers of decimal digits, and fields between commas.
use Rattle.std.specs.Prelude.{ℕ, ◌+◌, ◌-◌, ◌*◌, ◌^◌, Bool, ◌&&◌, List, [], ◌∷◌, length, fold, ◌==◌, nat_le, nat_lt, if◌then◌else◌, Option, Some, None}
use Rattle.std.specs.List.{list_all}
use Rattle.std.specs.Borrow.{Bor}

abbrev pub is_digit : ℕ → Bool
is_digit b = nat_le 48 b && nat_le b 57

-- the value of digits
abbrev pub value_of : List ℕ → ℕ
value_of digits = fold (λ n d. 10 * n + (d - 48)) 0 digits

-- a number of one or more digits, zeros before it among them, of at most 2^31 - 1
unfoldable pub number_in : List ℕ → Option ℕ
number_in text =
    if nat_lt 0 (length text) && (list_all is_digit text && nat_lt (value_of text) (2 ^ 31)) then
    Some (value_of text)
    else None

-- a byte before the first of some fields
abbrev pub with_byte : ℕ → List (List ℕ) → List (List ℕ)
with_byte b [] = (b ∷ []) ∷ []
with_byte b (f ∷ fs) = (b ∷ f) ∷ fs

-- the fields of a text, which commas separate; the empty text has one
abbrev pub fields_in : List ℕ → List (List ℕ)
fields_in [] = [] ∷ []
fields_in (b ∷ bs) = if b == 44 then [] ∷ fields_in bs else with_byte b (fields_in bs)

-- the fields of a text that may not be there
abbrev pub fields_left : Option (Bor (List ℕ)) → List (List ℕ)
fields_left None = []
fields_left (Some text) = fields_in text.now
