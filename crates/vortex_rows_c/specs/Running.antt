-- The program's words in bytes, and what a run over memory answers.
use Rattle.std.specs.Prelude.{◌≡◌, ◌≢◌, ◌⊎◌, ℕ, ◌<◌, ◌==◌, true, List, [], ◌∷◌, ◌++◌, length, drop, None, Some, if◌then◌else◌}
use Rattle.std.specs.List.{All}
use Rattle.std.specs.Str.{is_utf8}
use Rattle.vx_rows.specs.Commands.{command_of}
use Rattle.vx_rows.specs.Program.{IfTold, IsBroken, IsDone, IsPrinted, Malformed, TooLong, status_of}

-- what a clause sees of a text that grows
pub record TextState : Type 0 where
  pub held : List ℕ
  -- how many of its bytes no finish has covered
  pub pending : ℕ
  -- how many writes have failed
  pub faults : ℕ

-- the words in the bytes, of which the first begins with `word`
abbrev pub words_behind : List ℕ → List ℕ → List (List ℕ)
words_behind word [] = if length word == 0 then [] else word ∷ []
words_behind word (byte ∷ bytes) =
    if byte == 0 then word ∷ words_behind [] bytes else words_behind (word ++ byte ∷ []) bytes

-- the words in the bytes: each is ended by a byte 0, and what stands behind the last 0, where
-- anything does, is a word too
abbrev pub words_in : List ℕ → List (List ℕ)
words_in bytes = words_behind [] bytes

-- each word is UTF-8
abbrev pub AreTexts : List (List ℕ) → Type 0
AreTexts words = All (λ word. is_utf8 word ≡ true) words

-- the text stands at the front of the output, the number is how long it is, and the rest of the
-- output is as it was
pub record IsPut (text old new : List ℕ) (value : ℕ) : Type 0 where
  pub count : value ≡ length text
  pub front : new ≡ text ++ drop value old

-- the output is too small for the text, and the number is how long it is
pub record IsTooLong (text old : List ℕ) (value : ℕ) : Type 0 where
  pub count : value ≡ length text
  pub small : length old < value

-- what a run by these words leaves, and answers, with the document in place of its input
pub record IsRun (said : List (List ℕ)) (document old new : List ℕ) (status value : ℕ)
    : Type 0 where
  pub done : status ≡ 0 → IfTold said (Some document)
      (λ o. IsDone o (λ text. IsPut text old new value))
  pub broken : status ≡ 1 → IfTold said (Some document)
      (λ o. IsBroken o (λ line. IsPut line old new value))
  pub malformed : status ≡ 2 → IfTold said (Some document) (λ o. o ≡ Malformed)
  pub words : status ≡ 3 → (command_of said ≡ None) × AreTexts said
  pub too_long : status ≡ 7 → IfTold said (Some document) (λ o. o ≡ TooLong)
  pub not_text : status ≡ 9 → AreTexts said → ⊥
  pub room : status ≡ 16 → IfTold said (Some document)
      (λ o. IsPrinted o (λ text. IsTooLong text old value))
  -- the status is the program's, or memory runs out, or it is one of those above
  pub complete : (status ≡ 3) ⊎ (status ≡ 6) ⊎ (status ≡ 9) ⊎ (status ≡ 16)
      ⊎ IfTold said (Some document) (λ o. status ≡ status_of o)
  pub refused : 1 < status → new ≡ old
  -- no number is told but how long a text is
  pub untold : 1 < status → status ≢ 16 → value ≡ 0
