-- Words in bytes, byte by byte.
use Rattle.std.proofs.Common.{◌≡◌, ◌≢◌, ℕ, ◌+◌, ◌<◌, ◌≤◌, false, true, cond, List, [], ◌∷◌, ◌++◌, length, get_or, drop, Err, Ok, eq-eqb, ne_eqb, sym, ap, subst, ◌∙◌}
use Rattle.std.proofs.lemmas.Bool.{false≢true}
use Rattle.std.proofs.lemmas.List.{append_assoc, append-nil, at_drop_all, at_drop_more}
use Rattle.std.proofs.lemmas.List.Elements.{All-head, All-map, All-tail}
use Rattle.std.proofs.lemmas.Str.{IsUtf8-string_bytes, is_utf8-from_IsUtf8}
use Rattle.std.specs.Prelude.{IsErrOf, Result, String, map, string_bytes}
use Rattle.std.specs.Str.{is_utf8}
use Rattle.vortex_rows_c.specs.Running.{AreTexts, words_behind, words_in}

-- a byte 0 ends a word
ended : (word rest : List ℕ) (byte : ℕ) → byte ≡ 0 → words_behind word (byte ∷ rest) ≡ word ∷ words_behind [] rest
ended word rest byte e = ap (λ b. cond b (word ∷ words_behind [] rest) (words_behind (word ++ byte ∷ []) rest)) (eq-eqb byte 0 e)

-- another one is behind the others of its word
longer : (word rest : List ℕ) (byte : ℕ) → byte ≢ 0 → words_behind word (byte ∷ rest) ≡ words_behind (word ++ byte ∷ []) rest
longer word rest byte e = ap (λ b. cond b (word ∷ words_behind [] rest) (words_behind (word ++ byte ∷ []) rest)) (ne_eqb byte 0 e)

-- strings are text
pub are_texts : {Z : Type 0} (words : List (String Z)) → AreTexts (map string_bytes words)
are_texts words =
    All-map (λ w. is_utf8 w ≡ true) string_bytes words (λ k d h. is_utf8-from_IsUtf8 _ (IsUtf8-string_bytes (get_or words k d)))

-- a word that is no text is among the words
no_texts : (words more : List (List ℕ)) (word : List ℕ) → is_utf8 word ≡ false → AreTexts (words ++ word ∷ more) → ⊥
no_texts [] more word bad all = absurd (false≢true (sym bad ∙ All-head (λ w. is_utf8 w ≡ true) word more all))
no_texts (w ∷ words) more word bad all = no_texts words more word bad (All-tail (λ v. is_utf8 v ≡ true) w (words ++ word ∷ more) all)

cause : {T E : Type 0} → E → Result T E → E
cause e (Ok x) = e
cause e (Err f) = f

-- a failure's cause is the same, whatever would have come of the call
pub same_cause : {T U E : Type 0} (e f : E) → IsErrOf {T = T} {E = E} (Err e) f → IsErrOf {T = U} {E = E} (Err e) f
unfolding cause
same_cause e f h = ap (λ x. Err x) (ap (λ r. cause e r) h)

-- these words, and then what is behind the bytes so far
abbrev pub AreSoFar : List ℕ → List (List ℕ) → List ℕ → ℕ → Type 0
AreSoFar bytes words word i = words_in bytes ≡ words ++ words_behind word (drop i bytes)

module _ (bytes : List ℕ) (words more : List (List ℕ)) (word : List ℕ) (i byte : ℕ) (so_far : AreSoFar bytes words word i) where
  -- a word that the next byte ends
  at_end : i < length bytes → byte ≡ get_or bytes i 0 → byte ≡ 0 → words_in bytes ≡ words ++ word ∷ words_behind [] (drop (i + 1) bytes)
  at_end within is zero =
      so_far
      ∙ ap (λ l. words ++ l) (at_drop_more (λ rest. words_behind word rest) bytes i 0 within ∙ ended word (drop (i + 1) bytes) (get_or bytes i 0) (sym is ∙ zero))

  pub next_word : i < length bytes → byte ≡ get_or bytes i 0 → byte ≡ 0 → more ≡ words ++ word ∷ [] → AreSoFar bytes more [] (i + 1)
  next_word within is zero one =
      at_end within is zero
      ∙ sym (append_assoc words (word ∷ []) (words_behind [] (drop (i + 1) bytes)))
      ∙ ap (λ l. l ++ words_behind [] (drop (i + 1) bytes)) (sym one)

  pub next_byte : (now : List ℕ) → i < length bytes → byte ≡ get_or bytes i 0 → byte ≢ 0 → now ≡ word ++ byte ∷ [] → AreSoFar bytes words now (i + 1)
  next_byte now within is some one =
      let here : get_or bytes i 0 ≢ 0 = λ e. some (is ∙ e) in
      so_far
      ∙ ap (λ l. words ++ l) (at_drop_more (λ rest. words_behind word rest) bytes i 0 within ∙ longer word (drop (i + 1) bytes) (get_or bytes i 0) here
      ∙ ap (λ w. words_behind w (drop (i + 1) bytes)) (ap (λ x. word ++ x ∷ []) (sym is) ∙ sym one))

  pub bad_word : i < length bytes → byte ≡ get_or bytes i 0 → byte ≡ 0 → is_utf8 word ≡ false → AreTexts (words_in bytes) → ⊥
  bad_word within is zero bad all = no_texts words (words_behind [] (drop (i + 1) bytes)) word bad (subst AreTexts (at_end within is zero) all)

  at_last : length bytes ≤ i → words_in bytes ≡ words ++ words_behind word []
  at_last past = so_far ∙ ap (λ l. words ++ l) (at_drop_all (λ rest. words_behind word rest) bytes i past)

  pub no_word_left : length bytes ≤ i → length word ≡ 0 → words ≡ words_in bytes
  no_word_left past none = sym (at_last past ∙ ap (λ b. words ++ cond b [] (word ∷ [])) (eq-eqb (length word) 0 none) ∙ append-nil words)

  last_is : length bytes ≤ i → length word ≢ 0 → words_in bytes ≡ words ++ word ∷ []
  last_is past some = at_last past ∙ ap (λ b. words ++ cond b [] (word ∷ [])) (ne_eqb (length word) 0 some)

  pub last_word : length bytes ≤ i → length word ≢ 0 → more ≡ words ++ word ∷ [] → more ≡ words_in bytes
  last_word past some one = one ∙ sym (last_is past some)

  pub bad_last_word : length bytes ≤ i → length word ≢ 0 → is_utf8 word ≡ false → AreTexts (words_in bytes) → ⊥
  bad_last_word past some bad all = no_texts words [] word bad (subst AreTexts (last_is past some) all)
