-- What a run leaves, and the answer to it.
use Rattle.std.proofs.Common.{◌≡◌, ◌≢◌, ◌⊎◌, ℕ, ◌<◌, ◌≤◌, List, [], ◌++◌, length, Option, None, Some, unwrap_or, inl, inr, refl, ap, subst, sym, ◌∙◌, arith}
use Rattle.std.specs.Prelude.{IfSome}
use Rattle.std.proofs.lemmas.Bool.{cases_eq, cases_lt}
use Rattle.vx_io.specs.Bytes.{Rose, with_back}
use Rattle.vx_rows.specs.Commands.{IfCommand, command_of}
use Rattle.vx_rows.specs.Program.{Broken, Done, IfTold, IsBroken, IsDone, IsPrinted, Malformed, Outcome, TooLong, outcome_told, status_of}
use Rattle.vortex_rows_c.specs.Running.{AreTexts, IsPut, IsRun, IsTooLong}

-- ---- facts of an outcome, and others that follow

some_more : (o : Option Outcome) (P Q : Outcome → Type 0) → ((x : Outcome) → P x → Q x) → IfSome o P → IfSome o Q
some_more None P Q f h = h
some_more (Some x) P Q f h = f x h

pub told_more : (words : List (List ℕ)) (rest : Option (List ℕ)) (P Q : Outcome → Type 0) → ((x : Outcome) → P x → Q x) → IfTold words rest P → IfTold words rest Q
told_more words rest P Q f =
    elim (command_of words) as (λ c. IfCommand c (λ k. IfSome (outcome_told k rest) P) → IfCommand c (λ k. IfSome (outcome_told k rest) Q)) [
      | None ↦ λ h. h
      | Some k ↦ some_more (outcome_told k rest) P Q f
    ]

pub done_more : (P Q : List ℕ → Type 0) → ((t : List ℕ) → P t → Q t) → (o : Outcome) → IsDone o P → IsDone o Q
done_more P Q f (Done text asked) h = f text h
done_more P Q f (Broken line) h = h
done_more P Q f Malformed h = h
done_more P Q f TooLong h = h

pub broken_more : (P Q : List ℕ → Type 0) → ((t : List ℕ) → P t → Q t) → (o : Outcome) → IsBroken o P → IsBroken o Q
broken_more P Q f (Done text asked) h = h
broken_more P Q f (Broken line) h = f line h
broken_more P Q f Malformed h = h
broken_more P Q f TooLong h = h

done_printed : (P : List ℕ → Type 0) (o : Outcome) → IsDone o P → IsPrinted o P
done_printed P (Done text asked) h = h
done_printed P (Broken line) h = absurd h
done_printed P Malformed h = h
done_printed P TooLong h = h

broken_printed : (P : List ℕ → Type 0) (o : Outcome) → IsBroken o P → IsPrinted o P
broken_printed P (Done text asked) h = absurd h
broken_printed P (Broken line) h = h
broken_printed P Malformed h = h
broken_printed P TooLong h = h

-- ---- a run, and its answer

-- what is known of a run that leaves this text
pub record Ran (said : List (List ℕ)) (document text : List ℕ) (s : ℕ) : Type 0 where
  pub texts : AreTexts said
  pub words : s ≡ 3 → command_of said ≡ None
  pub done : s ≡ 0 → IfTold said (Some document) (λ o. IsDone o (λ t. text ≡ t))
  pub broken : s ≡ 1 → IfTold said (Some document) (λ o. IsBroken o (λ t. text ≡ t))
  pub malformed : s ≡ 2 → IfTold said (Some document) (λ o. o ≡ Malformed)
  pub too_long : s ≡ 7 → IfTold said (Some document) (λ o. o ≡ TooLong)
  pub complete : s ≢ 5 → (s ≡ 3) ⊎ (s ≡ 6) ⊎ IfTold said (Some document) (λ o. s ≡ status_of o)

-- a run answered with 6: memory runs out
pub no_memory : (said : List (List ℕ)) (document old new : List ℕ) (status value : ℕ) → status ≡ 6 → value ≡ 0 → new ≡ old → IsRun said document old new status value
no_memory said document old new status value e none same = record {
  done = λ z. absurd (omega (arith, e, z));
  broken = λ z. absurd (omega (arith, e, z));
  malformed = λ z. absurd (omega (arith, e, z));
  words = λ z. absurd (omega (arith, e, z));
  too_long = λ z. absurd (omega (arith, e, z));
  not_text = λ z. absurd (omega (arith, e, z));
  room = λ z. absurd (omega (arith, e, z));
  complete = inr (inl e);
  refused = λ _. same;
  untold = λ _ _. none;
}

-- the words are no texts
pub no_words : (said : List (List ℕ)) (document old new : List ℕ) (status value : ℕ) → status ≡ 9 → value ≡ 0 → (AreTexts said → ⊥) → new ≡ old → IsRun said document old new status value
no_words said document old new status value e none bad same = record {
  done = λ z. absurd (omega (arith, e, z));
  broken = λ z. absurd (omega (arith, e, z));
  malformed = λ z. absurd (omega (arith, e, z));
  words = λ z. absurd (omega (arith, e, z));
  too_long = λ z. absurd (omega (arith, e, z));
  not_text = λ _. bad;
  room = λ z. absurd (omega (arith, e, z));
  complete = inr (inr (inl e));
  refused = λ _. same;
  untold = λ _ _. none;
}

module _ (said : List (List ℕ)) (document text old new : List ℕ) (s status value : ℕ) (ran : Ran said document text s) where
  -- the program's status, where memory was not wanting
  complete_as : status ≡ s → s ≢ 5 → (status ≡ 3) ⊎ (status ≡ 6) ⊎ (status ≡ 9) ⊎ (status ≡ 16) ⊎ IfTold said (Some document) (λ o. status ≡ status_of o)
  complete_as e other = elim (ran.complete other) [
    | inl three ↦ inl (e ∙ three)
    | inr rest ↦ elim rest [
      | inl six ↦ inr (inl (e ∙ six))
      | inr is ↦ inr (inr (inr (inr (told_more said (Some document) (λ o. s ≡ status_of o) (λ o. status ≡ status_of o) (λ o h. e ∙ h) is))))
    ]
  ]

  of_put : s ≤ 1 → status ≡ s → IsPut text old new value → IsRun said document old new status value
  of_put few e put = record {
    done = λ z. told_more said (Some document) (λ o. IsDone o (λ t. text ≡ t)) (λ o. IsDone o (λ t. IsPut t old new value)) (done_more (λ t. text ≡ t) (λ t. IsPut t old new value) (λ t h. subst (λ x. IsPut x old new value) h put)) (ran.done (sym e ∙ z));
    broken = λ z. told_more said (Some document) (λ o. IsBroken o (λ t. text ≡ t)) (λ o. IsBroken o (λ t. IsPut t old new value)) (broken_more (λ t. text ≡ t) (λ t. IsPut t old new value) (λ t h. subst (λ x. IsPut x old new value) h put)) (ran.broken (sym e ∙ z));
    malformed = λ z. absurd (omega (arith, e, z, few));
    words = λ z. absurd (omega (arith, e, z, few));
    too_long = λ z. absurd (omega (arith, e, z, few));
    not_text = λ z. absurd (omega (arith, e, z, few));
    room = λ z. absurd (omega (arith, e, z, few));
    complete = complete_as e (λ five. omega (arith, few, five));
    refused = λ z. absurd (omega (arith, e, z, few));
    untold = λ z _. absurd (omega (arith, e, z, few));
  }

  done_long : (o : Outcome) → IsTooLong text old value → IsDone o (λ t. text ≡ t) → IsPrinted o (λ t. IsTooLong t old value)
  done_long o long h = done_printed (λ t. IsTooLong t old value) o (done_more (λ t. text ≡ t) (λ t. IsTooLong t old value) (λ t is. subst (λ x. IsTooLong x old value) is long) o h)

  broken_long : (o : Outcome) → IsTooLong text old value → IsBroken o (λ t. text ≡ t) → IsPrinted o (λ t. IsTooLong t old value)
  broken_long o long h = broken_printed (λ t. IsTooLong t old value) o (broken_more (λ t. text ≡ t) (λ t. IsTooLong t old value) (λ t is. subst (λ x. IsTooLong x old value) is long) o h)

  -- the text is there, and is too long
  printed : s ≤ 1 → IsTooLong text old value → IfTold said (Some document) (λ o. IsPrinted o (λ t. IsTooLong t old value))
  printed few long = elim (cases_lt 0 s) [
    | inl some ↦ told_more said (Some document) (λ o. IsBroken o (λ t. text ≡ t)) (λ o. IsPrinted o (λ t. IsTooLong t old value)) (λ o h. broken_long o long h) (ran.broken (omega arith))
    | inr none ↦ told_more said (Some document) (λ o. IsDone o (λ t. text ≡ t)) (λ o. IsPrinted o (λ t. IsTooLong t old value)) (λ o h. done_long o long h) (ran.done (omega arith))
  ]

  of_small : s ≤ 1 → status ≡ 16 → IsTooLong text old value → new ≡ old → IsRun said document old new status value
  of_small few e long same = record {
    done = λ z. absurd (omega (arith, e, z));
    broken = λ z. absurd (omega (arith, e, z));
    malformed = λ z. absurd (omega (arith, e, z));
    words = λ z. absurd (omega (arith, e, z));
    too_long = λ z. absurd (omega (arith, e, z));
    not_text = λ z. absurd (omega (arith, e, z));
    room = λ _. printed few long;
    complete = inr (inr (inr (inl e)));
    refused = λ _. same;
    untold = λ _ other. absurd (other e);
  }

  -- the status is one of 2, 3 and 7
  of_told : 1 < s → s ≤ 7 → s ≢ 5 → status ≡ s → value ≡ 0 → new ≡ old → IsRun said document old new status value
  of_told more known other e none same = record {
    done = λ z. absurd (omega (arith, e, z, more));
    broken = λ z. absurd (omega (arith, e, z, more));
    malformed = λ z. ran.malformed (sym e ∙ z);
    words = λ z. (ran.words (sym e ∙ z), ran.texts);
    too_long = λ z. ran.too_long (sym e ∙ z);
    not_text = λ z. absurd (omega (arith, e, z, known));
    room = λ z. absurd (omega (arith, e, z, known));
    complete = complete_as e other;
    refused = λ _. same;
    untold = λ _ _. none;
  }

  of_other : ((s ≡ 2) ⊎ (s ≡ 3) ⊎ (s ≡ 7) → status ≡ s) → (s ≢ 2 → s ≢ 3 → s ≢ 7 → status ≡ 6) → value ≡ 0 → new ≡ old → IsRun said document old new status value
  of_other told other none same = elim (cases_eq s 2) [
    | inl is ↦ of_told (omega arith) (omega arith) (λ five. omega arith) (told (inl is)) none same
    | inr two ↦ elim (cases_eq s 3) [
      | inl is ↦ of_told (omega arith) (omega arith) (λ five. omega arith) (told (inr (inl is))) none same
      | inr three ↦ elim (cases_eq s 7) [
        | inl is ↦ of_told (omega arith) (omega arith) (λ five. omega arith) (told (inr (inr is))) none same
        | inr seven ↦ no_memory said document old new status value (other two three seven) none same
      ]
    ]
  ]

  -- the answer, by what is done with the run's status and text
  pub of_answer : (s ≤ 1 → length text ≤ length old → status ≡ s) → (s ≤ 1 → length text ≤ length old → IsPut text old new value)
      → (s ≤ 1 → length old < length text → status ≡ 16) → (s ≤ 1 → length old < length text → IsTooLong text old value)
      → (s ≤ 1 → length old < length text → new ≡ old)
      → ((s ≡ 2) ⊎ (s ≡ 3) ⊎ (s ≡ 7) → status ≡ s) → (1 < s → s ≢ 2 → s ≢ 3 → s ≢ 7 → status ≡ 6) → (1 < s → value ≡ 0) → (1 < s → new ≡ old)
      → IsRun said document old new status value
  of_answer fits put small wanted too_small told other untold refused = elim (cases_lt 1 s) [
    | inl more ↦ of_other told (other more) (untold more) (refused more)
    | inr few ↦ elim (cases_lt (length old) (length text)) [
      | inl lacks ↦ of_small few (small few lacks) (wanted few lacks) (too_small few lacks)
      | inr room ↦ of_put few (fits few room) (put few room)
    ]
  ]

-- ---- what `run` says, over these bytes and into a text

held_same : (before text now : List ℕ) → before ≡ [] → Some now ≡ with_back (Some before) text → now ≡ text
held_same before text now none e =
    let is : now ≡ before ++ text = ap (λ o. unwrap_or o []) e in is ∙ ap (λ b. b ++ text) none

steady : (before after : ℕ) → after ≡ before → before ≡ 0 → ¬ Rose before after
steady before after same none rose = omega (arith, rose (omega (arith, same, none)), same)

pub ran_of : (said : List (List ℕ)) (document rest before text now : List ℕ) (s before_faults faults : ℕ) → rest ≡ document → before ≡ [] → now ≡ text → before_faults ≡ 0
    → (s ≡ 3 → command_of said ≡ None)
    → (s ≡ 0 → IfTold said (Some rest) (λ o. IsDone o (λ t. Some text ≡ with_back (Some before) t)))
    → (s ≡ 1 → IfTold said (Some rest) (λ o. IsBroken o (λ t. Some text ≡ with_back (Some before) t)))
    → (s ≡ 2 → IfTold said (Some rest) (λ o. o ≡ Malformed))
    → (s ≡ 7 → IfTold said (Some rest) (λ o. o ≡ TooLong))
    → (s ≢ 5 → faults ≡ before_faults)
    → (¬ Rose 0 0 → ¬ Rose before_faults faults → (s ≡ 3) ⊎ (s ≡ 6) ⊎ IfTold said (Some rest) (λ o. s ≡ status_of o))
    → AreTexts said → Ran said document now s
ran_of said document rest before text now s before_faults faults read none is no_faults words done broken malformed too_long sound complete texts = record {
  texts = texts;
  words = words;
  done = λ z. let h = subst (λ r. IfTold said (Some r) (λ o. IsDone o (λ t. Some text ≡ with_back (Some before) t))) read (done z) in
      told_more said (Some document) (λ o. IsDone o (λ t. Some text ≡ with_back (Some before) t)) (λ o. IsDone o (λ t. now ≡ t)) (done_more (λ t. Some text ≡ with_back (Some before) t) (λ t. now ≡ t) (λ t e. is ∙ held_same before t text none e)) h;
  broken = λ z. let h = subst (λ r. IfTold said (Some r) (λ o. IsBroken o (λ t. Some text ≡ with_back (Some before) t))) read (broken z) in
      told_more said (Some document) (λ o. IsBroken o (λ t. Some text ≡ with_back (Some before) t)) (λ o. IsBroken o (λ t. now ≡ t)) (broken_more (λ t. Some text ≡ with_back (Some before) t) (λ t. now ≡ t) (λ t e. is ∙ held_same before t text none e)) h;
  malformed = λ z. subst (λ r. IfTold said (Some r) (λ o. o ≡ Malformed)) read (malformed z);
  too_long = λ z. subst (λ r. IfTold said (Some r) (λ o. o ≡ TooLong)) read (too_long z);
  complete = λ other. subst (λ r. (s ≡ 3) ⊎ (s ≡ 6) ⊎ IfTold said (Some r) (λ o. s ≡ status_of o)) read (complete (steady 0 0 refl refl) (steady before_faults faults (sound other) no_faults));
}
