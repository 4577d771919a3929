-- What the program makes of the bytes that a source told, once all or too many of them were taken.
use Rattle.std.proofs.Common.{◌≡◌, ℕ, ◌<◌, ◌≤◌, List, [], length, true, false, nat_lt, Option, Some, None, IfSome, refl, sym, ap, ◌∙◌, subst, arith}
use Rattle.std.proofs.lemmas.Bool.Decides.{nat_tests}
use Rattle.std.proofs.lemmas.List.{append-nil}
use Rattle.vx_io.specs.Bytes.{with_front}
use Rattle.vx_rows.specs.Program.{Outcome, TooLong, program, outcome_of}
use Rattle.vx_rows.specs.declared.command.Form.{Form}
use Rattle.vx_io.specs.declared.transfer.TheConstants.{MAX_BYTES}

program-short : (form : Form) (bytes : List ℕ) → length bytes ≤ MAX_BYTES → program form bytes ≡ outcome_of form bytes
unfolding program
program-short form bytes h = let t : nat_lt MAX_BYTES (length bytes) ≡ false = grind (arith, nat_tests) in rw t refl

program-long : (form : Form) (bytes : List ℕ) → MAX_BYTES < length bytes → program form bytes ≡ TooLong
unfolding program
program-long form bytes h = let t : nat_lt MAX_BYTES (length bytes) ≡ true = grind (arith, nat_tests) in rw t refl

-- more bytes than a document has: a fact of that outcome
pub told_long : (form : Form) (P : Outcome → Type 0) (rest : Option (List ℕ)) → IfSome rest (λ bytes. MAX_BYTES < length bytes) → P TooLong → IfSome rest (λ bytes. P (program form bytes))
told_long form P None h p = tt
told_long form P (Some bytes) h p = subst P (sym (program-long form bytes h)) p

told_by : (form : Form) (P : Outcome → Type 0) (left : Option (List ℕ)) (bytes : List ℕ) → IfSome left (λ l. l ≡ []) → length bytes ≤ MAX_BYTES → P (outcome_of form bytes) → IfSome (with_front bytes left) (λ b. P (program form b))
told_by form P None bytes end short p = tt
told_by form P (Some l) bytes end short p = rw (end, append-nil, program-short form bytes short) p

-- all was taken, and these bytes are those that were told: a fact of what comes of them
pub told : (form : Form) (P : Outcome → Type 0) (rest left : Option (List ℕ)) (bytes now : List ℕ) → rest ≡ with_front bytes left → IfSome left (λ l. l ≡ []) → length bytes ≤ MAX_BYTES
    → now ≡ bytes → (o : Outcome) → outcome_of form now ≡ o → P o → IfSome rest (λ b. P (program form b))
told form P rest left bytes now taken end short same o is p =
    let comes : outcome_of form bytes ≡ o = ap (outcome_of form) (sym same) ∙ is in
    subst (λ r. IfSome r (λ b. P (program form b))) (sym taken) (told_by form P left bytes end short (subst P (sym comes) p))
