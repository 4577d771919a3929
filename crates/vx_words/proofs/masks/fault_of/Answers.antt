use Rattle.std.proofs.Common.{ap, arith, sym, ◌∙◌}
use Rattle.std.specs.Int.RustNames.{count_ones}
use Rattle.std.proofs.lemmas.Nat.{zero_from_ones}
use Rattle.vx_words.proofs.MaskWords.{bits_past, no_fault, none_past, past_count}
use Rattle.vx_words.proofs.masks.fault_of.Goals.{else-rows-ne0-via-then-rows-ne0+else-words-rows-ne0, else-rows-ne0-via-else-rows-ne0}
use Rattle.vx_words.proofs.masks.fault_of.Goals as goal

pub returns-then-words-rows-ne0 : goal.returns-then-words-rows-ne0
returns-then-words-rows-ne0 c =
    let words = c.args.words.now in
    let rows = c.args.rows in
    let count = past_count words rows (omega arith) (omega arith) in
    bits_past rows words (omega arith) (λ e. c.if-words-rows-ne0.true (zero_from_ones _ (sym count ∙ e)))

pub returns : goal.returns
unfolding count_ones
returns c =
    let words = c.args.words.now in
    let rows = c.args.rows in
    elim c.else-rows-ne0.branch [
      | else-rows-ne0-via-then-rows-ne0+else-words-rows-ne0 w ↦ no_fault rows words (omega arith) (past_count words rows (omega arith) (omega arith) ∙ ap count_ones w.if-words-rows-ne0.false)
      | else-rows-ne0-via-else-rows-ne0 w ↦ no_fault rows words (omega arith) (none_past words rows (omega arith))
    ]
