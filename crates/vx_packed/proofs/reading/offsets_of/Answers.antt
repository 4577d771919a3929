use Rattle.std.proofs.Common.{◌≡◌, ◌*◌, length, ap, sym, ◌∙◌, arith}
use Rattle.std.proofs.lemmas.List.{take_rest}
use Rattle.std.proofs.lemmas.Nat.{pow_pos}
use Rattle.vx_packed.specs.Chunk.{digits, greatest, least}
use Rattle.vx_packed.specs.Faults.{base_in, chunk_fault, digits_in, fields, offsets_in}
use Rattle.vx_packed.proofs.Rules.{base_fault, big_fault, keeps-no_fault, most_is, slack_fault, small_width}
use Rattle.vx_packed.proofs.reading.offsets_of.Goals as goal
use Rattle.vx_packed.proofs.reading.offsets_of.Goals.{After-least_of, After-greatest_of-high, then-base-most-via-then-base-most, then-base-most-via-else-base-most+then-high-most}

-- the least and the greatest of the offsets that the bytes state
low : (c : After-least_of) → c.least_of.result ≡ least (offsets_in c.args.bytes.now)
low c = c.least_of.ensures ∙ ap least (c.unpack.ensures ∙ ap (λ l. fields l (digits_in c.args.bytes.now)) (take_rest c.args.bytes.now 9))

high : (c : After-greatest_of-high) → c.greatest_of-high.result ≡ greatest (offsets_in c.args.bytes.now)
high c = c.greatest_of-high.ensures ∙ ap greatest (c.unpack.ensures ∙ ap (λ l. fields l (digits_in c.args.bytes.now)) (take_rest c.args.bytes.now 9))

pub returns-then-bytes-lt-HEAD-clause-fault : goal.returns-then-bytes-lt-HEAD-clause-fault
unfolding chunk_fault
returns-then-bytes-lt-HEAD-clause-fault c = grind arith

pub returns-then-digits-width-clause-fault : goal.returns-then-digits-width-clause-fault
unfolding chunk_fault
returns-then-digits-width-clause-fault c = grind arith

pub returns-then-bytes-len-clause-fault : goal.returns-then-bytes-len-clause-fault
unfolding chunk_fault
returns-then-bytes-len-clause-fault c = grind arith

pub returns-then-bytes-len-2-clause-fault : goal.returns-then-bytes-len-2-clause-fault
unfolding chunk_fault
returns-then-bytes-len-2-clause-fault c = grind arith

pub returns-then-least_of-ne0-clause-fault : goal.returns-then-least_of-ne0-clause-fault
unfolding chunk_fault
returns-then-least_of-ne0-clause-fault c =
    let bytes = c.args.bytes.now in
    let at = goal.at.returns-then-least_of-ne0-clause-fault c in
    base_fault c.args.width (length bytes) (digits_in bytes) (base_in bytes) (least (offsets_in bytes)) (greatest (offsets_in bytes)) (omega arith) (omega arith) (λ e. c.if-least_of-ne0.true (low at.After-least_of ∙ e))

pub returns-then-digits_of-digits-clause-fault : goal.returns-then-digits_of-digits-clause-fault
unfolding chunk_fault
returns-then-digits_of-digits-clause-fault c =
    let bytes = c.args.bytes.now in
    let at = goal.at.returns-then-digits_of-digits-clause-fault c in
    slack_fault c.args.width (length bytes) (digits_in bytes) (base_in bytes) (least (offsets_in bytes)) (greatest (offsets_in bytes)) (omega arith) (omega arith) (sym (low at.After-least_of) ∙ c.if-least_of-ne0.false)
    (λ e. c.if-digits_of-digits.true (c.digits_of.ensures ∙ ap digits (high at.After-greatest_of-high) ∙ e))

pub returns-then-base-most-clause-fault : goal.returns-then-base-most-clause-fault
unfolding chunk_fault
returns-then-base-most-clause-fault c =
    let bytes = c.args.bytes.now in
    let at = goal.at.returns-then-base-most-clause-fault c in
    let most = most_is c.args.width (small_width c.args.width c.requires).most in
    big_fault c.args.width (length bytes) (digits_in bytes) (base_in bytes) (least (offsets_in bytes)) (greatest (offsets_in bytes)) (omega arith) (omega arith) (sym (low at.After-least_of) ∙ c.if-least_of-ne0.false)
    (sym (ap digits (high at.After-greatest_of-high)) ∙ sym c.digits_of.ensures ∙ c.if-digits_of-digits.false)
    (elim c.then-base-most.branch [
      | then-base-most-via-then-base-most w ↦ omega (arith, most, w.if-base-most.true, c.base_of-base.ensures)
      | then-base-most-via-else-base-most+then-high-most w ↦ omega (arith, most, w.if-high-most.true, w.if-base-most.false, c.base_of-base.ensures, high at.After-greatest_of-high)
    ])

pub returns-clause-fault : goal.returns-clause-fault
unfolding chunk_fault
returns-clause-fault c =
    let bytes = c.args.bytes.now in
    let at = goal.at.returns-clause-fault c in
    let most = most_is c.args.width (small_width c.args.width c.requires).most in
    keeps-no_fault c.args.width (length bytes) (digits_in bytes) (base_in bytes) (least (offsets_in bytes)) (greatest (offsets_in bytes)) (record {
      count_is = omega arith;
      narrow = omega arith;
      has_base = sym (low at.After-least_of) ∙ c.if-least_of-ne0.false;
      tight = sym (ap digits (high at.After-greatest_of-high)) ∙ sym c.digits_of.ensures ∙ c.if-digits_of-digits.false;
      fits = omega (arith, most, c.if-high-most.false, c.if-base-most.false, c.base_of-base.ensures, high at.After-greatest_of-high, pow_pos (8 * c.args.width));
    })
