use Rattle.std.proofs.Common.{append_assoc, arith}
use Rattle.std.proofs.lemmas.Grind.{common_steps}
use Rattle.vx_quote.proofs.Quotes.{plain_bytes}
use Rattle.vx_quote.proofs.quoted.push_few.Goals.{then-are_listed+in_ok-extend_from_slice, else-are_listed+else-loop-byte-test}
use Rattle.vx_quote.proofs.quoted.push_few.Goals as goal

pub returns : goal.returns
returns c =
    let b = c.args.bytes.now in
    elim c.if-are_listed.branch [
      | then-are_listed+in_ok-extend_from_slice w ↦ λ _. grind (arith, plain_bytes b, append_assoc)
      | else-are_listed+else-loop-byte-test w ↦ λ _. grind (arith, append_assoc, common_steps)
    ]
