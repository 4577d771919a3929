use Rattle.std.proofs.Common.{append_assoc, arith}
use Rattle.vx_quote.proofs.Quotes.{plain_bytes}
use Rattle.vx_quote.proofs.quoted.push_quoted.Goals.{then-are_plain+in_ok-extend_from_slice, else-are_plain+in_ok-push_runs}
use Rattle.vx_quote.proofs.quoted.push_quoted.Goals as goal

pub returns : goal.returns
returns c =
    let b = c.args.bytes.now in
    elim c.if-are_plain.branch [
      | then-are_plain+in_ok-extend_from_slice w ↦ λ _. grind (arith, plain_bytes b, append_assoc)
      | else-are_plain+in_ok-push_runs w ↦ λ _. grind (arith, append_assoc)
    ]
