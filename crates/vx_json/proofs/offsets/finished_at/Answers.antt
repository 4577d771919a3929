-- What is behind the first bits is all the rest.
use Rattle.std.proofs.Common.{ap, drop, ◌∙◌}
use Rattle.std.proofs.lemmas.List.{take_rest}
use Rattle.vx_json.proofs.offsets.finished_at.Goals as goal

pub returns-clause-bits : goal.returns-clause-bits
returns-clause-bits c =
    let cut = rw c.len.ensures at c.slice.ensures.bits in
    cut ∙ take_rest c.in_ok-all.all.bits c.args.offset ∙ ap (λ b. drop c.args.offset b.bits) c.in_ok-all.ensures
