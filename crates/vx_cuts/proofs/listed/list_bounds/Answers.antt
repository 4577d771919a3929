-- The bounds are written.
use Rattle.std.proofs.Common.{length, slice_index, refl, sym, ap, ◌∙◌, arith}
use Rattle.std.specs.List.{sum}
use Rattle.std.proofs.lemmas.List.{take_all}
use Rattle.vx_cuts.proofs.BoundLists.{bound_sum}
use Rattle.vx_cuts.proofs.listed.list_bounds.Goals as goal

pub returns : goal.returns
returns c =
    let ns = c.args.lengths.now in record {
      fault = sym c.if-fault-ne-DONE.false ∙ c.fault_of-fault.ensures;
      bounds = λ _. c.put_bounds.ensures;
      rows = λ _. ap (λ l. slice_index l (length ns)) c.put_bounds.ensures ∙ bound_sum ns (length ns) (omega arith) ∙ ap sum (take_all (length ns) ns (omega arith));
      untold = λ h. absurd (h refl);
      refused = λ h. absurd (h refl);
    }
