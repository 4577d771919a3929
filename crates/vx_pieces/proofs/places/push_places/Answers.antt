-- One position more of the run.
use Rattle.std.proofs.Common.{◌+◌, ◌++◌, [], ◌∷◌, sym, ap, ◌∙◌}
use Rattle.std.proofs.lemmas.List.{append_assoc}
use Rattle.vx_pieces.proofs.places.push_places.Goals as goal
use Rattle.vx_lemmas.proofs.Lists.{range_more}

pub loop-k-preserved : goal.loop-k-preserved
loop-k-preserved c =
    c.in_ok-push.ensures.items
    ∙ ap (λ l. l ++ (c.args.start + c.loop-k.k) ∷ []) c.loop-k.invariant
    ∙ append_assoc c.args.places.now.items _ _
    ∙ ap (λ l. c.args.places.now.items ++ l) (sym (range_more c.args.start c.loop-k.k))
