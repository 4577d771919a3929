-- One number more is put out.
use Rattle.std.proofs.Common.{◌<◌, ◌++◌, [], ◌∷◌, map, Some, sym, ap, ◌∙◌, subst, append_assoc, ℕ}
use Rattle.std.specs.List.{range_with_len}
use Rattle.vx_take.specs.Picks.{BoundedPicks}
use Rattle.vx_pieces.specs.Pieces.{piece_number}
use Rattle.vx_pieces.proofs.PieceNumbers.{front_number, number_below}
use Rattle.vx_pieces.proofs.expanding.push_picks.Goals as goal

pub push-requires : goal.push-requires
push-requires c =
    let bound = ap (λ (p : BoundedPicks). p.bound) c.loop-j.invariant in
    subst (λ x. x < c.loop-j.picks.bound) (sym c.index.ensures)
    (number_below c.loop-j.picks.bound c.args.piece c.loop-j.j (rw bound c.requires.within) c.loop-j-test.true)

pub loop-j-preserved : goal.loop-j-preserved
loop-j-preserved c =
    let front = map (λ (x : ℕ). Some x) (map (piece_number c.args.piece) (range_with_len 0 c.loop-j.j)) in
    let old = c.args.picks.now in
    c.in_ok-push.ensures.ok ∙ ap (λ (p : BoundedPicks). record p { picks = p.picks ++ Some c.index.result ∷ [] }) c.loop-j.invariant
    ∙ ap (λ l. record old { picks = l })
    (append_assoc old.picks front (Some c.index.result ∷ [])
    ∙ ap (λ l. old.picks ++ l) (ap (λ x. front ++ Some x ∷ []) c.index.ensures ∙ sym (front_number (λ x. Some x) c.args.piece c.loop-j.j)))
