-- The number is in the piece at hand, or behind it.
use Rattle.std.proofs.Common.{rules, ◌≡◌, ◌+◌, drop, true, false, sym, ap, ◌∙◌}
use Rattle.std.specs.Prelude.{is_some}
use Rattle.std.specs.List.{flat_map}
use Rattle.std.specs.Option.{option_or}
use Rattle.vx_pieces.specs.Pieces.{first_from, piece_numbers, pieces_of}
use Rattle.vx_pieces.proofs.PieceLists.{first_rest, found_here, found_behind}
use Rattle.vx_pieces.proofs.sequence.PiecewiseSequence.first_at_least.Goals as goal

pub returns-then-is_some : goal.returns-then-is_some
returns-then-is_some c =
    let ps = pieces_of c.args.self.now in
    let rest = first_from c.args.n (flat_map piece_numbers (drop (c.loop-i.i + 1) ps)) in
    let some : is_some c.first_at_least-found.result ≡ true = search rules in
    sym (c.loop-i.invariant ∙ first_rest ps c.loop-i.i c.piece.result (search rules) c.piece.ensures c.args.n
    ∙ ap (λ x. option_or x rest) (sym c.first_at_least-found.ensures) ∙ sym (found_here c.first_at_least-found.result rest some))

pub loop-i-preserved : goal.loop-i-preserved
loop-i-preserved c =
    let ps = pieces_of c.args.self.now in
    let rest = first_from c.args.n (flat_map piece_numbers (drop (c.loop-i.i + 1) ps)) in
    let none : is_some c.first_at_least-found.result ≡ false = search rules in
    c.loop-i.invariant ∙ first_rest ps c.loop-i.i c.piece.result (search rules) c.piece.ensures c.args.n
    ∙ ap (λ x. option_or x rest) (sym c.first_at_least-found.ensures) ∙ found_behind c.first_at_least-found.result rest none
