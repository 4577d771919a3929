-- One run more, and what the runs are of.
use Rattle.std.proofs.Common.{rules, ◌≡◌, ◌+◌, ◌≤◌, ◌++◌, [], ◌∷◌, sym, ap, ◌∙◌, subst, arith}
use Rattle.std.specs.Prelude.{All}
use Rattle.std.proofs.lemmas.List.{take_all}
use Rattle.vx_take.specs.Picks.{run_places}
use Rattle.vx_pieces.specs.Pieces.{pieces_of}
use Rattle.vx_pieces.specs.Runs.{runs_of}
use Rattle.vx_pieces.proofs.RunLists.{runs_more, run_places-runs_of, runs_within}
use Rattle.vx_pieces.proofs.sequence.PiecewiseSequence.runs.Goals as goal

pub loop-i-preserved : goal.loop-i-preserved
loop-i-preserved c =
    let ps = pieces_of c.args.self.now in let q = c.piece.result in
    c.in_ok-push_run.ensures ∙ ap (λ l. l ++ runs_of (q ∷ [])) c.loop-i.invariant ∙ sym (runs_more ps c.loop-i.i q (search rules) c.piece.ensures)

pub returns-clause-numbers : goal.returns-clause-numbers
returns-clause-numbers c =
    let ps = pieces_of c.args.self.now in
    let is : c.from_vec.result ≡ runs_of ps = c.from_vec.ensures ∙ c.loop-i.invariant ∙ ap runs_of (take_all c.loop-i.i ps (omega (arith, c.count-i-end.ensures))) in
    ap run_places is ∙ run_places-runs_of ps c.requires

pub returns-clause-within : goal.returns-clause-within
returns-clause-within c = λ n none.
    let ps = pieces_of c.args.self.now in
    let is : c.from_vec.result ≡ runs_of ps = c.from_vec.ensures ∙ c.loop-i.invariant ∙ ap runs_of (take_all c.loop-i.i ps (omega (arith, c.count-i-end.ensures))) in
    subst (λ runs. All (λ run. run.0 + run.1 ≤ n) runs) (sym is) (runs_within n ps c.requires none)
