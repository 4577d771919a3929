-- The constructor's answer.
use Rattle.vx_model.specs.VarBinView.{ViewParts, views_fault}
use Rattle.vx_column_json.proofs.Refusals.{gives_made}
use Rattle.vx_column_json.proofs.varbinview.views_made.Goals as goal

pub returns : goal.returns
returns c =
    let is = rw c.in_ok-shared.ensures.ok at c.try_new.ensures in
    gives_made views_fault (λ (p : ViewParts). p) _ c.made.result (rw is at c.made.ensures)
