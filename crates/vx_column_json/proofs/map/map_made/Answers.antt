-- The constructor's answer, where there are list views.
use Rattle.std.proofs.Common.{Some, sym, ap, ◌∙◌}
use Rattle.vx_model.specs.ListView.{listview_column}
use Rattle.vx_model.specs.Map.{map_column}
use Rattle.vx_json.proofs.Made.{made, refused}
use Rattle.vx_column_json.proofs.Maps.{map_made-views, map_made-none}
use Rattle.vx_column_json.proofs.map.map_made.Goals as goal

pub returns-in_default : goal.returns-in_default
returns-in_default c = map_made-none c.args.entries.now (sym c.in_default.ensures.exactly)

pub returns-in-Ok : goal.returns-in-Ok
returns-in-Ok c =
    let same = ap listview_column c.share.ensures ∙ c.in-Some.ensures.value in
    map_made-views c.share.result c.args.entries.now same ∙ made map_column _ _ _ (sym c.try_new.ensures ∙ c.in-Ok.is) ∙ ap Some (sym c.into_array.ensures)

pub returns-in-Err : goal.returns-in-Err
returns-in-Err c =
    let same = ap listview_column c.share.ensures ∙ c.in-Some.ensures.value in
    map_made-views c.share.result c.args.entries.now same ∙ refused map_column _ _ _ (sym c.try_new.ensures ∙ c.in-Err.is)
