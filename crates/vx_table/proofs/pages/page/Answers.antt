-- The rows at the page's cut of the composed picks.
use Rattle.std.proofs.Common.{◌∙◌, ◌<◌, ℕ, length, map, ap, sym, subst}
use Rattle.std.specs.List.{All}
use Rattle.vx_types.specs.TypeTree.{also_nullable}
use Rattle.vx_pieces.specs.Indices.{index_nullability, index_picks, index_value}
use Rattle.vx_steps.specs.Step.{step_value}
use Rattle.vx_steps.specs.Walk.{walk}
use Rattle.vx_table.specs.Table.{TableValue}
use Rattle.vx_table.specs.Taken.{IsTaken}
use Rattle.vx_table.specs.Page.{IsCutOf}
use Rattle.vx_table.proofs.Lists.{all_below}
use Rattle.vx_table.proofs.Tables.{is_page}
use Rattle.vx_table.proofs.pages.page.Goals as goal

pub project-requires : goal.project-requires
project-requires c =
    let numbers = c.args.projection.now in
    let P : ℕ → Type 0 = λ n. All (λ i. i < n) numbers in
    subst P (c.len.ensures ∙ ap length c.columns.ensures.value) (all_below c.len.result numbers (sym c.first_missing.ensures ∙ c.in_default.is))

pub returns-clause-rows : goal.returns-clause-rows
returns-clause-rows c =
    let t = c.args.table.now in let steps = map step_value c.args.steps.now in let v = index_value c.in_ok-indices.indices in
    let P : ℕ → Type 0 = λ n. IsCutOf (walk n steps) c.args.page c.args.page_len (index_picks v) in
    let Q : TableValue → Type 0 = λ s. IsTaken s (λ u. also_nullable u (index_nullability v)) (index_picks v) c.in_ok-rows.rows in
    is_page t c.in_ok-rows.rows c.args.projection.now steps c.args.page c.args.page_len (walk t.len steps) (index_nullability v) (index_picks v) c.in_ok-indices.ensures.nullability
    (subst P c.len-2.ensures c.in_ok-indices.ensures.picks) (subst Q c.in_ok-project.ensures c.in_ok-rows.ensures)
