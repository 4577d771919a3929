-- A page has no more rows than it is to have.
use Rattle.std.proofs.Common.{ℕ, ◌≤◌, ◌*◌, List, drop, map, arith}
use Rattle.std.proofs.lemmas.List.{length-take}
use Rattle.vortex_select.specs.Step.{StepValue, step_value}
use Rattle.vortex_select.specs.Walk.{Walk, walk, walk_fault, walk_picks}
use Rattle.vortex_select.specs.Table.{TableValue}
use Rattle.vortex_select.specs.Page.{IsPage}
use Rattle.vortex_select.proofs.Results.{if_ok}
use Rattle.calling.proofs.tables.four_rows.Goals as goal

few : (t p : TableValue) (projection : List ℕ) (steps : List StepValue) (page len : ℕ) (w : Walk) → IsPage t projection steps page len w p → p.len ≤ len
few t p projection steps page len (walk_fault k cause) h = absurd h
few t p projection steps page len (walk_picks picks) h = omega (arith, h.len, length-take len (drop (page * len) picks))

pub returns : goal.returns
returns c =
    let t = c.args.table.now in let steps = map step_value c.args.steps.now in
    if_ok c.page.result c.page.ensures.rows (λ p h. few t p c.args.projection.now steps c.args.number 4 (walk t.len steps) h)
