-- The job as it was, or one of places.
use Rattle.std.proofs.Common.{◌≡◌, ◌++◌, ◌∷◌, [], Some, false, true, length, ap, sym, ◌∙◌, refl, arith, rules}
use Rattle.vx_arrow_image.specs.Image.{part_of}
use Rattle.vx_arrow_columns.specs.declared.places.Places.{Places}
use Rattle.vx_arrow_columns.specs.declared.places.Places.TheVariants.{Each}
use Rattle.vx_arrow_columns.specs.declared.plan.Job.{Job}
use Rattle.vx_arrow_columns.specs.Measured.{list_places, list_valid}
use Rattle.vx_arrow_columns.specs.Planned.{are_runs, runs_in}
use Rattle.vx_arrow_columns.proofs.Plans.{places_settled, runs_are, still_settled}
use Rattle.vx_runs.specs.Runs.{run_places}
use Rattle.vx_arrow_columns.proofs.plan.settled.Goals as goal

pub returns-in_default-index-clause-settled : goal.returns-in_default-index-clause-settled
returns-in_default-index-clause-settled c =
    let ls = c.args.lists.now.items in
    let x = c.index.result.now in
    let none : runs_in ls c.args.job.list ≡ false = runs_are ls c.args.job c.in-Some.k x x false c.in-Some.is (c.requires c.in-Some.k c.in-Some.is) (sym c.index.ensures) (ap are_runs c.in_default-index.is) in
    still_settled (part_of c.args.node.now) c.args.job ls c.requires (λ runs. absurd (let f : true ≡ false = sym runs ∙ none in cc))

pub returns-clause-settled : goal.returns-clause-settled
returns-clause-settled c =
    let ls = c.args.lists.now.items in
    let job = c.args.job in
    let x = c.index.result.now in
    let y : Places = Each (record { places = c.in-Some-places_of.places; valid = c.new.result }) in
    let list : c.len-last.result ≡ length ls = omega arith in
    let grown : c.push.new.self.items ≡ ls ++ y ∷ [] = search rules in
    let next : Job = record { list = Some c.len-last.result; add = job.add; end = job.end; kept = job.kept } in
    places_settled (part_of c.args.node.now) job next ls c.push.new.self.items c.in-Some.k x y x c.in-Some.is (c.requires c.in-Some.k c.in-Some.is) (sym c.index.ensures)
    (c.in-Some-places_of.ensures ∙ ap run_places c.deref.ensures.value ∙ sym (ap list_places c.in-Runs.is)) (c.new.ensures.items ∙ sym (ap list_valid c.in-Runs.is)) refl
    grown (ap Some list) refl refl refl
