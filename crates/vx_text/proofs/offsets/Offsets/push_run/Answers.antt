-- No end is past the last, which fits the type.
use Rattle.std.proofs.Common.{◌≡◌, ◌+◌, ◌-◌, ◌≤◌, length, get_or, sym, ap, subst}
use Rattle.std.specs.List.{All}
use Rattle.vx_types.specs.declared.ptype.PType.{PType}
use Rattle.vx_offsets.specs.Offsets.{offset_positions, record_numbers}
use Rattle.vx_text.specs.OffsetList.{OffsetList, greatest_offset, numbers_of, run_ends, type_by}
use Rattle.vx_text.proofs.RunEnds.{ends_within, fit_after}
use Rattle.vx_text.proofs.offsets.Offsets.push_run.Goals as goal

pub invariant_of-self : goal.invariant_of-self
invariant_of-self g c =
    let run = c.args.run in
    let p = run.ptype in let xs = run.records.now in let os = offset_positions (record_numbers p xs) in
    let s = run.rows.0 in let e = run.rows.1 in
    let old = c.self.inside.records in let new = c.push_run.new.self in let t = type_by c.self.inside.signed old in
    let same : t ≡ c.args.self.now.ptype = ap (λ (o : OffsetList). o.ptype) c.self.view_is in
    let fits = subst (λ (u : PType). c.args.base + (get_or os e 0 - get_or os s 0) ≤ greatest_offset u) (sym same) c.requires.fits in
    subst (λ (u : PType). All (λ n. n ≤ greatest_offset u) (numbers_of new)) (sym c.push_run.ensures.kept)
    (fit_after c.push_run.result (numbers_of old) (run_ends os c.args.base s e) (numbers_of new) (greatest_offset t) c.self.invariant
    (ends_within p xs (length run.bytes.now) c.args.base s e (greatest_offset t) run.offsets run.ordered run.within fits)
    c.push_run.ensures.numbers c.push_run.ensures.err)
