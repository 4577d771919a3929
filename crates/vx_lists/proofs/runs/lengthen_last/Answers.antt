use Rattle.std.proofs.Common.{◌-◌, refl, arith}
use Rattle.std.proofs.lemmas.List.{get_or_read}
use Rattle.vx_lists.proofs.WordRuns.{last_lengthened, rest_within, run_end}
use Rattle.vx_lists.proofs.runs.lengthen_last.Goals as goal

pub overflow_add-base : goal.overflow_add-base
overflow_add-base c = omega (arith, run_end c.args.len c.args.base c.args.word _ _ _ c.lowest_run-run.ensures c.requires.within)

pub overflow_add-last : goal.overflow_add-last
overflow_add-last c = omega (arith, run_end c.args.len c.args.base c.args.word _ _ _ c.lowest_run-run.ensures c.requires.within)

pub returns-clause-places : goal.returns-clause-places
returns-clause-places c = last_lengthened c.args.runs.now.items _ c.index-last.result.now (c.len-count.result - 1) c.args.base c.args.word _ _ _ c.lowest_run-run.ensures (omega arith) c.requires.none_empty (get_or_read c.args.runs.now.items (c.len-count.result - 1) c.index-last.result.now (omega arith) c.index-last.ensures (0, 0)) (omega arith) refl

pub returns-clause-within : goal.returns-clause-within
returns-clause-within c = rest_within c.args.len c.args.base c.args.word _ _ _ c.lowest_run-run.ensures c.requires.within
