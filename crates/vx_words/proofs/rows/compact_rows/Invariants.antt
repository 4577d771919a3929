use Rattle.vx_words.proofs.PutRows.{IsPutTo}
use Rattle.vx_words.proofs.rows.compact_rows.Given as goal

abbrev pub invariant-loop-w : goal.invariant-loop-w
invariant-loop-w g l = IsPutTo l.src l.initial.dst l.dst l.words l.kept l.count l.w
