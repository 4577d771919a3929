use Rattle.std.proofs.Common.{◌≡◌, ◌≤◌, ◌-◌, ◌++◌, take, drop}
use Rattle.std.specs.Prelude.{flat_map}
use Rattle.vx_quote.specs.Quoted.{quoted_byte}
use Rattle.vx_quote.proofs.quoted.push_runs.Given as goal

-- with the run that began at `start`, the first i bytes stand behind what was there
abbrev pub invariant-loop-i : goal.invariant-loop-i
invariant-loop-i l = record {
  within : l.start ≤ l.i;
  put : l.text.items ++ take (l.i - l.start) (drop l.start l.bytes) ≡ l.initial.text.items ++ flat_map quoted_byte (take l.i l.bytes);
}
