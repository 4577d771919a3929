use Rattle.std.proofs.Common.{◌≡◌, ◌++◌, take}
use Rattle.std.specs.Prelude.{flat_map}
use Rattle.vx_print.specs.Calls.{call_text}
use Rattle.vx_print.proofs.calls.push_calls.Given as goal

-- the first calls stand behind what was there
abbrev pub invariant-loop-call : goal.invariant-loop-call
invariant-loop-call l =
    l.text.items ≡ l.initial.text.items ++ flat_map call_text (take l.call-index l.calls)
