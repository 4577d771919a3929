use Rattle.std.proofs.Common.{◌≡◌, ◌%◌, map, take}
use Rattle.std.specs.Prelude.{◌==◌, not}
use Rattle.vx_rows.proofs.made.presence.Given as goal

-- a bit for each draw so far
abbrev pub invariant-loop-draw : goal.invariant-loop-draw
invariant-loop-draw l = l.bits ≡ map (λ d. not (d % 10 == 0)) (take l.draw-index l.draws)
