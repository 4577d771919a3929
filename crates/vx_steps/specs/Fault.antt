-- The line of a broken step.
use Rattle.std.specs.Prelude.{ℕ, List, ◌++◌, codes, decimal}
use Rattle.vx_steps.specs.Messages.{cause_text}
use Rattle.vx_steps.specs.declared.cause.Cause.{Cause}

-- the step, counted from 0, and its cause
abbrev pub fault_text : ℕ → Cause → List ℕ
fault_text step cause =
    codes "step " ++ decimal step ++ codes ": " ++ cause_text cause ++ codes "\n"
