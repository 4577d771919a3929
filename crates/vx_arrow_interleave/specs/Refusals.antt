-- Why rows aren't joined.
use Rattle.std.specs.Prelude.{ℕ, ◌==◌, ⊤, if◌then◌else◌}
use Rattle.vx_arrow_image.specs.declared.refusal.Lack.TheVariants.{Length}
use Rattle.vx_arrow_interleave.specs.declared.faults.Fault.{Fault}
use Rattle.vx_arrow_interleave.specs.declared.faults.Fault.TheVariants as faults
use Rattle.vx_arrow_interleave.specs.declared.faults.Refused.{Refused}
use Rattle.vx_arrow_interleave.specs.declared.faults.Refused.TheVariants as why

-- spans past the rows: the caller's, or those that a parent asks its child for
abbrev pub beyond_at : ℕ → Refused
beyond_at node = if node == 0 then why.Beyond else why.NoMeaning node Length

-- a fault of the nodes at one place
abbrev pub refused_at : Fault → ℕ → Refused
refused_at (faults.Lacks lack) node = why.NoMeaning node lack
refused_at faults.Unlike node = why.Unlike node
refused_at faults.Beyond node = beyond_at node
refused_at faults.Overflow node = why.Overflow node
refused_at faults.NoMemory node = why.NoMemory

-- no room is too small
abbrev pub IsOfPlan : Refused → Type 0
IsOfPlan (why.Room node) = ⊥
IsOfPlan r = ⊤
