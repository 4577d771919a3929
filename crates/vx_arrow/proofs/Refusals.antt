-- Refusals that are handed on.
use Rattle.std.proofs.Common.{ℕ, List}
use Rattle.vx_arrow.specs.Answer.{IsRefusal, IsUnread}
use Rattle.vx_arrow.specs.Image.{StepParts}
use Rattle.vx_arrow.specs.declared.need.Need.{Need}
use Rattle.vx_arrow.specs.declared.refusal.Refusal.{Refusal}
use Rattle.vx_arrow.specs.declared.refusal.Refusal.TheVariants as refusals

-- what is refused before any rule is tested is refused whatever the room
pub unread : (n : ℕ) (steps : List StepParts) (Short : Need → Type 0) (r : Refusal) → IsUnread steps r → IsRefusal n steps Short r
unread n steps Short (refusals.Lacking lacking) h = h
unread n steps Short (refusals.Broken k cause) h = absurd h
unread n steps Short (refusals.Room need) h = absurd h
unread n steps Short refusals.NoMemory h = h
