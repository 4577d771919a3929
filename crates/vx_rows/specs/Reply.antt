-- What a `Reply` stands for.
use Rattle.std.specs.Prelude.{◌≡◌, ℕ, List, Option, None, Some}
use Rattle.vx_steps.specs.Answer.{Answer, answer_fault}
use Rattle.vx_steps.specs.Fault.{fault_text}
use Rattle.vx_rows.specs.Program.{Outcome, Malformed, Broken, Done, with_asked}
use Rattle.vx_rows.specs.declared.reply.Reply.{Reply}
use Rattle.vx_rows.specs.declared.reply.Reply.TheVariants as replies
use Rattle.vx_rows.specs.declared.trace.Trace.{Trace}

-- a reply is the outcome; memory may be wanting instead
abbrev pub Replies : Reply → Outcome → Type 0
Replies (replies.Done text asked) o = o ≡ Done text.items asked
Replies (replies.Broken step cause) o = o ≡ Broken (fault_text step cause)
Replies replies.Malformed o = o ≡ Malformed
Replies replies.NoMemory o = Unit {0}

-- memory isn't wanting where a step is broken
abbrev pub IsHonest : Reply → Answer → Type 0
IsHonest replies.NoMemory (answer_fault k cause) = ⊥
IsHonest r a = Unit {0}

-- what is written
abbrev pub text_of_reply : Reply → Option (List ℕ)
text_of_reply (replies.Done text asked) = Some text.items
text_of_reply (replies.Broken step cause) = Some (fault_text step cause)
text_of_reply r = None

-- the trace that is left where this one was found
abbrev pub traced_by_reply : Reply → Trace → Trace
traced_by_reply (replies.Done text asked) t = with_asked asked t
traced_by_reply r t = t

-- the program's status, where no sink fails
abbrev pub status_of_reply : Reply → ℕ
status_of_reply (replies.Done text asked) = 0
status_of_reply (replies.Broken step cause) = 1
status_of_reply replies.Malformed = 2
status_of_reply replies.NoMemory = 6
