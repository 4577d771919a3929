-- What the status of a reply says of the outcome.
use Rattle.std.proofs.Common.{◌≡◌, ℕ, List, IfSome, refl, sym, ap, arith}
use Rattle.std.specs.Prelude.{◌⊎◌, ◌≢◌, IsSomeAnd}
use Rattle.std.proofs.Common.{inl, inr}
use Rattle.vx_rows.specs.Program.{Outcome, Malformed, IsDone, IsBroken, IsPrinted, status_of, traced_by}
use Rattle.vx_rows.specs.Reply.{Replies, text_of_reply, status_of_reply, traced_by_reply}
use Rattle.vx_rows.specs.declared.reply.Reply.{Reply}
use Rattle.vx_rows.specs.declared.reply.Reply.TheVariants as replies
use Rattle.vx_rows.specs.declared.trace.Trace.{Trace}

pub is_done : (r : Reply) (o : Outcome) (Q : List ℕ → Type 0) → Replies r o → status_of_reply r ≡ 0 → IfSome (text_of_reply r) Q → IsDone o Q
is_done (replies.Done text asked) o Q h s q = rw h q
is_done (replies.Broken step cause) o Q h s q = absurd (omega arith)
is_done replies.Malformed o Q h s q = absurd (omega arith)
is_done replies.NoMemory o Q h s q = absurd (omega arith)

pub is_broken : (r : Reply) (o : Outcome) (Q : List ℕ → Type 0) → Replies r o → status_of_reply r ≡ 1 → IfSome (text_of_reply r) Q → IsBroken o Q
is_broken (replies.Done text asked) o Q h s q = absurd (omega arith)
is_broken (replies.Broken step cause) o Q h s q = rw h q
is_broken replies.Malformed o Q h s q = absurd (omega arith)
is_broken replies.NoMemory o Q h s q = absurd (omega arith)

pub is_printed : (r : Reply) (o : Outcome) (Q : List ℕ → Type 0) → Replies r o → IsSomeAnd (text_of_reply r) Q → IsPrinted o Q
is_printed (replies.Done text asked) o Q h q = rw h q
is_printed (replies.Broken step cause) o Q h q = rw h q
is_printed replies.Malformed o Q h q = absurd q
is_printed replies.NoMemory o Q h q = absurd q

pub is_malformed : (r : Reply) (o : Outcome) → Replies r o → status_of_reply r ≡ 2 → o ≡ Malformed
is_malformed (replies.Done text asked) o h s = absurd (omega arith)
is_malformed (replies.Broken step cause) o h s = absurd (omega arith)
is_malformed replies.Malformed o h s = h
is_malformed replies.NoMemory o h s = absurd (omega arith)

-- the status is that of the outcome, or memory runs out
pub status_or_memory : (r : Reply) (o : Outcome) → Replies r o → (status_of_reply r ≡ 6) ⊎ (status_of_reply r ≡ status_of o)
status_or_memory (replies.Done text asked) o h = inr (sym (ap status_of h))
status_or_memory (replies.Broken step cause) o h = inr (sym (ap status_of h))
status_or_memory replies.Malformed o h = inr (sym (ap status_of h))
status_or_memory replies.NoMemory o h = inl refl

-- ---- the trace

-- where memory isn't wanting, the trace is that of the outcome
pub traced_alike : (r : Reply) (o : Outcome) (t : Trace) → Replies r o → status_of_reply r ≢ 6 → traced_by_reply r t ≡ traced_by o t
traced_alike (replies.Done text asked) o t h s = sym (ap (λ x. traced_by x t) h)
traced_alike (replies.Broken step cause) o t h s = sym (ap (λ x. traced_by x t) h)
traced_alike replies.Malformed o t h s = sym (ap (λ x. traced_by x t) h)
traced_alike replies.NoMemory o t h s = absurd (s refl)

-- what is written isn't `NoMemory`
pub written_status : (r : Reply) (Q : List ℕ → Type 0) → IsSomeAnd (text_of_reply r) Q → status_of_reply r ≢ 6
written_status (replies.Done text asked) Q q = omega arith
written_status (replies.Broken step cause) Q q = omega arith
written_status replies.Malformed Q q = absurd q
written_status replies.NoMemory Q q = absurd q

-- a trace is left as it was where no text is done
pub untraced : (r : Reply) (t : Trace) → status_of_reply r ≢ 0 → traced_by_reply r t ≡ t
untraced (replies.Done text asked) t s = absurd (s refl)
untraced (replies.Broken step cause) t s = refl
untraced replies.Malformed t s = refl
untraced replies.NoMemory t s = refl
