-- What was delivered of the line that a number makes.
use Rattle.std.proofs.Common.{◌≡◌, ℕ, List, take, sym, ◌∙◌, inl, inr, arith}
use Rattle.std.specs.Prelude.{◌≢◌}
use Rattle.vx_io.specs.Bytes.{with_back}
use Rattle.vx_rows.specs.Program.{made}
use Rattle.vx_rows.specs.Reply.{status_of_reply, traced_by_reply}
use Rattle.vx_rows.proofs.Delivered.{is_done, is_printed, status_or_memory, traced_alike, written_status}
use Rattle.vx_rows.proofs.TraceParts.{all_left}
use Rattle.vx_rows.proofs.program.run_made.Goals as goal

pub returns-clause-done : goal.returns-clause-done
returns-clause-done g c = λ zero.
    let d = c.deliver_reply.ensures in let held = g.K.Sink.held in
    let Q = λ (text : List ℕ). held c.deliver_reply.new.sink ≡ with_back (held c.args.sink.now) text in
    let other : c.deliver_reply.result ≢ 5 = λ five. absurd (omega arith) in
    is_done c.reply_to_made.result (made c.args.seed) Q c.reply_to_made.ensures.reply (sym (d.status other) ∙ zero) (d.written other)

pub returns-clause-part : goal.returns-clause-part
returns-clause-part g c = λ five.
    let held = g.K.Sink.held in
    let Q = λ (text : List ℕ). (n : ℕ) × (held c.deliver_reply.new.sink ≡ with_back (held c.args.sink.now) (take n text)) in
    is_printed c.reply_to_made.result (made c.args.seed) Q c.reply_to_made.ensures.reply (c.deliver_reply.ensures.part five)

pub returns-clause-complete : goal.returns-clause-complete
returns-clause-complete g c = λ sound.
    let other : c.deliver_reply.result ≢ 5 = λ five. sound (c.deliver_reply.ensures.fault five) in
    let is = c.deliver_reply.ensures.status other in
    elim (status_or_memory c.reply_to_made.result (made c.args.seed) c.reply_to_made.ensures.reply) [
      | inl six ↦ inl (is ∙ six)
      | inr same ↦ inr (is ∙ same)
    ]

pub returns-clause-traced : goal.returns-clause-traced
returns-clause-traced g c = λ printed.
    let d = c.deliver_reply.ensures in let held = g.K.Sink.held in
    let r = c.reply_to_made.result in let t = c.args.trace.now in
    let Q = λ (text : List ℕ). (n : ℕ) × (held c.deliver_reply.new.sink ≡ with_back (held c.args.sink.now) (take n text)) in
    let there : status_of_reply r ≢ 6 = elim printed [
      | inl zero ↦ (let other : c.deliver_reply.result ≢ 5 = λ five. absurd (omega arith) in
          let is : c.deliver_reply.result ≡ status_of_reply r = d.status other in omega arith)
      | inr five ↦ written_status r Q (d.part five)
    ] in
    ◌∙◌ {b = traced_by_reply r t} d.traced (traced_alike r (made c.args.seed) t c.reply_to_made.ensures.reply there)

pub returns-clause-leaves : goal.returns-clause-leaves
returns-clause-leaves g c =
    let r = c.reply_to_made.result in let t = c.args.trace.now in
    ◌∙◌ {b = traced_by_reply r t} c.deliver_reply.ensures.traced (all_left t c.args.seed r c.reply_to_made.ensures.reply)
