-- What was delivered, by what was read.
use Rattle.std.proofs.Common.{◌≡◌, ℕ, List, Err, Some, take, ap, refl, sym, subst, ◌∙◌, inl, inr, arith}
use Rattle.std.specs.Prelude.{◌≢◌}
use Rattle.vx_io.specs.Bytes.{with_back}
use Rattle.vx_rows.specs.Program.{TooLong, Malformed, IsBroken, IsDone, IsPrinted, status_of, traced_by}
use Rattle.vx_rows.proofs.Delivered.{is_done, is_broken, is_printed, is_malformed, status_or_memory, traced_alike, written_status}
use Rattle.vx_rows.specs.Reply.{status_of_reply, traced_by_reply}
use Rattle.vx_rows.specs.Commands.{LeavesTrace}
use Rattle.vx_rows.specs.declared.command.Command.TheVariants.{Read}
use Rattle.vx_rows.specs.declared.trace.Trace.{Trace}
use Rattle.vx_rows.proofs.Told.{told, told_long}
use Rattle.vx_rows.proofs.TraceParts.{part_left}
use Rattle.vx_rows.proofs.program.run_document.Goals as goal

pub returns-in-Err-TooLong-clause-too_long : goal.returns-in-Err-TooLong-clause-too_long
returns-in-Err-TooLong-clause-too_long g c = λ _.
    told_long c.args.form (λ o. o ≡ TooLong) _ (c.in-Err-TooLong.ensures.too_long (ap (λ stop. Err stop) c.in-Err-TooLong.field-0-is)) refl

pub returns-in-Err-TooLong-clause-complete : goal.returns-in-Err-TooLong-clause-complete
returns-in-Err-TooLong-clause-complete g c = λ _ _.
    inr (told_long c.args.form (λ o. 7 ≡ status_of o) _ (c.in-Err-TooLong.ensures.too_long (ap (λ stop. Err stop) c.in-Err-TooLong.field-0-is)) refl)

pub returns-clause-done : goal.returns-clause-done
returns-clause-done g c = λ zero.
    let e = c.in-Ok.ensures in let d = c.deliver_reply.ensures in let held = g.K.Sink.held in
    let Q = λ (text : List ℕ). held c.deliver_reply.new.sink ≡ with_back (held c.args.sink.now) text in
    let other : c.deliver_reply.result ≢ 5 = λ five. absurd (omega arith) in
    told c.args.form (λ o. IsDone o Q) _ _ _ _ e.taken e.end e.short refl _ refl
    (is_done c.reply_to.result _ Q c.reply_to.ensures (sym (d.status other) ∙ zero) (d.written other))

pub returns-clause-broken : goal.returns-clause-broken
returns-clause-broken g c = λ one.
    let e = c.in-Ok.ensures in let d = c.deliver_reply.ensures in let held = g.K.Sink.held in
    let Q = λ (text : List ℕ). held c.deliver_reply.new.sink ≡ with_back (held c.args.sink.now) text in
    let other : c.deliver_reply.result ≢ 5 = λ five. absurd (omega arith) in
    told c.args.form (λ o. IsBroken o Q) _ _ _ _ e.taken e.end e.short refl _ refl
    (is_broken c.reply_to.result _ Q c.reply_to.ensures (sym (d.status other) ∙ one) (d.written other))

pub returns-clause-malformed : goal.returns-clause-malformed
returns-clause-malformed g c = λ two.
    let e = c.in-Ok.ensures in
    let other : c.deliver_reply.result ≢ 5 = λ five. absurd (omega arith) in
    told c.args.form (λ o. o ≡ Malformed) _ _ _ _ e.taken e.end e.short refl _ refl
    (is_malformed c.reply_to.result _ c.reply_to.ensures (sym (c.deliver_reply.ensures.status other) ∙ two))

pub returns-clause-part : goal.returns-clause-part
returns-clause-part g c = λ five.
    let e = c.in-Ok.ensures in let held = g.K.Sink.held in
    let Q = λ (text : List ℕ). (n : ℕ) × (held c.deliver_reply.new.sink ≡ with_back (held c.args.sink.now) (take n text)) in
    told c.args.form (λ o. IsPrinted o Q) _ _ _ _ e.taken e.end e.short refl _ refl
    (is_printed c.reply_to.result _ Q c.reply_to.ensures (c.deliver_reply.ensures.part five))

pub returns-clause-complete : goal.returns-clause-complete
returns-clause-complete g c = λ _ sound.
    let e = c.in-Ok.ensures in
    let other : c.deliver_reply.result ≢ 5 = λ five. sound (c.deliver_reply.ensures.fault five) in
    let is = c.deliver_reply.ensures.status other in
    elim (status_or_memory c.reply_to.result _ c.reply_to.ensures) [
      | inl six ↦ inl (is ∙ six)
      | inr same ↦ inr (told c.args.form (λ o. c.deliver_reply.result ≡ status_of o) _ _ _ _ e.taken e.end e.short refl _ refl (is ∙ same))
    ]

pub returns-clause-traced : goal.returns-clause-traced
returns-clause-traced g c = λ printed.
    let e = c.in-Ok.ensures in let d = c.deliver_reply.ensures in let held = g.K.Sink.held in
    let r = c.reply_to.result in let t = c.args.trace.now in
    let Q = λ (text : List ℕ). (n : ℕ) × (held c.deliver_reply.new.sink ≡ with_back (held c.args.sink.now) (take n text)) in
    let there : status_of_reply r ≢ 6 = elim printed [
      | inl zero ↦ (let other : c.deliver_reply.result ≢ 5 = λ five. absurd (omega arith) in
          let is : c.deliver_reply.result ≡ status_of_reply r = d.status other in omega arith)
      | inr five ↦ written_status r Q (d.part five)
    ] in
    told c.args.form (λ o. c.deliver_reply.new.trace ≡ traced_by o t) _ _ _ _ e.taken e.end e.short refl _ refl
    (◌∙◌ {b = traced_by_reply r t} d.traced (traced_alike r _ t c.reply_to.ensures there))

pub returns-clause-leaves : goal.returns-clause-leaves
returns-clause-leaves g c =
    let t = c.args.trace.now in
    subst (λ (x : Trace). LeavesTrace (Some (Read c.args.form)) t x) (sym c.deliver_reply.ensures.traced) (part_left t c.args.form _ c.reply_to.result c.reply_to.ensures)
