-- The label is the name's.
use Rattle.std.proofs.Common.{◌++◌, ◌∙◌, append_assoc, ap, sym, refl}
use Rattle.std.specs.Prelude.{codes}
use Rattle.std.specs.Rc.{rc_str_bytes}
use Rattle.std.specs.declared.alloc.Global.{Global}
use Rattle.std.specs.declared.rc.RcStr.{RcStr}
use Rattle.vx_print.specs.Text.{name_label}
use Rattle.vx_quote.specs.Quoted.{quoted_text}
use Rattle.vx_print.proofs.Labels.{label_name}
use Rattle.vx_print.proofs.types.push_name.Goals as goal

pub returns-in_ok-push_quoted-in-Some : goal.returns-in_ok-push_quoted-in-Some
returns-in_ok-push_quoted-in-Some c = λ ok.
    let text = c.args.text.now.items in
    let name = c.in-Some.name.now in
    let bytes = rc_str_bytes name in
    let look = c.in-Some.ensures.lookup in
    c.push_word.ensures ok
    ∙ ap (λ l. l ++ codes ": ") (c.in_ok-push_quoted-in-Some.ensures refl ∙ ap (λ b. text ++ quoted_text b) (c.as_bytes.ensures.value ∙ c.as_str.ensures.value))
    ∙ append_assoc text (quoted_text bytes) (codes ": ")
    ∙ ap (λ (n : RcStr Global). text ++ name_label (rc_str_bytes n)) look.1
    ∙ sym (ap (λ l. text ++ l) (label_name c.args.names.now c.args.i name look.3.0))
