use Rattle.std.proofs.Common.{true, false, length, get_or, take, drop, ap, sym, ◌∙◌, arith}
use Rattle.std.specs.Prelude.{codes}
use Rattle.std.specs.Cmp.Lexicographic.{other_text, same_text}
use Rattle.vx_file.proofs.Headers.{header_front, header_is, header_len, header_type, len_same, length-header, type_small}
use Rattle.vx_file.proofs.shape.FileShape.from_header.Goals as goal
use Rattle.std.proofs.lemmas.Bool.{not-true, not-false}

pub returns-then-bytes-ne17 : goal.returns-then-bytes-ne17
returns-then-bytes-ne17 c = λ s h e. absurd (omega (arith, ap length e, length-header s, c.if-bytes-ne17.true))

pub returns-then-ne : goal.returns-then-ne
returns-then-ne c = λ s h e.
    absurd (other_text (take 8 c.args.bytes.now) (codes "VXCOL001") (sym (not-true _ (sym c.ne.ensures ∙ c.if-ne.true))) (ap (take 8) e ∙ header_front s))

pub returns-in_default : goal.returns-in_default
returns-in_default c = λ s h e. absurd (omega (arith, c.in_default.ensures, ap (λ l. get_or l 8 0) e, header_type s, type_small s.ptype h.unsigned))

pub returns-then-len-gt-MOST_ROWS : goal.returns-then-len-gt-MOST_ROWS
returns-then-len-gt-MOST_ROWS c = λ s h e.
    let same = len_same c.len_in-len.result s.len (omega arith) (omega (arith, h.short)) (c.len_in-len.ensures ∙ ap (drop 9) e ∙ header_len s) in
    absurd (omega (arith, same, h.short, c.if-len-gt-MOST_ROWS.true))

pub returns : goal.returns
returns c =
    let front = same_text (take 8 c.args.bytes.now) (codes "VXCOL001") (sym (not-false _ (sym c.ne.ensures ∙ c.if-ne.false))) in
    header_is c.args.bytes.now _ (omega arith) front c.in-Some.ensures.0 c.len_in-len.ensures
