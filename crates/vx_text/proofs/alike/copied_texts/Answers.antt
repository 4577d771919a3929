-- One copy more is put out.
use Rattle.std.proofs.Common.{rules, ◌≡◌, ◌≤◌, List, ℕ, sym, subst, arith}
use Rattle.std.specs.Prelude.{replicate}
use Rattle.vx_types.specs.declared.ptype.PType.TheVariants.{U64}
use Rattle.vx_text.specs.Building.{AreTexts}
use Rattle.vx_text.proofs.BuiltTexts.{alike_more, one_text}
use Rattle.vx_text.proofs.alike.copied_texts.Goals as goal

pub loop-copy-preserved : goal.loop-copy-preserved
loop-copy-preserved c =
    subst (λ (l : List (List ℕ)). AreTexts U64 c.push.new.self.offsets c.push.new.self.bytes.items l)
    (sym (alike_more c.loop-copy._copy c.args.value.now))
    (one_text U64 c.loop-copy.texts.offsets c.push.new.self.offsets c.loop-copy.texts.bytes.items c.push.new.self.bytes.items c.args.value.now _ c.loop-copy.invariant c.in_ok-push.ensures.short c.in_ok-push.ensures.bytes c.in_ok-push.ensures.offsets)

pub returns : goal.returns
returns c =
    let low : c.args.len ≤ c.loop-copy._copy = search rules in
    let high : c.loop-copy._copy ≤ c.args.len = search rules in
    let ended : c.loop-copy._copy ≡ c.args.len = omega (arith, low, high) in
    subst (λ (n : ℕ). AreTexts U64 c.loop-copy.texts.offsets c.loop-copy.texts.bytes.items (replicate n c.args.value.now)) ended c.loop-copy.invariant
