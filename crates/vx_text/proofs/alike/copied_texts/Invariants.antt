-- The copies so far.
use Rattle.std.specs.Prelude.{replicate}
use Rattle.vx_types.specs.declared.ptype.PType.TheVariants.{U64}
use Rattle.vx_text.specs.Building.{AreTexts}
use Rattle.vx_text.proofs.alike.copied_texts.Given as goal

abbrev pub invariant-loop-copy : goal.invariant-loop-copy
invariant-loop-copy l = AreTexts U64 l.texts.offsets l.texts.bytes.items (replicate l._copy l.value)
