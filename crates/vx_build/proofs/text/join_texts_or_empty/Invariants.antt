-- The texts before the one at hand, an empty one where there is none.
use Rattle.std.proofs.Common.{map, take}
use Rattle.vx_types.specs.declared.ptype.PType.TheVariants.{I32}
use Rattle.vx_text.specs.Building.{AreTexts}
use Rattle.vx_build.specs.Rows.{bytes_or_none}
use Rattle.vx_build.proofs.text.join_texts_or_empty.Given as goal

abbrev pub invariant-loop-text : goal.invariant-loop-text
invariant-loop-text l = AreTexts I32 l.joined.offsets l.joined.text.items (map (bytes_or_none (λ text. text.now)) (take l.text-index l.values))
