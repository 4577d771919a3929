-- Eight digits as one word.
use Rattle.std.proofs.Common.{◌∙◌, ap}
use Rattle.std.specs.Int.{w64, from_le_bytes}
use Rattle.vx_json.proofs.Digits.{digits_read, digits_fail}
use Rattle.vx_json.proofs.bit_text.byte_named.Goals as goal

pub returns-then-word-ne3472328296227680304-clause-bits : goal.returns-then-word-ne3472328296227680304-clause-bits
returns-then-word-ne3472328296227680304-clause-bits c =
    digits_fail c.args.digits.now c.from_le_bytes-word.result c.requires c.type_inv.digits (c.from_le_bytes-word.ensures ∙ ap (from_le_bytes w64) c.copy_from_slice.ensures.after) c.if-word-ne3472328296227680304.true

pub returns-clause-bits : goal.returns-clause-bits
returns-clause-bits c =
    digits_read c.args.digits.now c.from_le_bytes-word.result c.requires c.type_inv.digits (c.from_le_bytes-word.ensures ∙ ap (from_le_bytes w64) c.copy_from_slice.ensures.after) c.if-word-ne3472328296227680304.false
