use Rattle.std.proofs.Common.{◌≡◌, true, arith}
use Rattle.std.specs.Str.{all_ascii_digits}
use Rattle.vx_rows.proofs.Numerals.{refused}
use Rattle.vx_rows.proofs.command.number_named.Goals as goal

pub returns-in-Err : goal.returns-in-Err
returns-in-Err c =
    let digits : all_ascii_digits c.args.word.now ≡ true = grind arith in
    refused c.args.word.now c.in-Err.field-0 c.in-Err.ensures.value.0 digits
