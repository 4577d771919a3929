-- The digits so far.
use Rattle.std.proofs.Common.{◌≡◌, ◌<◌, ◌^◌, true, take}
use Rattle.std.specs.List.{list_all}
use Rattle.vx_arrow_formats.specs.Numbers.{is_digit, value_of}
use Rattle.vx_arrow_formats.proofs.numbers.number.Given as goal

abbrev pub invariant-loop-byte : goal.invariant-loop-byte
invariant-loop-byte l =
    record {
      digits : list_all is_digit (take l.byte-index l.text) ≡ true;
      value : l.value ≡ value_of (take l.byte-index l.text);
      small : l.value < 2 ^ 31;
    }
