use Rattle.std.proofs.Common.{◌≡◌, ◌+◌, ◌*◌, ◌-◌, ◌≤◌, ◌++◌, length, take, vec_len, vec_capacity}
use Rattle.std.specs.Prelude.{flat_map}
use Rattle.vx_quote.specs.Quoted.{quoted_byte}
use Rattle.vx_quote.proofs.quoted.push_few.Given as goal

-- the first bytes stand behind what was there, and there is room for the others and a quote
abbrev pub invariant-loop-byte : goal.invariant-loop-byte
invariant-loop-byte l = record {
  put : l.text.items ≡ l.initial.text.items ++ flat_map quoted_byte (take l.byte-index l.bytes);
  room : vec_len l.text + 4 * (length l.bytes - l.byte-index) + 1 ≤ vec_capacity l.text;
}
