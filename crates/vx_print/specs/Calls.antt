-- The line of the calls of a decoder.
use Rattle.std.specs.Prelude.{ℕ, List, ◌++◌, codes, decimal, flat_map}
use Rattle.vx_decoder.specs.declared.call.Call.{Call}
use Rattle.vx_decoder.specs.declared.call.Call.TheVariants.{Whole, Only}
use Rattle.vx_print.specs.Text.{line}

-- a chunk of which all values were asked for, or so many of its values
abbrev pub call_text : Call → List ℕ
call_text (Whole chunk) = codes " Whole(" ++ decimal chunk ++ codes ")"
call_text (Only chunk count) =
    codes " Only(" ++ decimal chunk ++ codes "," ++ decimal count ++ codes ")"

-- the calls, in order
abbrev pub calls_text : List Call → List ℕ
calls_text calls = line (codes "calls:" ++ flat_map call_text calls)
