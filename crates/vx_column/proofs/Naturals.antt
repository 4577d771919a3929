-- Columns of integers.
use Rattle.std.proofs.Common.{◌≡◌, List, length}
use Rattle.std.proofs.lemmas.List.{length-map}
use Rattle.vx_model.specs.Numbers.{integer_by, integers_of}
use Rattle.vx_model.specs.Records.{RecordParts}
use Rattle.std.specs.Cmp.{first_so, second_so}

pub integers_long : (p : RecordParts) → length (integers_of p) ≡ length p.records
integers_long p = length-map p.records (integer_by p.kind)

pub ruleset naturals = integers_long
