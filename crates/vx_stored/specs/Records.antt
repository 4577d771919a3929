-- Records of any width.
use Rattle.std.specs.Prelude.{ℕ, List, replicate}

-- w bytes that are all zero
abbrev pub zero_record : ℕ → List ℕ
zero_record w = replicate w 0
