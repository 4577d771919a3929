use Rattle.std.proofs.Common.{◌≡◌, take, drop}
use Rattle.vx_words.proofs.widen.widen.Given as goal

abbrev pub invariant-loop-k : goal.invariant-loop-k
invariant-loop-k l = record {
  front : take l.k l.dst ≡ take l.k l.src;
  rest : drop l.k l.dst ≡ drop l.k l.initial.dst;
}
