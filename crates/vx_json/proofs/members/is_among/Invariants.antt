-- What a search for a name keeps.
use Rattle.std.proofs.Common.{◌≡◌, drop, map}
use Rattle.vx_json.specs.Members.{is_among}
use Rattle.vx_json.proofs.members.is_among.Given as goal

-- no name so far: the answer to those that are left is the answer to all
abbrev pub invariant-loop-n : goal.invariant-loop-n
invariant-loop-n l = is_among (map (λ n. n.now) (drop l.n-index l.names)) l.name ≡ is_among (map (λ n. n.now) l.names) l.name
