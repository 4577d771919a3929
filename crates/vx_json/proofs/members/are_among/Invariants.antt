-- What a test of each member keeps.
use Rattle.std.proofs.Common.{◌≡◌, map}
use Rattle.serde_json.specs.View.{members_view}
use Rattle.vx_json.specs.Members.{are_among}
use Rattle.vx_json.proofs.members.are_among.Given as goal

-- the members so far are among the names: the answer to those that are left is the answer to all
abbrev pub invariant-loop-name : goal.invariant-loop-name
invariant-loop-name l =
    (goal.iterator-loop-name).can_next l.name-iterator ×
    (goal.iterator-loop-name).is_finite l.name-iterator ×
    (are_among (map (λ n. n.now) l.names) (members_view l.name-iterator) ≡ are_among (map (λ n. n.now) l.names) (members_view l.members.entries))
