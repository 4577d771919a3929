-- What a loop over members keeps.
use Rattle.std.proofs.Common.{◌≡◌}
use Rattle.serde_json.specs.View.{members_view}
use Rattle.vx_document.specs.Policies.{with_members}
use Rattle.vx_document.proofs.policies.with_members.Given as goal

-- the fields so far, with what the members that are left say, are those with what all say
abbrev pub invariant-loop-name : goal.invariant-loop-name
invariant-loop-name l =
    (goal.iterator-loop-name).can_next l.name-iterator ×
    (goal.iterator-loop-name).is_finite l.name-iterator ×
    (with_members l.fields (members_view l.name-iterator) ≡ with_members l.fn.f (members_view l.members.entries))
