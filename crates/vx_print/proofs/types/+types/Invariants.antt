-- What a walk over a type counts down: how deep what is left nests.
use Rattle.std.proofs.Common.{◌≡◌, ◌+◌, ◌*◌, ◌++◌, map, take}
use Rattle.vx_types.specs.DType.{type_of}
use Rattle.vx_types.specs.Fields.{names_of}
use Rattle.vx_types.specs.TypeTree.{types_of, type_size, types_size}
use Rattle.vx_print.specs.Text.{comma_list, name_label, id_label}
use Rattle.vx_print.proofs.Entries.{entries}
use Rattle.vx_print.proofs.types.+types.Given as goal

-- the first i types stand behind what was there
abbrev pub invariant-push_types-loop-i : goal.invariant-push_types-loop-i
invariant-push_types-loop-i l =
    l.text.items ≡ l.initial.text.items ++ comma_list (take l.i (entries (map id_label l.ids) (map name_label (names_of l.names)) l.types))

abbrev pub decreases-push_types : goal.decreases-push_types
decreases-push_types l = 4 * types_size (types_of (map type_of l.types.now)) + 2

abbrev pub decreases-push_element : goal.decreases-push_element
decreases-push_element l = 4 * type_size l.element.now + 2

abbrev pub decreases-push_list : goal.decreases-push_list
decreases-push_list l = 4 * type_size l.element.now + 3

abbrev pub decreases-push_fixed : goal.decreases-push_fixed
decreases-push_fixed l = 4 * type_size l.element.now + 3

abbrev pub decreases-push_struct : goal.decreases-push_struct
decreases-push_struct l = 4 * types_size (types_of l.fields.now.types) + 3

abbrev pub decreases-push_map : goal.decreases-push_map
decreases-push_map l = 4 * types_size (types_of l.fields.now.types) + 3

abbrev pub decreases-push_union : goal.decreases-push_union
decreases-push_union l = 4 * types_size (types_of l.variants.now.types) + 3

abbrev pub decreases-push_extension : goal.decreases-push_extension
decreases-push_extension l = 4 * type_size l.ext.now.storage + 1

abbrev pub decreases-push_kind : goal.decreases-push_kind
decreases-push_kind l = 4 * type_size (type_of l.dtype.now)

abbrev pub decreases-push_type : goal.decreases-push_type
decreases-push_type l = 4 * type_size (type_of l.dtype.now) + 1
