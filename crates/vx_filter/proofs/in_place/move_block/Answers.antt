use Rattle.std.proofs.Common.{◌≡◌, ◌+◌, ◌-◌, ◌++◌, length, take, drop, ap, refl, ◌∙◌, arith}
use Rattle.std.proofs.lemmas.List.{length-drop, length-take-le}
use Rattle.std.proofs.lemmas.Slice.{drop-put_mid, take-put_mid}
use Rattle.vx_filter.proofs.WordItems.{items_behind}
use Rattle.vx_filter.proofs.in_place.move_block.Goals as goal

pub returns-in-Some-clause-front : goal.returns-in-Some-clause-front
returns-in-Some-clause-front g c =
    let values = c.args.values.now in
    let from = c.args.from in
    let to = c.args.to in
    let block : c.copy_from_slice.new.self ≡ take g.row.N (drop from values) = c.copy_from_slice.ensures.after ∙ c.in-Some.ensures.cases.same ∙ ap (take g.row.N) (items_behind values from) in
    let long = length-take-le g.row.N (drop from values) (omega (arith, length-drop from values, c.requires.from)) in
    take-put_mid to (to + g.row.N - to) values _ (to + g.row.N) (omega (arith, ap length block, long)) (omega (arith, c.requires.to)) ∙ ap (λ l. take to values ++ l) block

pub returns-in-Some-clause-after : goal.returns-in-Some-clause-after
returns-in-Some-clause-after g c =
    let values = c.args.values.now in
    let from = c.args.from in
    let to = c.args.to in
    let block : c.copy_from_slice.new.self ≡ take g.row.N (drop from values) = c.copy_from_slice.ensures.after ∙ c.in-Some.ensures.cases.same ∙ ap (take g.row.N) (items_behind values from) in
    let long = length-take-le g.row.N (drop from values) (omega (arith, length-drop from values, c.requires.from)) in
    drop-put_mid to (to + g.row.N - to) values _ (to + g.row.N) (omega arith) (omega (arith, c.requires.to)) (omega (arith, ap length block, long))

pub copy_from_slice-requires : goal.copy_from_slice-requires
copy_from_slice-requires g c =
    let values = c.args.values.now in
    let from = c.args.from in
    let to = c.args.to in
    let block = ap length (c.in-Some.ensures.cases.same ∙ ap (take g.row.N) (items_behind values from)) in
    let long = length-take-le g.row.N (drop from values) (omega (arith, length-drop from values, c.requires.from)) in
    let room = length-take-le (to + g.row.N - to) (drop to values) (omega (arith, length-drop to values, c.requires.to)) in
    omega (arith, block, long, room)

pub returns-in_default-clause-front : goal.returns-in_default-clause-front
returns-in_default-clause-front g c =
    absurd (omega (arith, c.in_default.ensures.cases, ap length (items_behind c.args.values.now c.args.from), length-drop c.args.from c.args.values.now, c.requires.from))

pub returns-in_default-clause-after : goal.returns-in_default-clause-after
returns-in_default-clause-after g c = refl
