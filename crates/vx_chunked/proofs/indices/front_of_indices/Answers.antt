use Rattle.std.proofs.Common.{◌*◌, take, drop, sym, arith}
use Rattle.std.proofs.lemmas.List.{length-drop, take_all}
use Rattle.vx_chunked.proofs.Ascends.{places_inside, places_taken}
use Rattle.vx_chunked.proofs.indices.front_of_indices.Goals as goal

pub returns-clause-taken : goal.returns-clause-taken
returns-clause-taken c =
    let all = c.args.indices.now in
    let n = c.count_in-count.result in
    places_taken c.args.offset (1024 * c.args.chunk) n all _ c.count_in-count.ensures.inside (sym (take_all _ (drop n all) (omega (arith, length-drop n all))))

pub returns-clause-inside : goal.returns-clause-inside
returns-clause-inside c = places_inside c.args.offset (1024 * c.args.chunk) (take c.count_in-count.result c.args.indices.now) c.count_in-count.ensures.inside
