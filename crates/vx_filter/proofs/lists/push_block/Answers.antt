use Rattle.std.proofs.Common.{◌≡◌, ◌+◌, ◌-◌, ◌++◌, take, drop, sym, ap, ◌∙◌, arith}
use Rattle.std.proofs.lemmas.List.{length-drop, length-take-le}
use Rattle.vx_filter.proofs.Blocks.{block_cut}
use Rattle.vx_filter.proofs.lists.push_block.Goals as goal

pub returns : goal.returns
returns g c =
    let kept = c.args.kept.now.items in
    let start = c.args.start in
    let behind = drop start c.args.src.now in
    let block : start + c.args.block - start ≡ c.args.block = omega arith in
    let cut : start + c.args.count - start ≡ c.args.count = omega arith in
    let whole = c.in_ok-extend_from_slice.ensures.items ∙ ap (λ n. kept ++ take n behind) block in
    block_cut kept _ _ behind _ c.args.count c.args.block c.requires.part whole c.truncate.ensures.items (omega (arith, c.args.kept.now.ok.0, c.len.ensures, c.in_ok-extend_from_slice.ensures.len, length-take-le (start + c.args.block - start) behind (omega (arith, length-drop start c.args.src.now))))
    ∙ ap (λ n. kept ++ take n behind) (sym cut)
