-- One span more.
use Rattle.std.proofs.Common.{◌≡◌, ◌+◌, ◌-◌, ◌<◌, length, arith}
use Rattle.std.proofs.lemmas.List.{get_or_read}
use Rattle.vx_arrow_interleave.proofs.SpanItems.{last_spots}
use Rattle.vx_arrow_interleave.proofs.SpotLists.{no_span, spots_push}
use Rattle.vx_arrow_interleave.proofs.spans.push_span.Goals as goal

pub returns-in-Some : goal.returns-in-Some
returns-in-Some c =
    let ss = c.args.spans.now.items in
    let k = c.len-last.result - 1 in
    let n : k + 1 ≡ length ss = omega (arith, c.len-last.ensures, c.if-last-gt0.true) in
    let low : k < length ss = omega arith in
    last_spots ss k c.index.result.now c.in-Some.both c.args.span n (get_or_read ss k c.index.result.now low c.index.ensures no_span) c.in-Some.ensures

pub returns : goal.returns
returns c = spots_push c.args.spans.now.items c.push.new.self.items c.args.span c.in_ok-push.ensures.items
