-- One empty list more.
use Rattle.std.proofs.Common.{List, ap, ◌∙◌, length, ◌+◌}
use Rattle.std.specs.Prelude.{Vec}
use Rattle.std.specs.declared.alloc.Global.{Global}
use Rattle.std.proofs.lemmas.List.{length_push}
use Rattle.vx_arrow_interleave.specs.declared.spans.Span.{Span}
use Rattle.vx_arrow_interleave.specs.TextViews.{list_at}
use Rattle.vx_arrow_interleave.proofs.ShownViews.{lists_empty}
use Rattle.vx_arrow_interleave.proofs.text_views.empty_lists.Goals as goal

pub loop-preserved : goal.loop-preserved
loop-preserved c = record {
  many = ap (λ (l : List (Vec Span Global)). length l) c.in_ok-push.ensures.items ∙ length_push c.loop.lists.items _ ∙ ap (λ n. n + 1) c.loop.invariant.many;
  empty = λ j. ap (λ (l : List (Vec Span Global)). list_at l j) c.in_ok-push.ensures.items ∙ lists_empty c.loop.lists.items _ j c.new.ensures.items c.loop.invariant.empty;
}
