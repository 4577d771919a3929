-- Twelve bytes and then four.
use Rattle.std.proofs.Common.{◌*◌, ◌++◌, List, ℕ, ap, ◌∙◌, drop, length, take}
use Rattle.vx_arrow_interleave.proofs.ViewPuts.{moved_put}
use Rattle.vx_arrow_interleave.proofs.text_views.put_moved.Goals as goal

pub returns-clause-view : goal.returns-clause-view
returns-clause-view c =
    moved_put c.args.out.now c.args.values.now c.to_le_bytes.result c.put_block.new.bytes c.put_bytes.new.bytes c.args.at (16 * c.args.i) c.requires.held c.requires.room (ap (λ (l : List ℕ). length l) c.to_le_bytes.ensures) c.put_block.ensures c.put_bytes.ensures
    ∙ ap (λ (l : List ℕ). take 12 (drop (16 * c.args.i) c.args.values.now) ++ l) c.to_le_bytes.ensures
