use Rattle.std.proofs.Common.{ℕ, ap, sym, subst, ◌∙◌, arith}
use Rattle.vx_packed.specs.Chunk.{IsSpelling}
use Rattle.vx_packed.specs.Faults.{numbers_in}
use Rattle.vx_packed.proofs.CutParts.{IsPart, part_at}
use Rattle.vx_packed.proofs.chunks.part_of.Goals as goal

pub start_of-requires : goal.start_of-requires
start_of-requires g c = (part_at g.row.W c.args.bytes.now c.args.starts.now c.args.chunk (λ i. omega (arith, c.type_inv.bytes i)) c.requires.packed c.requires.within).0

pub part_from-requires : goal.part_from-requires
part_from-requires g c =
    let found = (part_at g.row.W c.args.bytes.now c.args.starts.now c.args.chunk (λ i. omega (arith, c.type_inv.bytes i)) c.requires.packed c.requires.within).1 in
    (subst (λ (s : ℕ). IsPart c.args.bytes.now s c.args.chunk) (sym c.start_of.ensures) found).within

pub returns-clause-spelled : goal.returns-clause-spelled
returns-clause-spelled g c =
    let found = (part_at g.row.W c.args.bytes.now c.args.starts.now c.args.chunk (λ i. omega (arith, c.type_inv.bytes i)) c.requires.packed c.requires.within).1 in
    let p = subst (λ (s : ℕ). IsPart c.args.bytes.now s c.args.chunk) (sym c.start_of.ensures) found in
    subst (IsSpelling 8) (sym c.part_from.ensures) p.spelled

pub returns-clause-numbers : goal.returns-clause-numbers
returns-clause-numbers g c =
    let found = (part_at g.row.W c.args.bytes.now c.args.starts.now c.args.chunk (λ i. omega (arith, c.type_inv.bytes i)) c.requires.packed c.requires.within).1 in
    let p = subst (λ (s : ℕ). IsPart c.args.bytes.now s c.args.chunk) (sym c.start_of.ensures) found in
    ap numbers_in c.part_from.ensures ∙ p.numbers
