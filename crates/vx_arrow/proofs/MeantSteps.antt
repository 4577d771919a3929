-- The steps that images mean, one after another.
use Rattle.std.proofs.Common.{◌≡◌, ℕ, ◌+◌, ◌<◌, List, [], ◌∷◌, ◌++◌, map, length, take, get_or, None, refl, sym, ap, ◌∙◌, arith}
use Rattle.std.proofs.lemmas.List.{get_or-map, length-map, map_push, take_more}
use Rattle.std.proofs.lemmas.Bool.Decides.{nat_tests}
use Rattle.std.proofs.lemmas.List.FromFn.{length-map-range_with_len}
use Rattle.vx_types.specs.TypeTree.{primitive_kind}
use Rattle.vx_types.specs.declared.ptype.PType.TheVariants.{U64}
use Rattle.vx_model.specs.Column.{Column}
use Rattle.vx_model.specs.Records.{RecordParts}
use Rattle.vx_model.specs.Valid.{non_nullable}
use Rattle.vx_model.proofs.Layouts.{length-records}
use Rattle.vx_pieces.specs.Pieces.{pieces_fault, pieces_parts}
use Rattle.vx_steps.specs.Step.{StepValue}
use Rattle.vx_arrow.specs.Image.{StepParts, naturals_in, record_at, records_in, step_in, step_parts, steps_in}
use Rattle.vx_arrow.specs.declared.image.StepImage.{StepImage}

pub read_next : (images : List StepImage) (k : ℕ) (d : StepImage) (steps : List StepValue) (s : StepValue) → steps ≡ steps_in (take k (map step_parts images)) → k < length images → s ≡ step_in (step_parts (get_or images k d))
    → steps ++ s ∷ [] ≡ steps_in (take (k + 1) (map step_parts images))
read_next images k d steps s so h is =
    let parts = map step_parts images in let p = step_parts (get_or images k d) in
    let within : k < length parts = omega (arith, length-map images step_parts) in
    let at : get_or parts k p ≡ p = get_or-map step_parts images k d p h in
    ap (λ l. l ++ s ∷ []) so ∙ ap (λ x. steps_in (take k parts) ++ x ∷ []) (is ∙ ap step_in (sym at))
    ∙ sym (ap (map step_in) (take_more parts k p within) ∙ map_push step_in (take k parts) (get_or parts k p))

-- three columns of numbers of 64 bits, of one length, make a sequence
pub no_pieces_fault : (s : StepParts) (xs ys zs : List ℕ) (n : ℕ) → pieces_fault (pieces_parts (naturals_in xs s) (naturals_in ys s) (naturals_in zs s) n) ≡ None
no_pieces_fault s xs ys zs n =
    let a = long xs in let b = long ys in let c = long zs in
    grind (arith, nat_tests)
  where
    long : (bytes : List ℕ) → length (naturals_in bytes s).rows ≡ s.len
    long bytes =
        let parts : RecordParts = record { kind = primitive_kind U64; width = 8; records = records_in 8 bytes s.offset s.len; valid = non_nullable } in
        length-records parts refl ∙ length-map-range_with_len (record_at 8 bytes) s.offset s.len

pub pieces_sound : (s : StepParts) (xs ys zs : List ℕ) (n : ℕ) (a b c : Column) → a ≡ naturals_in xs s → b ≡ naturals_in ys s → c ≡ naturals_in zs s → pieces_fault (pieces_parts a b c n) ≡ None
pieces_sound s xs ys zs n a b c p q r =
    ap (λ (x : Column). pieces_fault (pieces_parts x b c n)) p ∙ ap (λ (y : Column). pieces_fault (pieces_parts (naturals_in xs s) y c n)) q
    ∙ ap (λ (z : Column). pieces_fault (pieces_parts (naturals_in xs s) (naturals_in ys s) z n)) r ∙ no_pieces_fault s xs ys zs n
