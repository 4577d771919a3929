-- Fields behind the number of bits.
use Rattle.std.proofs.Common.{◌≡◌, ℕ, Bool, true, false, cond, List, [], ◌∷◌, None, ap, sym, ◌∙◌, refl, eqb}
use Rattle.vx_arrow_formats.specs.Numbers.{fields_in, fields_left, with_byte}
use Rattle.vx_arrow_formats.specs.Parameters.{width_of_bits}
use Rattle.vx_arrow_formats.proofs.parameters.width_of_bits.Goals as goal

two_step : (v : Bool) (b : List ℕ) (x : ℕ) (fs : List (List ℕ)) → None ≡ width_of_bits (b ∷ cond v ([] ∷ fs) (with_byte x fs))
two_step true b x fs = refl
two_step false b x [] = refl
two_step false b x (f ∷ fs) = refl

two_fields : (b text : List ℕ) → None ≡ width_of_bits (b ∷ fields_in text)
two_fields b [] = refl
two_fields b (x ∷ xs) = two_step (eqb x 44) b x (fields_in xs)

pub returns-in-Some-rest : goal.returns-in-Some-rest
returns-in-Some-rest c =
    let field = c.first_field-first.result.field.now in
    let more = c.in-Some-rest.field-0.now in
    two_fields field more
    ∙ sym (ap width_of_bits (c.first_field-first.ensures.cut ∙ ap (λ o. field ∷ fields_left o) c.in-Some-rest.is))
    ∙ sym (ap (λ o. width_of_bits (fields_left o)) c.in-Some.is)
