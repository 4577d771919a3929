-- Parts of the codes by which a proof tells types and rows apart.
use Rattle.std.specs.Prelude.{◌≡◌, ℕ, ℤ, pos, negsuc, refl, List, [], ◌∷◌}
use Rattle.std.proofs.Common.{sym, ap, ◌∙◌}
use base.Stored.{Gv, gnil, gnum, gcons, num, Coded}

-- a code from which a value is had back tells its values apart
abbrev pub coded_back :
    {X : Type 0} (code : X → Gv) (back : Gv → X) → ((x : X) → back (code x) ≡ x) → Coded X
coded_back code back undoes =
    record { code = code; inj = λ x y p. sym (undoes x) ∙ ap back p ∙ undoes y }

abbrev pub head : Gv → Gv
head gnil = gnil
head (gnum n) = gnil
head (gcons a b) = a

abbrev pub tail : Gv → Gv
tail gnil = gnil
tail (gnum n) = gnil
tail (gcons a b) = b

abbrev pub bytes_code : List ℕ → Gv
bytes_code [] = gnil
bytes_code (b ∷ bs) = gcons (gnum b) (bytes_code bs)

abbrev pub bytes_back : Gv → List ℕ
bytes_back gnil = []
bytes_back (gnum n) = []
bytes_back (gcons a b) = num a ∷ bytes_back b

pub bytes_back_code : (bs : List ℕ) → bytes_back (bytes_code bs) ≡ bs
bytes_back_code [] = refl
bytes_back_code (b ∷ bs) = λ i. b ∷ bytes_back_code bs i

abbrev pub names_code : List (List ℕ) → Gv
names_code [] = gnil
names_code (n ∷ ns) = gcons (bytes_code n) (names_code ns)

abbrev pub names_back : Gv → List (List ℕ)
names_back gnil = []
names_back (gnum n) = []
names_back (gcons a b) = bytes_back a ∷ names_back b

pub names_back_code : (ns : List (List ℕ)) → names_back (names_code ns) ≡ ns
names_back_code [] = refl
names_back_code (n ∷ ns) = λ i. bytes_back_code n i ∷ names_back_code ns i

abbrev pub int_code : ℤ → Gv
int_code (pos n) = gnum n
int_code (negsuc n) = gcons (gnum n) gnil

abbrev pub int_back : Gv → ℤ
int_back gnil = pos 0
int_back (gnum n) = pos n
int_back (gcons a b) = negsuc (num a)

pub int_back_code : (z : ℤ) → int_back (int_code z) ≡ z
int_back_code (pos n) = refl
int_back_code (negsuc n) = refl
