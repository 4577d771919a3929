-- What stands in front of a text where a list has one.
use Rattle.std.proofs.Common.{◌≡◌, ℕ, zero, suc, ◌+◌, ◌≤◌, ◌<◌, List, [], ◌∷◌, ◌++◌, ◌∙◌, length, map, take, get_or, eqb, refl, sym, ap, append_assoc, arith}
use Rattle.std.proofs.lemmas.List.{get_or-map, length-map}
use Rattle.std.specs.Rc.{rc_str_bytes}
use Rattle.std.specs.declared.alloc.Global.{Global}
use Rattle.std.specs.declared.rc.RcStr.{RcStr}
use Rattle.vx_types.specs.Fields.{names_of}
use Rattle.vx_types.specs.RowValue.{null}
use Rattle.vx_model.specs.Column.{Column}
use Rattle.vx_print.specs.Fields.{texts_at}
use Rattle.vx_print.specs.Text.{comma_list, gap, with_labels, name_label, row_text}
use Rattle.vx_print.proofs.Gaps.{text_more}

-- none past the end
pub label_past : {X : Type 0} (f : X → List ℕ) (xs : List X) (i : ℕ) → length xs ≤ i → get_or (map f xs) i [] ≡ []
label_past f [] i h = refl
label_past f (x ∷ xs) zero h = absurd (omega arith)
label_past f (x ∷ xs) (suc i) h = label_past f xs i (omega arith)

-- that of a name
pub label_name : (names : List (RcStr Global)) (i : ℕ) (d : RcStr Global) → i < length names → get_or (map name_label (names_of names)) i [] ≡ name_label (rc_str_bytes (get_or names i d))
label_name [] i d h = absurd (omega arith)
label_name (x ∷ xs) zero d h = refl
label_name (x ∷ xs) (suc i) d h = label_name xs i d (omega arith)

-- ---- texts behind labels

pub get_or-labelled : (ls ts : List (List ℕ)) (i : ℕ) → i < length ts → get_or (with_labels ls ts) i [] ≡ get_or ls i [] ++ get_or ts i []
get_or-labelled [] ts i h = refl
get_or-labelled (l ∷ ls) [] i h = absurd (omega arith)
get_or-labelled (l ∷ ls) (t ∷ ts) zero h = refl
get_or-labelled (l ∷ ls) (t ∷ ts) (suc i) h = get_or-labelled ls ts i (omega arith)

pub length-labelled : (ls ts : List (List ℕ)) → length (with_labels ls ts) ≡ length ts
length-labelled [] ts = refl
length-labelled (l ∷ ls) [] = refl
length-labelled (l ∷ ls) (t ∷ ts) = ap suc (length-labelled ls ts)

-- text i behind its label, behind those before it
pub label_more : (ls ts : List (List ℕ)) (bs : List ℕ) (i : ℕ) → i < length ts → (((bs ++ comma_list (take i (with_labels ls ts))) ++ gap (eqb i 0)) ++ get_or ls i []) ++ get_or ts i [] ≡ bs ++ comma_list (take (i + 1) (with_labels ls ts))
label_more ls ts bs i h =
    let front = (bs ++ comma_list (take i (with_labels ls ts))) ++ gap (eqb i 0) in
    append_assoc front (get_or ls i []) (get_or ts i [])
    ∙ sym (ap (λ t. front ++ t) (get_or-labelled ls ts i h))
    ∙ text_more bs (with_labels ls ts) i (omega (arith, length-labelled ls ts))

-- field i behind its label, behind those before it
pub field_more : (ls : List (List ℕ)) (cs : List Column) (row : ℕ) (bs : List ℕ) (i : ℕ) (d : Column) → i < length cs → (((bs ++ comma_list (take i (with_labels ls (texts_at cs row)))) ++ gap (eqb i 0)) ++ get_or ls i []) ++ row_text (get_or cs i d).dtype (get_or (get_or cs i d).rows row null) ≡ bs ++ comma_list (take (i + 1) (with_labels ls (texts_at cs row)))
field_more ls cs row bs i d h =
    let text : Column → List ℕ = λ c. row_text c.dtype (get_or c.rows row null) in
    let front = ((bs ++ comma_list (take i (with_labels ls (texts_at cs row)))) ++ gap (eqb i 0)) ++ get_or ls i [] in
    sym (ap (λ t. front ++ t) (get_or-map text cs i d [] h))
    ∙ label_more ls (texts_at cs row) bs i (omega (arith, length-map cs text))

pub length-fields : (ls : List (List ℕ)) (cs : List Column) (row : ℕ) → length (with_labels ls (texts_at cs row)) ≡ length cs
length-fields ls cs row = length-labelled ls (texts_at cs row) ∙ length-map cs (λ (c : Column). row_text c.dtype (get_or c.rows row null))

pub ruleset label_here = (label_past, get_or-map)
