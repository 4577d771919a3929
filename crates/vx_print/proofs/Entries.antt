-- The texts of types, behind their labels.
use Rattle.std.proofs.Common.{◌≡◌, ℕ, zero, suc, ◌+◌, ◌<◌, List, [], ◌∷◌, ◌++◌, ◌∙◌, length, map, take, get_or, eqb, refl, sym, ap, append_assoc, arith}
use Rattle.vx_types.specs.DType.{type_of}
use Rattle.vx_types.specs.TypeTree.{types_of}
use Rattle.vx_types.specs.declared.dtype.DType.{DType}
use Rattle.vx_print.specs.Text.{comma_list, gap, with_labels, type_text, type_texts}
use Rattle.vx_print.proofs.Labels.{get_or-labelled, label_more, length-labelled}

get_or-type_texts : (ts : List DType) (i : ℕ) (d : DType) → i < length ts → get_or (type_texts (types_of (map type_of ts))) i [] ≡ type_text (type_of (get_or ts i d))
get_or-type_texts [] i d h = absurd (omega arith)
get_or-type_texts (t ∷ ts) zero d h = refl
get_or-type_texts (t ∷ ts) (suc i) d h = get_or-type_texts ts i d (omega arith)

pub length-type_texts : (ts : List DType) → length (type_texts (types_of (map type_of ts))) ≡ length ts
length-type_texts [] = refl
length-type_texts (t ∷ ts) = ap suc (length-type_texts ts)

-- the texts of types behind two labels each
abbrev pub entries : List (List ℕ) → List (List ℕ) → List DType → List (List ℕ)
entries ids names ts = with_labels ids (with_labels names (type_texts (types_of (map type_of ts))))

pub length-entries : (ids names : List (List ℕ)) (ts : List DType) → length (entries ids names ts) ≡ length ts
length-entries ids names ts =
    let texts = type_texts (types_of (map type_of ts)) in
    length-labelled ids (with_labels names texts) ∙ length-labelled names texts ∙ length-type_texts ts

-- entry i, behind those before it
pub entry_more : (ids names : List (List ℕ)) (ts : List DType) (bs : List ℕ) (i : ℕ) (d : DType) → i < length ts → ((((bs ++ comma_list (take i (entries ids names ts))) ++ gap (eqb i 0)) ++ get_or ids i []) ++ get_or names i []) ++ type_text (type_of (get_or ts i d)) ≡ bs ++ comma_list (take (i + 1) (entries ids names ts))
entry_more ids names ts bs i d h =
    let texts = type_texts (types_of (map type_of ts)) in
    let front = ((bs ++ comma_list (take i (entries ids names ts))) ++ gap (eqb i 0)) ++ get_or ids i [] in
    let long : length texts ≡ length ts = length-type_texts ts in
    let named : get_or (with_labels names texts) i [] ≡ get_or names i [] ++ type_text (type_of (get_or ts i d)) =
    get_or-labelled names texts i (omega (arith, long)) ∙ ap (λ t. get_or names i [] ++ t) (get_or-type_texts ts i d h) in
    append_assoc front (get_or names i []) (type_text (type_of (get_or ts i d)))
    ∙ sym (ap (λ t. front ++ t) named)
    ∙ label_more ids (with_labels names texts) bs i (omega (arith, long, length-labelled names texts))
