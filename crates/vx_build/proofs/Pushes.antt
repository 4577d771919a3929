-- One item more of a list that is read from another.
use Rattle.std.proofs.Common.{◌≡◌, ℕ, ◌+◌, ◌<◌, ◌++◌, List, [], ◌∷◌, length, get_or, take, map, sym, ap₂, ◌∙◌}
use Rattle.std.proofs.lemmas.List.{map_more, map_push}

-- what is read of the items is what is read of the first of the list
pub push_read : {X Y Z : Type 0} (f : X → Z) (g : Y → Z) (items : List X) (item : X) (xs : List Y) (i : ℕ) (d : Y) → map f items ≡ map g (take i xs) → i < length xs → f item ≡ g (get_or xs i d) → map f (items ++ item ∷ []) ≡ map g (take (i + 1) xs)
push_read f g items item xs i d h l e =
    map_push f items item ∙ ap₂ (λ ys y. ys ++ y ∷ []) h e ∙ sym (map_more g xs i d l)

-- the items are made of the first of the list
pub push_made : {Y Z : Type 0} (g : Y → Z) (items : List Z) (item : Z) (xs : List Y) (i : ℕ) (d : Y) → items ≡ map g (take i xs) → i < length xs → item ≡ g (get_or xs i d) → items ++ item ∷ [] ≡ map g (take (i + 1) xs)
push_made g items item xs i d h l e =
    ap₂ (λ ys y. ys ++ y ∷ []) h e ∙ sym (map_more g xs i d l)
