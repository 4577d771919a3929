-- Lists of rooms stay where they lie.
use Rattle.std.proofs.Common.{◌≡◌, ℕ, ◌<◌, List, length, get_or, set, ap, ◌∙◌, sym, subst, inl, inr, get_or-set_same, get_or-set_other}
use Rattle.std.proofs.lemmas.Bool.{cases_eq}
use Rattle.std.proofs.lemmas.List.{get_or_default, length-set}
use Rattle.vx_arrow_image.specs.declared.image.Room.{Room}
use Rattle.vx_arrow_columns.specs.Written.{KeepLists, KeepsLists}

-- a room whose lists stayed twice
kept_twice : (a b c : Room) → KeepsLists a b → KeepsLists b c → KeepsLists a c
kept_twice a b c h k = record {
  valid = k.valid ∙ h.valid;
  offsets = k.offsets ∙ h.offsets;
  values = k.values ∙ h.values;
  sizes = k.sizes ∙ h.sizes;
}

-- one room more whose lists stay
pub room_kept : (old rooms : List Room) (i : ℕ) (e new : Room) → i < length rooms → KeepsLists (get_or rooms i e) new → KeepLists old rooms → KeepLists old (set rooms i new)
room_kept old rooms i e new lt one all = record {
  many = length-set rooms i new ∙ all.many;
  each = λ k d. elim (cases_eq k i) [
    | inl same ↦
        let here : get_or (set rooms i new) k d ≡ new = ap (λ j. get_or (set rooms i new) j d) same ∙ get_or-set_same rooms i new d lt in
        let there : get_or rooms i e ≡ get_or rooms k d = get_or_default rooms i e d lt ∙ ap (λ j. get_or rooms j d) (sym same) in
        subst (KeepsLists (get_or old k d)) (sym here)
        (kept_twice (get_or old k d) (get_or rooms k d) new (all.each k d) (subst (λ r. KeepsLists r new) there one))
    | inr other ↦ subst (KeepsLists (get_or old k d)) (sym (get_or-set_other rooms i k new d other)) (all.each k d)
  ];
}
