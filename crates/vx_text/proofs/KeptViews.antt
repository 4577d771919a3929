-- Views that are kept are sound, and stand for the texts that are kept.
use Rattle.std.proofs.Common.{◌≡◌, ℕ, ◌-◌, Bool, true, false, List, [], map, length, slice_range, Option, None, Some, refl, sym, subst}
use Rattle.std.specs.Prelude.{if◌then◌else◌}
use Rattle.std.specs.List.{list_all, items_where_true}
use Rattle.vx_types.specs.Text.{is_view, view_text}
use Rattle.vx_types.specs.declared.text.BinaryView.{BinaryView}
use Rattle.vx_types.specs.declared.text.TextKind.{TextKind}
use Rattle.vx_types.specs.declared.error.ColumnError.TheVariants.{BadValidity, BadViews}
use Rattle.vx_model.specs.Valid.{Valid, is_fitting}
use Rattle.vx_model.specs.VarBinView.{ViewParts, views_fault}
use Rattle.vx_take.specs.Picks.{at}
use Rattle.vx_model.proofs.Items.{map-slice_range, map-items_where_true}
use Rattle.vx_model.proofs.Takes.{map-at}
use Rattle.vx_text.specs.Views.{empty_view}
use Rattle.vx_take.proofs.TakenLists.{all-at}

module _ (buffers : List (List ℕ)) where
  pub texts-slice : (views : List BinaryView) (s e : ℕ) → map (view_text buffers) (slice_range views s e) ≡ slice_range (map (view_text buffers) views) s e
  texts-slice views s e = map-slice_range (view_text buffers) views s e

  pub texts-kept : (bits : List Bool) (views : List BinaryView) → map (view_text buffers) (items_where_true bits views) ≡ items_where_true bits (map (view_text buffers) views)
  texts-kept bits views = map-items_where_true (view_text buffers) bits views

  pub texts-at : (views : List BinaryView) (picks : List (Option ℕ)) → map (view_text buffers) (at empty_view views picks) ≡ at [] (map (view_text buffers) views) picks
  texts-at views picks = map-at (view_text buffers) empty_view views picks

  pub sound-at : (views : List BinaryView) (picks : List (Option ℕ)) → list_all (is_view buffers) views ≡ true → list_all (is_view buffers) (at empty_view views picks) ≡ true
  sound-at views picks h = all-at (is_view buffers) empty_view views picks refl h

-- parts that make a column
sound-parts : (p : ViewParts) → is_fitting p.valid (length p.views) ≡ true → list_all (is_view p.buffers) p.views ≡ true → views_fault p ≡ None
sound-parts p h k = no_fault (is_fitting p.valid (length p.views)) (list_all (is_view p.buffers) p.views) h k
  where
    no_fault : (a b : Bool) → a ≡ true → b ≡ true → (if a then (if b then None else Some BadViews) else Some BadValidity) ≡ None
    no_fault true true h k = refl
    no_fault true false h k = cc
    no_fault false b h k = cc

pub sound-as : (k : TextKind) (views vs : List BinaryView) (buffers bs : List (List ℕ)) (v : Valid) → views ≡ vs → buffers ≡ bs → is_fitting v (length vs) ≡ true → list_all (is_view bs) vs ≡ true → views_fault (record { kind = k; views = views; buffers = buffers; valid = v }) ≡ None
sound-as k views vs buffers bs v is same f h =
    subst (λ (x : List BinaryView). views_fault (record { kind = k; views = x; buffers = buffers; valid = v }) ≡ None) (sym is)
    (subst (λ (y : List (List ℕ)). views_fault (record { kind = k; views = vs; buffers = y; valid = v }) ≡ None) (sym same)
    (sound-parts (record { kind = k; views = vs; buffers = bs; valid = v }) f h))
