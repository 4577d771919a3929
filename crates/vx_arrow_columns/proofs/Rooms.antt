-- What a room has, and what is written to it.
use Rattle.std.proofs.Common.{◌≡◌, ℕ, ◌≤◌, Bool, true, false, cond, List, [], length, Option, ap, sym, ◌∙◌, subst, arith, leb}
use Rattle.std.specs.Prelude.{◌&&◌, ◌||◌}
use Rattle.std.proofs.lemmas.Bool.{and_parts, leb-true}
use Rattle.vx_arrow_image.specs.declared.format.Format.{Format}
use Rattle.vx_arrow_image.specs.Image.{Part, holds_valid}
use Rattle.vx_arrow_columns.specs.Picks.{Picking, bytes_for, has_bits, offsets_len, picking_of, picks_of, shows_valid, sizes_len, values_len}
use Rattle.vx_arrow_columns.specs.Taken.{IsNullable, ShowsRows}
use Rattle.vx_arrow_columns.proofs.OwnTaken.{all_shown, nullable_shows, valid_holds}

-- these lists are as large as the need
pub record Roomy (p : Part) (q : Picking) (v o x s : List ℕ) : Type 0 where
  pub valid : shows_valid p q ≡ true → bytes_for (length q.picks) ≤ length v
  pub offsets : offsets_len p.format (length q.picks) ≤ length o
  pub values : values_len p.format p q.picks ≤ length x
  pub sizes : sizes_len p.format p (length q.picks) ≤ length s

shown_room : (b : Bool) (n : ℕ) (v : List ℕ) → leb (cond b n 0) (length v) ≡ true → b ≡ true → n ≤ length v
shown_room true n v h e = leb-true _ _ h
shown_room false n v h e = absurd (let f : false ≡ true = e in cc)

pub roomy : (p : Part) (q : Picking) (v o x s : List ℕ)
    → (leb (cond (shows_valid p q) (bytes_for (length q.picks)) 0) (length v) && (leb (offsets_len p.format (length q.picks)) (length o) && (leb (values_len p.format p q.picks) (length x) && leb (sizes_len p.format p (length q.picks)) (length s)))) ≡ true → Roomy p q v o x s
roomy p q v o x s h =
    let first = and_parts (leb (cond (shows_valid p q) (bytes_for (length q.picks)) 0) (length v)) _ h in
    let rest = and_parts (leb (offsets_len p.format (length q.picks)) (length o)) _ first.1 in
    let last = and_parts (leb (values_len p.format p q.picks) (length x)) _ rest.1 in
    record {
      valid = shown_room (shows_valid p q) (bytes_for (length q.picks)) v first.0;
      offsets = leb-true _ _ rest.0;
      values = leb-true _ _ last.0;
      sizes = leb-true _ _ last.1;
    }

pub room_values : (p : Part) (q : Picking) (f : Option Format) (n : ℕ) → p.format ≡ f → values_len p.format p q.picks ≤ n → values_len f p q.picks ≤ n
room_values p q f n e h = subst (λ (g : Option Format). values_len g p q.picks ≤ n) e h

pub room_offsets : (p : Part) (q : Picking) (f : Option Format) (n : ℕ) → p.format ≡ f → offsets_len p.format (length q.picks) ≤ n → offsets_len f (length q.picks) ≤ n
room_offsets p q f n e h = subst (λ (g : Option Format). offsets_len g (length q.picks) ≤ n) e h

pub room_sizes : (p : Part) (q : Picking) (f : Option Format) (n : ℕ) → p.format ≡ f → sizes_len p.format p (length q.picks) ≤ n → sizes_len f p (length q.picks) ≤ n
room_sizes p q f n e h = subst (λ (g : Option Format). sizes_len g p (length q.picks) ≤ n) e h

pub held_valid : (p : Part) (q : Picking) (v w : List ℕ) → (shows_valid p q ≡ true → bytes_for (length q.picks) ≤ length v) → length w ≡ length v → holds_valid (cond (shows_valid p q) w []) (length q.picks) ≡ true
held_valid p q v w h e = valid_holds (shows_valid p q) w (length q.picks) (λ s. let room = h s in omega arith)

-- how long the lists of a node of a format are
pub values_as : (p : Part) (q : Picking) (f : Option Format) (n : ℕ) → p.format ≡ f → n ≡ values_len p.format p q.picks → n ≡ values_len f p q.picks
values_as p q f n e h = h ∙ ap (λ (g : Option Format). values_len g p q.picks) e

pub offsets_as : (p : Part) (q : Picking) (f : Option Format) (n : ℕ) → p.format ≡ f → n ≡ offsets_len p.format (length q.picks) → n ≡ offsets_len f (length q.picks)
offsets_as p q f n e h = h ∙ ap (λ (g : Option Format). offsets_len g (length q.picks)) e

pub sizes_as : (p : Part) (q : Picking) (f : Option Format) (n : ℕ) → p.format ≡ f → n ≡ sizes_len p.format p (length q.picks) → n ≡ sizes_len f p (length q.picks)
sizes_as p q f n e h = h ∙ ap (λ (g : Option Format). sizes_len g p (length q.picks)) e

pub nullable_by : (f g : Option Format) → f ≡ g → IsNullable g → IsNullable f
nullable_by f g e h = subst IsNullable (sym e) h

-- no bits are written where none are needed
pub none_shown : (p : Part) (ps vs : List ℕ) (add : ℕ) (v : List ℕ) → IsNullable p.format → shows_valid p (picking_of ps vs add) ≡ false
    → ShowsRows p (picks_of ps vs add) (cond (shows_valid p (picking_of ps vs add)) v [])
none_shown p ps vs add v some none =
    let bare = sym (nullable_shows p.format (has_bits p.valid || has_bits vs) some) ∙ none in
    subst (λ (b : Bool). ShowsRows p (picks_of ps vs add) (cond b v [])) (sym none) (all_shown p ps vs add bare)
