-- Rows at the picks of a step that is alone are the answer.
use Rattle.std.proofs.Common.{zero, suc, ◌≡◌, ℕ, ◌*◌, ◌<◌, true, false, cond, List, [], ◌∷◌, length, get_or, map, set, Option, Some, refl, sym, ap, ◌∙◌, subst, arith}
use Rattle.std.specs.Prelude.{◌||◌}
use Rattle.std.proofs.lemmas.List.{get_or-map, length-map}
use Rattle.std.proofs.lemmas.List.FromFn.{get_or-range_with_len, length-range_with_len}
use Rattle.vx_types.specs.PType.{number}
use Rattle.vx_mask.proofs.PositionLists.{set_below}
use Rattle.vx_positions.specs.Positions.{is_position, position_of}
use Rattle.vx_positions.proofs.NumberLists.{none_bad-present, record_is_there}
use Rattle.vx_steps.specs.Walk.{Walk}
use Rattle.vx_arrow.specs.Answer.{IfPicks}
use Rattle.vx_arrow.specs.Image.{StepParts}
use Rattle.vx_arrow.specs.Known.{IsAlone, IsSound, number_bytes, places_of}
use Rattle.vx_arrow.specs.declared.known.KnownPicks.{KnownPicks}
use Rattle.vx_arrow.specs.declared.known.KnownPicks.TheVariants as variants
use Rattle.vx_arrow.proofs.KnownLists.{alone_walk}
use Rattle.vx_arrow_image.specs.declared.format.Format.{Format}
use Rattle.vx_arrow_image.specs.declared.image.Need.{Need}
use Rattle.vx_arrow_image.specs.declared.image.Node.{Node}
use Rattle.vx_arrow_image.specs.declared.image.Room.{Room}
use Rattle.vx_arrow_image.specs.Image.{Part, part_of, parts_of}
use Rattle.vx_arrow_columns.specs.Picks.{Picking, bytes_for, has_bits, is_union, offsets_len, own_need, pickings, shows_by, sizes_len, tags, values_len}
use Rattle.vx_arrow_columns.specs.Taken.{AreFull}
use Rattle.vx_arrow_columns.proofs.Takings.{means_picked}
use Rattle.vx_arrow_select.specs.Selected.{AreComposed, AreFilled, AreNeeds, IsSelected}
use Rattle.vx_arrow_select.proofs.Answers.{answered}
use Rattle.vx_fixed.proofs.Rows.{position_below}
use Rattle.vx_fixed.specs.Rows.{AreWritten}
use Rattle.vx_arrow_flat.specs.Flat.{HasRoomFor, HasValues}
use Rattle.vx_arrow_columns.specs.Bytes.{HasBytes}
use Rattle.vx_arrow_columns.specs.Written.{KeepLists}
use Rattle.vx_arrow_flat.proofs.Taken.{alone, has_bytes, within}

-- each pick is one of n rows
pub places_below : (n : ℕ) (a : KnownPicks) → IsSound n a → (k : ℕ) → k < length (places_of a) → get_or (places_of a) k 0 < n
places_below n (variants.Range start len) sound k h =
    omega (arith, get_or-range_with_len start len k 0 (omega (arith, length-range_with_len start len)), length-range_with_len start len)
places_below n (variants.Numbers t) sound k h =
    let records = number_bytes t in
    let f : List ℕ → ℕ = λ r. position_of (number t.ptype r) in
    let low : k < length records = omega (arith, length-map records f) in
    let there : is_position n (number t.ptype (get_or records k [])) ≡ true = record_is_there n t.ptype records k [] (none_bad-present n t.ptype records sound.1) low in
    omega (arith, get_or-map f records k [] 0 low, position_below n (number t.ptype (get_or records k [])) there)
places_below n (variants.Mask b) sound k h = set_below b.bits n sound k 0 h

-- what a node's rows at places need
one_need : (p : Part) → HasValues p → (places : List ℕ) → own_need p (record { picks = map Some places; nullable = false; kept = false }) ≡ record { len = length places; valid = 0; offsets = 0; values = length places * p.width; sizes = 0 }
one_need p v places =
    let q : List (Option ℕ) = map Some places in
    let n = length q in
    let named : (len valid offsets values sizes : ℕ) → Need = λ len valid offsets values sizes. record { len = len; valid = valid; offsets = offsets; values = values; sizes = sizes } in
    ap (λ (f : Option Format). named n (cond (shows_by f (has_bits p.valid || false)) (bytes_for n) 0) (offsets_len f n) (values_len f p q) (sizes_len f p n)) v.format
    ∙ ap (λ (l : List ℕ). named n (cond (has_bits l || false) (bytes_for n) 0) 0 (n * p.width) 0) v.bare
    ∙ ap (λ (m : ℕ). named m 0 0 (m * p.width) 0) (length-map places (λ (i : ℕ). Some i))

module _ (node : Node) (steps : List StepParts) (a : KnownPicks) (old new : Room) (v : HasValues (part_of node)) (room : HasRoomFor (part_of node) (places_of a) old)
    (long : length new.values.now ≡ length old.values.now) (is : IsAlone node.len steps a)
    (e : AreWritten node.width node.values.now node.offset (places_of a) old.values.now new.values.now) where
  abbrev low : (k : ℕ) → k < length (places_of a) → get_or (places_of a) k 0 < node.len
  low = places_below node.len a is.leaves.sound

  abbrev picks : Picking
  picks = record { picks = map Some (places_of a); nullable = false; kept = false }

  composed : AreComposed node.len steps picks
  composed = subst (λ (w : Walk). IfPicks w (λ l. picks.picks ≡ l)) (sym (alone_walk node.len steps a is)) refl

  no_union : is_union (parts_of (node ∷ [])) ≡ true → AreFull picks.picks
  no_union h = absurd (let f : false ≡ true = sym (ap tags v.format) ∙ h in cc)

  pub selected : IsSelected (node ∷ []) steps (new ∷ [])
  selected =
      answered (node ∷ []) steps picks (new ∷ []) composed
      (means_picked (node ∷ []) picks (new ∷ []) refl no_union
      (alone (part_of node) v (places_of a) low room.few old.values.now new (omega (arith, room.room, long)) room.small e)
      (within (part_of node) v (places_of a) low room.few))

  each_filled : new.valid ≡ old.valid → new.offsets ≡ old.offsets → new.sizes ≡ old.sizes → (k : ℕ) (d : Part) (r : Picking) (f : Room) → k < 1
      → HasBytes (get_or (part_of node ∷ []) k d) (get_or (pickings (part_of node ∷ []) (picks ∷ [])) k r) (get_or (old ∷ []) k f) (get_or (new ∷ []) k f)
  each_filled sv so ss zero d r f h = has_bytes (part_of node) v (places_of a) low room.few old new long e sv so ss
  each_filled sv so ss (suc k) d r f h = absurd (omega arith)

  pub filled : new.valid ≡ old.valid → new.offsets ≡ old.offsets → new.sizes ≡ old.sizes → AreFilled (node ∷ []) steps (old ∷ []) (new ∷ [])
  filled sv so ss = record { picks = picks; composed = composed; taken = refl; bytes = record { bytes = each_filled sv so ss } }

-- the same over any list of one node
pub answer_of_one : (nodes : List Node) (d : Node) (steps : List StepParts) (a : KnownPicks) (old new : Room) → length nodes ≡ 1 → HasValues (part_of (get_or nodes 0 d)) → HasRoomFor (part_of (get_or nodes 0 d)) (places_of a) old
    → length new.values.now ≡ length old.values.now → IsAlone (get_or nodes 0 d).len steps a
    → AreWritten (get_or nodes 0 d).width (get_or nodes 0 d).values.now (get_or nodes 0 d).offset (places_of a) old.values.now new.values.now
    → IsSelected nodes steps (new ∷ [])
answer_of_one [] d steps a old new one v room long is e = absurd (omega arith)
answer_of_one (x ∷ []) d steps a old new one v room long is e = selected x steps a old new v room long is e
answer_of_one (x ∷ y ∷ nodes) d steps a old new one v room long is e = absurd (omega arith)

composed_alone : (n : ℕ) (steps : List StepParts) (a : KnownPicks) → IsAlone n steps a → AreComposed n steps (record { picks = map Some (places_of a); nullable = false; kept = false })
composed_alone n steps a is = subst (λ (w : Walk). IfPicks w (λ l. map Some (places_of a) ≡ l)) (sym (alone_walk n steps a is)) refl

pub needs_of_one : (nodes : List Node) (d : Node) (steps : List StepParts) (a : KnownPicks) → length nodes ≡ 1 → HasValues (part_of (get_or nodes 0 d)) → IsAlone (get_or nodes 0 d).len steps a
    → AreNeeds nodes steps (record { len = length (places_of a); valid = 0; offsets = 0; values = length (places_of a) * (get_or nodes 0 d).width; sizes = 0 } ∷ [])
needs_of_one [] d steps a one v is = absurd (omega arith)
needs_of_one (x ∷ []) d steps a one v is = record {
  picks = record { picks = map Some (places_of a); nullable = false; kept = false };
  composed = composed_alone x.len steps a is;
  needs_are = sym (ap (λ (n : Need). n ∷ []) (one_need (part_of x) v (places_of a)));
}
needs_of_one (x ∷ y ∷ nodes) d steps a one v is = absurd (omega arith)

pub filled_of_one : (nodes : List Node) (d : Node) (steps : List StepParts) (a : KnownPicks) (old new : Room) → length nodes ≡ 1 → HasValues (part_of (get_or nodes 0 d)) → HasRoomFor (part_of (get_or nodes 0 d)) (places_of a) old
    → length new.values.now ≡ length old.values.now → IsAlone (get_or nodes 0 d).len steps a
    → AreWritten (get_or nodes 0 d).width (get_or nodes 0 d).values.now (get_or nodes 0 d).offset (places_of a) old.values.now new.values.now
    → new.valid ≡ old.valid → new.offsets ≡ old.offsets → new.sizes ≡ old.sizes → AreFilled nodes steps (old ∷ []) (new ∷ [])
filled_of_one [] d steps a old new one v room long is e sv so ss = absurd (omega arith)
filled_of_one (x ∷ []) d steps a old new one v room long is e sv so ss = filled x steps a old new v room long is e sv so ss
filled_of_one (x ∷ y ∷ nodes) d steps a old new one v room long is e sv so ss = absurd (omega arith)

-- ---- lists of one

pub only_item : {X : Type 0} (xs : List X) (d : X) → length xs ≡ 1 → xs ≡ get_or xs 0 d ∷ []
only_item [] d h = absurd (omega arith)
only_item (x ∷ []) d h = refl
only_item (x ∷ y ∷ xs) d h = absurd (omega arith)

pub set_only : {X : Type 0} (xs : List X) (x : X) → length xs ≡ 1 → set xs 0 x ≡ x ∷ []
set_only [] x h = absurd (omega arith)
set_only (y ∷ []) x h = refl
set_only (y ∷ z ∷ xs) x h = absurd (omega arith)

-- rooms whose lists lie where they lay
pub same_lists : (rooms : List Room) → KeepLists rooms rooms
same_lists rooms = record { many = refl; each = λ k d. record { valid = refl; offsets = refl; values = refl; sizes = refl } }
