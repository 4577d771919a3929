-- The bytes of rooms, written one after another.
use Rattle.std.proofs.Common.{◌≡◌, ℕ, ◌+◌, ◌*◌, ◌/◌, ◌%◌, ◌<◌, ◌≤◌, Bool, true, false, cond, eqb, List, [], ◌∷◌, length, get_or, set, take, Option, Some, None, ap, ap₂, leb, sym, ◌∙◌, refl, subst, inl, inr, arith, get_or-set_same, get_or-set_other}
use Rattle.std.proofs.lemmas.Bool.{and_parts, cases_eq, leb-true}
use Rattle.std.proofs.lemmas.List.Elements.{All-get_or}
use Rattle.std.proofs.lemmas.List.{get_or-map, get_or-take, get_or_default, length-map, take-take}
use Rattle.vx_arrow_image.specs.declared.format.Format.{Format}
use Rattle.vx_arrow_image.specs.declared.format.Format.TheVariants.{Nulls, Bits, Fixed, Text, Struct, List as Lists, FixedList, TextView, ListView, Union, DenseUnion}
use Rattle.vx_arrow_image.specs.declared.format.Offsets.{Offsets}
use Rattle.vx_arrow_image.specs.declared.format.Offsets.TheVariants.{Short, Long}
use Rattle.std.specs.Int.{bit_at, from_le_bytes, w32, w64}
use Rattle.std.specs.Prelude.{is_some, ◌&&◌}
use Rattle.std.proofs.Math.Nat.{mul_comm}
use Rattle.vx_arrow_image.specs.declared.image.Need.{Need}
use Rattle.vx_arrow_image.specs.declared.image.Node as image
use Rattle.vx_arrow_image.specs.declared.image.Room.{Room}
use Rattle.vx_arrow_image.specs.Image.{Part, bit_of, offset_at, part_of, parts_of, size_of}
use Rattle.vx_arrow_columns.specs.declared.places.Places.{Places}
use Rattle.vx_arrow_columns.specs.declared.plan.Job as jobs
use Rattle.vx_arrow_columns.specs.declared.plan.Plan as plans
use Rattle.vx_arrow_columns.specs.Bytes.{AreBitsOf, AreBytes, AreBytesOf, AreOffsetsOf, AreSizesOf, AreValuesOf, HasBytes, HaveBytes, KeepsPast}
use Rattle.vx_arrow_columns.specs.Picks.{Picking, all_rows, bytes_for, items_len, need_of, offsets_len, own_need, picking_of, picks_of, pickings, shows_valid, sizes_len, values_len}
use Rattle.vx_arrow_columns.specs.Planned.{IsListed, IsPlanned, picking_by, picking_in, places_in, valid_in}
use Rattle.vx_arrow_columns.specs.Taken.{AreDense, AreOffsets, AreTagged, IsNullable, IsReadable, ShowsRows, bit_in}
use Rattle.vx_arrow_columns.proofs.Cuts.{cut_front}
use Rattle.vx_arrow_columns.proofs.Plans.{planned_at, planned_need}
use Rattle.vx_arrow_columns.proofs.Rooms.{none_shown}
use Rattle.vx_arrow_columns.proofs.Steps.{next_place}
use Rattle.vx_arrow_columns.specs.Written.{IsRoomTaken, has_room}
use Rattle.vx_arrow_columns.proofs.TakenBytes.{bytes_taken}
use Rattle.vx_arrow_columns.proofs.Takings.{IsOwn}

-- ---- lists that begin alike

bit_front : (xs : List ℕ) (n j : ℕ) → j < 8 * n → bit_of (take n xs) j ≡ bit_of xs j
bit_front xs n j h = ap (λ x. eqb (bit_at x (j % 8)) 1) (get_or-take n xs (j / 8) 0 (omega arith))

bits_front : (f : Option ℕ → Bool) (p : Part) (q : List (Option ℕ)) (xs : List ℕ) → AreBitsOf f p q (take (bytes_for (length q)) xs) → AreBitsOf f p q xs
bits_front f p q xs b = record { bits = λ j h. sym (bit_front xs (bytes_for (length q)) j h) ∙ b.bits j h }

rows_front : (w : ℕ) (src : List ℕ) (p : Part) (q : List (Option ℕ)) (n : ℕ) (xs : List ℕ) → length q * w ≤ n → AreBytesOf w src p q (take n xs) → AreBytesOf w src p q xs
rows_front w src p q n xs room b = record { rows = λ k h. sym (cut_front xs (k * w) w n (omega (arith, next_place k (length q) w h, room))) ∙ b.rows k h }

offset_front : (z : Offsets) (xs : List ℕ) (n k : ℕ) → size_of z * k + size_of z ≤ n → offset_at z (take n xs) k ≡ offset_at z xs k
unfolding offset_at
offset_front Short xs n k h = ap (from_le_bytes w32) (cut_front xs (4 * k) 4 n h)
offset_front Long xs n k h = ap (from_le_bytes w64) (cut_front xs (8 * k) 8 n h)

offset_room : (z : Offsets) (k n : ℕ) → k < n → size_of z * k + size_of z ≤ size_of z * n
offset_room Short k n h = omega arith
offset_room Long k n h = omega arith

offsets_front : (z : Offsets) (p : Part) (q : List (Option ℕ)) (n : ℕ) (xs : List ℕ) → n ≡ size_of z * (length q + 1) → AreOffsets z p q (length q) (take n xs) → AreOffsets z p q (length q) xs
offsets_front z p q n xs e b = record { ends = λ k h. sym (offset_front z xs n k (omega (arith, e, offset_room z k (length q + 1) (omega arith)))) ∙ b.ends k h }

dense_front : (p : Part) (q : List (Option ℕ)) (n : ℕ) (xs : List ℕ) → n ≡ 4 * length q → AreDense p q (length q) (take n xs) → AreDense p q (length q) xs
dense_front p q n xs e b = record { starts = λ k h. sym (offset_front Short xs n k (omega (arith, e))) ∙ b.starts k h }

ids_front : (p : Part) (q : List (Option ℕ)) (n : ℕ) (xs : List ℕ) → n ≡ length q → AreTagged p q (length q) (take n xs) → AreTagged p q (length q) xs
ids_front p q n xs e b = record { ids = λ k h. sym (get_or-take n xs k 0 (omega (arith, e))) ∙ b.ids k h }

module _ (p : Part) (q : Picking) (v o x s : List ℕ) (nv no nx ns : ℕ) (own : record { len = length q.picks; valid = nv; offsets = no; values = nx; sizes = ns } ≡ own_need p q) (b : AreBytes p q (take nv v) (take no o) (take nx x) (take ns s)) where
  offsets_by : (f : Option Format) → p.format ≡ f → no ≡ offsets_len f (length q.picks) → AreOffsetsOf f p q.picks (take no o) → AreOffsetsOf f p q.picks o
  offsets_by None e n a = tt
  offsets_by (Some Nulls) e n a = tt
  offsets_by (Some Bits) e n a = tt
  offsets_by (Some Fixed) e n a = tt
  offsets_by (Some (Text z)) e n a = offsets_front z p q.picks no o n a
  offsets_by (Some Struct) e n a = tt
  offsets_by (Some (Lists z)) e n a = offsets_front z p q.picks no o n a
  offsets_by (Some FixedList) e n a = tt
  offsets_by (Some TextView) e n a = tt
  offsets_by (Some (ListView z)) e n a = rows_front (size_of z) p.offsets p q.picks no o (omega (arith, n, mul_comm (length q.picks) (size_of z))) a
  offsets_by (Some Union) e n a = tt
  offsets_by (Some DenseUnion) e n a = dense_front p q.picks no o n a

  values_by : (f : Option Format) → p.format ≡ f → nx ≡ values_len f p q.picks → AreValuesOf f p q.picks (take nx x) → AreValuesOf f p q.picks x
  values_by None e n a = tt
  values_by (Some Nulls) e n a = tt
  values_by (Some Bits) e n a = bits_front (bit_in p.values) p q.picks x (subst (λ (m : ℕ). AreBitsOf (bit_in p.values) p q.picks (take m x)) n a)
  values_by (Some Fixed) e n a = rows_front p.width p.values p q.picks nx x (omega (arith, n)) a
  values_by (Some (Text z)) e n a = sym (take-take (items_len z p q.picks) nx x (omega (arith, n))) ∙ a
  values_by (Some Struct) e n a = tt
  values_by (Some (Lists z)) e n a = tt
  values_by (Some FixedList) e n a = tt
  values_by (Some TextView) e n a = rows_front 16 p.values p q.picks nx x (omega (arith, n)) a
  values_by (Some (ListView z)) e n a = tt
  values_by (Some Union) e n a = ids_front p q.picks nx x n a
  values_by (Some DenseUnion) e n a = ids_front p q.picks nx x n a

  sizes_by : (f : Option Format) → p.format ≡ f → ns ≡ sizes_len f p (length q.picks) → AreSizesOf f p q.picks (take ns s) → AreSizesOf f p q.picks s
  sizes_by None e n a = tt
  sizes_by (Some Nulls) e n a = tt
  sizes_by (Some Bits) e n a = tt
  sizes_by (Some Fixed) e n a = tt
  sizes_by (Some (Text z)) e n a = tt
  sizes_by (Some Struct) e n a = tt
  sizes_by (Some (Lists z)) e n a = tt
  sizes_by (Some FixedList) e n a = tt
  sizes_by (Some TextView) e n a = tt
  sizes_by (Some (ListView z)) e n a = rows_front (size_of z) p.sizes p q.picks ns s (omega (arith, n, mul_comm (length q.picks) (size_of z))) a
  sizes_by (Some Union) e n a = sym (take-take p.children ns s (omega (arith, n))) ∙ a
  sizes_by (Some DenseUnion) e n a = sym (take-take p.children ns s (omega (arith, n))) ∙ a

  shown_by : (c : Bool) → nv ≡ cond c (bytes_for (length q.picks)) 0 → c ≡ true → AreBitsOf is_some p q.picks (take nv v) → AreBitsOf is_some p q.picks v
  shown_by true n e a = bits_front is_some p q.picks v (subst (λ (m : ℕ). AreBitsOf is_some p q.picks (take m v)) n a)
  shown_by false n e a = absurd (let f : false ≡ true = e in cc)

  whole : AreBytes p q v o x s
  whole = record {
    valid = λ shown. shown_by (shows_valid p q) (ap (λ (m : Need). m.valid) own) shown (b.valid shown);
    offsets = offsets_by p.format refl (ap (λ (m : Need). m.offsets) own) b.offsets;
    values = values_by p.format refl (ap (λ (m : Need). m.values) own) b.values;
    sizes = sizes_by p.format refl (ap (λ (m : Need). m.sizes) own) b.sizes;
  }

-- lists that begin with lists of the bytes of rows have these too
pub front_bytes : (p : Part) (q : Picking) (need : Need) (v o x s fv fo fx fs : List ℕ) → q.kept ≡ false → need ≡ need_of p q → take need.valid v ≡ fv → take need.offsets o ≡ fo → take need.values x ≡ fx → take need.sizes s ≡ fs → AreBytes p q fv fo fx fs → AreBytes p q v o x s
front_bytes p q need v o x s fv fo fx fs bare is ev eo ex es b =
    let own : need ≡ own_need p q = is ∙ ap (λ (c : Bool). cond c (record { len = p.len; valid = 0; offsets = 0; values = 0; sizes = 0 }) (own_need p q)) bare in
    let lens : record { len = length q.picks; valid = need.valid; offsets = need.offsets; values = need.values; sizes = need.sizes } ≡ own_need p q = ap (λ (m : Need). record { len = length q.picks; valid = m.valid; offsets = m.offsets; values = m.values; sizes = m.sizes }) own in
    whole p q v o x s need.valid need.offsets need.values need.sizes lens
    (subst (λ (l : List ℕ). AreBytes p q l (take need.offsets o) (take need.values x) (take need.sizes s)) (sym ev)
    (subst (λ (l : List ℕ). AreBytes p q fv l (take need.values x) (take need.sizes s)) (sym eo)
    (subst (λ (l : List ℕ). AreBytes p q fv fo l (take need.sizes s)) (sym ex)
    (subst (λ (l : List ℕ). AreBytes p q fv fo fx l) (sym es) b))))

-- ---- the picks of a job

by_shows : (p : Part) (ps vs : List ℕ) (ls : List Places) (o : Option ℕ) (add : ℕ) → IsNullable p.format → shows_valid p (picking_by ps vs ls o add) ≡ false → ShowsRows p (picking_by ps vs ls o add).picks []
by_shows p ps vs ls None add some none = subst (λ (b : Bool). ShowsRows p (picks_of ps vs add) (cond b [] [])) none (none_shown p ps vs add [] some none)
by_shows p ps vs ls (Some k) add some none = subst (λ (b : Bool). ShowsRows p (picks_of (places_in ls k) (valid_in ls k) add) (cond b [] [])) none (none_shown p (places_in ls k) (valid_in ls k) add [] some none)

kept_shows : (p : Part) (ps vs : List ℕ) (ls : List Places) (o : Option ℕ) (add : ℕ) (b : Bool) → (cond b all_rows (picking_by ps vs ls o add)).kept ≡ false → IsNullable p.format → shows_valid p (cond b all_rows (picking_by ps vs ls o add)) ≡ false → ShowsRows p (cond b all_rows (picking_by ps vs ls o add)).picks []
kept_shows p ps vs ls o add true bare some none = absurd (let f : true ≡ false = bare in cc)
kept_shows p ps vs ls o add false bare some none = by_shows p ps vs ls o add some none

-- where no validity is written all rows at them are there
pub job_shows : (p : Part) (ps vs : List ℕ) (ls : List Places) (job : jobs.Job) → (picking_in ps vs ls job).kept ≡ false → IsNullable p.format → shows_valid p (picking_in ps vs ls job) ≡ false → ShowsRows p (picking_in ps vs ls job).picks []
unfolding picking_in
job_shows p ps vs ls job bare some none = kept_shows p ps vs ls job.list job.add job.kept bare some none

-- ---- one room

-- each list of a room is as large as the need
pub record IsLarge (n : Need) (r : Room) : Type 0 where
  pub valid : n.valid ≤ length r.valid.now
  pub offsets : n.offsets ≤ length r.offsets.now
  pub values : n.values ≤ length r.values.now
  pub sizes : n.sizes ≤ length r.sizes.now

pub roomed : (n : Need) (r : Room) → has_room n r ≡ true → IsLarge n r
roomed n r h =
    let first = and_parts (leb n.valid (length r.valid.now)) _ h in
    let rest = and_parts (leb n.offsets (length r.offsets.now)) _ first.1 in
    let last = and_parts (leb n.values (length r.values.now)) _ rest.1 in
    record { valid = leb-true _ _ first.0; offsets = leb-true _ _ rest.0; values = leb-true _ _ last.0; sizes = leb-true _ _ last.1 }

pub room_bytes : (p : Part) (q : Picking) (need : Need) (old new : Room) → need ≡ need_of p q → (q.kept ≡ false → AreBytes p q new.valid.now new.offsets.now new.values.now new.sizes.now) → KeepsPast need.valid old.valid.now new.valid.now → KeepsPast need.offsets old.offsets.now new.offsets.now → KeepsPast need.values old.values.now new.values.now → KeepsPast need.sizes old.sizes.now new.sizes.now
    → HasBytes p q old new
room_bytes p q need old new is rows v o x s = record {
  rows = rows;
  valid = subst (λ (n : Need). KeepsPast n.valid old.valid.now new.valid.now) is v;
  offsets = subst (λ (n : Need). KeepsPast n.offsets old.offsets.now new.offsets.now) is o;
  values = subst (λ (n : Need). KeepsPast n.values old.values.now new.values.now) is x;
  sizes = subst (λ (n : Need). KeepsPast n.sizes old.sizes.now new.sizes.now) is s;
}

same_room : (n : Need) (old new : Room) → length new.valid.now ≡ length old.valid.now → length new.offsets.now ≡ length old.offsets.now → length new.values.now ≡ length old.values.now → length new.sizes.now ≡ length old.sizes.now → has_room n new ≡ has_room n old
same_room n old new a b c d =
    ap₂ (λ (v : ℕ) (o : ℕ). leb n.valid v && (leb n.offsets o && (leb n.values (length new.values.now) && leb n.sizes (length new.sizes.now)))) a b
    ∙ ap₂ (λ (x : ℕ) (s : ℕ). leb n.valid (length old.valid.now) && (leb n.offsets (length old.offsets.now) && (leb n.values x && leb n.sizes s))) c d

pub same_need : (n m : Need) (rooms : List Room) (i : ℕ) (r : Room) → n ≡ m → has_room m (get_or rooms i r) ≡ true → has_room n (get_or rooms i r) ≡ true
same_need n m rooms i r e h = ap (λ (x : Need). has_room x (get_or rooms i r)) e ∙ h

-- it has the rows too
pub room_taken : (p : Part) (q : Picking) (need : Need) (old new : Room) → need ≡ need_of p q → has_room need old ≡ true → (q.kept ≡ false → IsReadable p q.picks) → (q.kept ≡ false → IsNullable p.format → shows_valid p q ≡ false → ShowsRows p q.picks []) → HasBytes p q old new → IsRoomTaken p q new
room_taken p q need old new is room readable none h =
    bytes_taken p q new q.kept refl readable
    (same_room (need_of p q) old new h.valid.long h.offsets.long h.values.long h.sizes.long ∙ ap (λ (n : Need). has_room n old) (sym is) ∙ room) none h.rows

-- ---- the rooms of all nodes

-- the rooms of the nodes before i have their bytes, and the others are as they were
pub record BytesTo (parts : List Part) (qs : List Picking) (i : ℕ) (old rooms : List Room) : Type 0 where
  pub bytes : (k : ℕ) (d : Part) (q : Picking) (r : Room) → k < i → HasBytes (get_or parts k d) (get_or qs k q) (get_or old k r) (get_or rooms k r)
  pub same : (k : ℕ) (r : Room) → i ≤ k → get_or rooms k r ≡ get_or old k r

pub no_bytes : (parts : List Part) (qs : List Picking) (rooms : List Room) → BytesTo parts qs 0 rooms rooms
no_bytes parts qs rooms = record { bytes = λ k d q r h. absurd (omega (arith, h)); same = λ k r h. refl }

one_more : (parts : List Part) (qs : List Picking) (i : ℕ) (old rooms : List Room) (room : Room) (p : Part) (q : Picking) (d : Part) (f : Picking) (e : Room) → i < length parts → i < length qs → i < length rooms
    → get_or parts i d ≡ p → get_or qs i f ≡ q → HasBytes p q (get_or rooms i e) room → BytesTo parts qs i old rooms → BytesTo parts qs (i + 1) old (set rooms i room)
one_more parts qs i old rooms room p q d f e in_parts in_qs in_rooms at_p at_q own t = record {
  bytes = λ k g h r l. elim (cases_eq k i) as (λ _. HasBytes (get_or parts k g) (get_or qs k h) (get_or old k r) (get_or (set rooms i room) k r)) [
    | inl here ↦
        let P : get_or parts k g ≡ p = ap (λ n. get_or parts n g) here ∙ sym (get_or_default parts i d g in_parts) ∙ at_p in
        let Q : get_or qs k h ≡ q = ap (λ n. get_or qs n h) here ∙ sym (get_or_default qs i f h in_qs) ∙ at_q in
        let O : get_or old k r ≡ get_or rooms i e = ap (λ n. get_or old n r) here ∙ sym (t.same i r (omega arith)) ∙ sym (get_or_default rooms i e r in_rooms) in
        let R : get_or (set rooms i room) k r ≡ room = ap (λ n. get_or (set rooms i room) n r) here ∙ get_or-set_same rooms i room r in_rooms in
        subst (λ (x : Part). HasBytes x (get_or qs k h) (get_or old k r) (get_or (set rooms i room) k r)) (sym P)
        (subst (λ (y : Picking). HasBytes p y (get_or old k r) (get_or (set rooms i room) k r)) (sym Q)
        (subst (λ (z : Room). HasBytes p q z (get_or (set rooms i room) k r)) (sym O)
        (subst (λ (z : Room). HasBytes p q (get_or rooms i e) z) (sym R) own)))
    | inr other ↦ subst (λ (z : Room). HasBytes (get_or parts k g) (get_or qs k h) (get_or old k r) z) (sym (get_or-set_other rooms i k room r other)) (t.bytes k g h r (omega arith))
  ];
  same = λ k r h. get_or-set_other rooms i k room r (λ s. absurd (omega (arith, s, h))) ∙ t.same k r (omega arith);
}

pub node_bytes : (nodes : List image.Node) (ps vs : List ℕ) (plan : plans.Plan) (old rooms : List Room) (room e : Room) (i : ℕ) (d : image.Node) (own : Picking) → IsPlanned (parts_of nodes) ps vs plan → IsOwn nodes ps vs plan i own → i < length rooms
    → HasBytes (part_of (get_or nodes i d)) own (get_or rooms i e) room → BytesTo (parts_of nodes) (pickings (parts_of nodes) (picking_of ps vs 0 ∷ [])) i old rooms
    → BytesTo (parts_of nodes) (pickings (parts_of nodes) (picking_of ps vs 0 ∷ [])) (i + 1) old (set rooms i room)
node_bytes nodes ps vs plan old rooms room e i d own planned o in_rooms bytes t =
    let parts = parts_of nodes in
    let low = o.low in
    let in_parts : i < length parts = omega (arith, length-map nodes part_of) in
    one_more parts (pickings parts (picking_of ps vs 0 ∷ [])) i old rooms room (part_of (get_or nodes i d)) own (part_of d) own e in_parts
    (omega (arith, planned.len, ap length planned.picks, length-map plan.jobs.items (picking_in ps vs plan.lists.items))) in_rooms (get_or-map part_of nodes i d (part_of d) low)
    (planned_at parts ps vs plan i o.job own planned in_parts ∙ ap (picking_in ps vs plan.lists.items) o.at ∙ sym o.is) bytes t

-- the list of a job of a plan is there
pub job_listed : (nodes : List image.Node) (ps vs : List ℕ) (plan : plans.Plan) (i : ℕ) (lists : List Places) (job : jobs.Job) → i < length nodes → lists ≡ plan.lists.items → job ≡ get_or plan.jobs.items i job → IsPlanned (parts_of nodes) ps vs plan → IsListed job (length lists)
job_listed nodes ps vs plan i lists job low same at planned =
    let own = All-get_or (λ (j : jobs.Job). IsListed j (length plan.lists.items)) plan.jobs.items i job (omega (arith, planned.len, length-map nodes part_of)) planned.listed in
    subst (λ (l : List Places). IsListed job (length l)) (sym same) (subst (λ (j : jobs.Job). IsListed j (length plan.lists.items)) (sym at) own)

-- what the needs of a plan say of its node
pub node_need : (nodes : List image.Node) (ps vs : List ℕ) (plan : plans.Plan) (i : ℕ) (d : image.Node) (n : Need) (own : Picking) → IsPlanned (parts_of nodes) ps vs plan → IsOwn nodes ps vs plan i own → get_or plan.needs.items i n ≡ need_of (part_of (get_or nodes i d)) own
node_need nodes ps vs plan i d n own planned o =
    let low = o.low in
    planned_need (parts_of nodes) ps vs plan i n (part_of d) o.job planned (omega (arith, length-map nodes part_of))
    ∙ ap (λ (p : Part). need_of p (picking_in ps vs plan.lists.items (get_or plan.jobs.items i o.job))) (get_or-map part_of nodes i d (part_of d) low)
    ∙ ap (need_of (part_of (get_or nodes i d))) (ap (picking_in ps vs plan.lists.items) o.at ∙ sym o.is)

pub all_bytes : (parts : List Part) (q : Picking) (i : ℕ) (old rooms : List Room) → length parts ≤ i → BytesTo parts (pickings parts (q ∷ [])) i old rooms → HaveBytes parts q old rooms
all_bytes parts q i old rooms all t = record { bytes = λ k d r e h. t.bytes k d r e (omega (arith, h, all)) }
