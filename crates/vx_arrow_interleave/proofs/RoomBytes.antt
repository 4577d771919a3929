-- The bytes of rooms, written one after another.
use Rattle.std.proofs.Common.{suc, ◌≡◌, ℕ, ◌+◌, ◌*◌, ◌/◌, ◌%◌, ◌<◌, ◌≤◌, Bool, true, cond, eqb, List, [], ◌∷◌, length, get_or, set, take, Option, Some, None, ap, ap₂, sym, ◌∙◌, refl, subst, inl, inr, arith, get_or-set_same, get_or-set_other}
use Rattle.std.specs.Int.{bit_at, from_le_bytes, w32, w64}
use Rattle.std.proofs.lemmas.Bool.{cases_eq}
use Rattle.std.proofs.lemmas.List.{get_or-map, get_or-take, get_or_default, length-map, take-take}
use Rattle.vx_arrow_image.specs.declared.format.Format.{Format}
use Rattle.vx_arrow_image.specs.declared.format.Format.TheVariants.{Nulls, Bits, Fixed, Text, Struct, List as Lists, FixedList, TextView, ListView, Union, DenseUnion}
use Rattle.vx_arrow_image.specs.declared.format.Offsets.{Offsets}
use Rattle.vx_arrow_image.specs.declared.format.Offsets.TheVariants.{Short, Long}
use Rattle.vx_arrow_image.specs.declared.image.Need.{Need}
use Rattle.vx_arrow_image.specs.declared.image.Room.{Room}
use Rattle.vx_arrow_image.specs.Image.{Part, bit_of, offset_at, parts_of, size_of}
use Rattle.vx_arrow_columns.specs.Answer.{HaveRoom}
use Rattle.vx_arrow_columns.specs.Picks.{bytes_for, offsets_len, sizes_len}
use Rattle.vx_arrow_columns.specs.Written.{KeepLists, has_room}
use Rattle.vx_arrow_columns.proofs.Cuts.{cut_front}
use Rattle.vx_arrow_interleave.specs.declared.planning.Job as job_type
use Rattle.vx_arrow_interleave.specs.declared.planning.Plan as plans
use Rattle.vx_arrow_interleave.specs.declared.sources.Group.{Group}
use Rattle.vx_arrow_interleave.specs.declared.writing.BitsOf.TheVariants.{Validity}
use Rattle.vx_arrow_interleave.specs.Bytes.{AreBits, AreBytes, AreOffsets, AreOffsetsOf, AreSizesOf, AreValuesOf, bit_in}
use Rattle.vx_arrow_interleave.specs.Given.{given, items, need_of, needs_by, places, values_len}
use Rattle.vx_arrow_interleave.specs.Planned.{IsDone, IsPlanned, given_by, groups_of}
use Rattle.vx_arrow_interleave.specs.Sources.{part_at}
use Rattle.vx_arrow_interleave.specs.Spots.{Spot}
use Rattle.vx_arrow_interleave.specs.Views.{AreSizes, AreStarts}
use Rattle.vx_arrow_interleave.specs.Taken.{HasBytes, HaveBytes, IsWritable}
use Rattle.vx_arrow_interleave.proofs.JoinedRows.{length_places}

-- ---- lists that begin alike

bit_front : (xs : List ℕ) (n j : ℕ) → j < 8 * n → bit_of (take n xs) j ≡ bit_of xs j
bit_front xs n j h = ap (λ x. eqb (bit_at x (j % 8)) 1) (get_or-take n xs (j / 8) 0 (omega arith))

bits_front : (f : Spot → Bool) (ss : List Spot) (n : ℕ) (xs : List ℕ) → n ≡ bytes_for (length ss) → AreBits f ss (take n xs) → AreBits f ss xs
bits_front f ss n xs e b = record { bits = λ j h. sym (bit_front xs n j (omega (arith, e, h))) ∙ b.bits j h }

offset_front : (z : Offsets) (xs : List ℕ) (n k : ℕ) → size_of z * k + size_of z ≤ n → offset_at z (take n xs) k ≡ offset_at z xs k
unfolding offset_at
offset_front Short xs n k h = ap (from_le_bytes w32) (cut_front xs (4 * k) 4 n h)
offset_front Long xs n k h = ap (from_le_bytes w64) (cut_front xs (8 * k) 8 n h)

offset_room : (z : Offsets) (k n : ℕ) → k < n → size_of z * k + size_of z ≤ size_of z * n
offset_room Short k n h = omega arith
offset_room Long k n h = omega arith

offsets_front : (z : Offsets) (ps : List Part) (ss : List Spot) (n : ℕ) (xs : List ℕ) → n ≡ size_of z * (length ss + 1) → AreOffsets z ps ss (take n xs) → AreOffsets z ps ss xs
offsets_front z ps ss n xs e b = record { ends = λ k h. sym (offset_front z xs n k (omega (arith, e, offset_room z k (length ss + 1) (omega arith)))) ∙ b.ends k h }

starts_front : (z : Offsets) (ps : List Part) (ss : List Spot) (n : ℕ) (xs : List ℕ) → n ≡ size_of z * length ss → AreStarts z ps ss (take n xs) → AreStarts z ps ss xs
starts_front z ps ss n xs e b = record { starts = λ k h. sym (offset_front z xs n k (omega (arith, e, offset_room z k (length ss) h))) ∙ b.starts k h }

sizes_front : (z : Offsets) (ps : List Part) (ss : List Spot) (n : ℕ) (xs : List ℕ) → n ≡ size_of z * length ss → AreSizes z ps ss (take n xs) → AreSizes z ps ss xs
sizes_front z ps ss n xs e b = record { sizes = λ k h. sym (offset_front z xs n k (omega (arith, e, offset_room z k (length ss) h))) ∙ b.sizes k h }

offsets_by : (f : Option Format) (ps : List Part) (ss : List Spot) (m n : ℕ) (xs : List ℕ) → m ≡ length ss → n ≡ offsets_len f m → AreOffsetsOf f ps ss (take n xs) → AreOffsetsOf f ps ss xs
offsets_by None ps ss m n xs c e a = tt
offsets_by (Some Nulls) ps ss m n xs c e a = tt
offsets_by (Some Bits) ps ss m n xs c e a = tt
offsets_by (Some Fixed) ps ss m n xs c e a = tt
offsets_by (Some (Text z)) ps ss m n xs c e a = offsets_front z ps ss n xs (e ∙ ap (λ k. size_of z * (k + 1)) c) a
offsets_by (Some Struct) ps ss m n xs c e a = tt
offsets_by (Some (Lists z)) ps ss m n xs c e a = offsets_front z ps ss n xs (e ∙ ap (λ k. size_of z * (k + 1)) c) a
offsets_by (Some FixedList) ps ss m n xs c e a = tt
offsets_by (Some TextView) ps ss m n xs c e a = tt
offsets_by (Some (ListView z)) ps ss m n xs c e a = starts_front z ps ss n xs (e ∙ ap (λ k. size_of z * k) c) a
offsets_by (Some Union) ps ss m n xs c e a = tt
offsets_by (Some DenseUnion) ps ss m n xs c e a = tt

values_by : (f : Option Format) (ps : List Part) (ss : List Spot) (n : ℕ) (xs : List ℕ) → n ≡ values_len f ps ss → AreValuesOf f ps ss (take n xs) → AreValuesOf f ps ss xs
values_by None ps ss n xs e a = tt
values_by (Some Nulls) ps ss n xs e a = tt
values_by (Some Bits) ps ss n xs e a = bits_front _ ss n xs e a
values_by (Some Fixed) ps ss n xs e a = sym (take-take (length ss * (part_at ps 0).width) n xs (omega (arith, e))) ∙ a
values_by (Some (Text z)) ps ss n xs e a = sym (take-take (length (items z ps ss)) n xs (omega (arith, e))) ∙ a
values_by (Some Struct) ps ss n xs e a = tt
values_by (Some (Lists z)) ps ss n xs e a = tt
values_by (Some FixedList) ps ss n xs e a = tt
values_by (Some TextView) ps ss n xs e a = record { bytes = λ k h. sym (cut_front xs (16 * k) 16 n (omega (arith, e, h))) ∙ a.bytes k h }
values_by (Some (ListView z)) ps ss n xs e a = tt
values_by (Some Union) ps ss n xs e a = sym (take-take (length ss) n xs (omega (arith, e))) ∙ a
values_by (Some DenseUnion) ps ss n xs e a = tt

sizes_by : (f : Option Format) (ps : List Part) (ss : List Spot) (m n : ℕ) (xs : List ℕ) → m ≡ length ss → n ≡ sizes_len f (part_at ps 0) m → AreSizesOf f ps ss (take n xs) → AreSizesOf f ps ss xs
sizes_by None ps ss m n xs c e a = tt
sizes_by (Some Nulls) ps ss m n xs c e a = tt
sizes_by (Some Bits) ps ss m n xs c e a = tt
sizes_by (Some Fixed) ps ss m n xs c e a = tt
sizes_by (Some (Text z)) ps ss m n xs c e a = tt
sizes_by (Some Struct) ps ss m n xs c e a = tt
sizes_by (Some (Lists z)) ps ss m n xs c e a = tt
sizes_by (Some FixedList) ps ss m n xs c e a = tt
sizes_by (Some TextView) ps ss m n xs c e a = tt
sizes_by (Some (ListView z)) ps ss m n xs c e a = sizes_front z ps ss n xs (e ∙ ap (λ k. size_of z * k) c) a
sizes_by (Some Union) ps ss m n xs c e a = sym (take-take (part_at ps 0).children n xs (omega (arith, e))) ∙ a
sizes_by (Some DenseUnion) ps ss m n xs c e a = tt

-- lists that begin with lists of the bytes of rows have these too
pub front_bytes : (ps : List Part) (ss : List Spot) (need : Need) (v o x s fv fo fx fs : List ℕ) → need ≡ need_of ps ss → take need.valid v ≡ fv → take need.offsets o ≡ fo → take need.values x ≡ fx → take need.sizes s ≡ fs → AreBytes ps (places ps ss) fv fo fx fs → AreBytes ps (places ps ss) v o x s
front_bytes ps ss need v o x s fv fo fx fs is ev eo ex es b =
    let S = places ps ss in
    let f = (part_at ps 0).format in
    let count : length ss ≡ length S = sym (length_places ps ss) in
    record {
      valid = λ shown. bits_front (bit_in Validity ps) S need.valid v (ap (λ (m : Need). m.valid) is ∙ ap (λ (c : Bool). cond c (bytes_for (length ss)) 0) shown ∙ ap bytes_for count) (subst (AreBits (bit_in Validity ps) S) (sym ev) (b.valid shown));
      offsets = offsets_by f ps S (length ss) need.offsets o count (ap (λ (m : Need). m.offsets) is) (subst (AreOffsetsOf f ps S) (sym eo) b.offsets);
      values = values_by f ps S need.values x (ap (λ (m : Need). m.values) is) (subst (AreValuesOf f ps S) (sym ex) b.values);
      sizes = sizes_by f ps S (length ss) need.sizes s count (ap (λ (m : Need). m.sizes) is) (subst (AreSizesOf f ps S) (sym es) b.sizes);
    }

-- ---- a plan's jobs

groups_len : (groups : List Group) → length (groups_of groups) ≡ length groups
groups_len groups = length-map groups (λ (g : Group). parts_of g.nodes.now)

-- the job of the nodes at one place is done
pub own_done : (m : ℕ) (groups : List Group) (ss : List Spot) (plan : plans.Plan) (i : ℕ) (g : Group) (job : job_type.Job) (need : Need) → IsPlanned m (groups_of groups) ss plan → i < length groups → job ≡ get_or plan.jobs.items i job → need ≡ get_or plan.needs.items i need
    → IsDone m (parts_of (get_or groups i g).nodes.now) job need
own_done m groups ss plan i g job need planned low at wants =
    let ps = get_or (groups_of groups) i [] in
    subst (λ (q : List Part). IsDone m q job need) (get_or-map (λ (x : Group). parts_of x.nodes.now) groups i g [] low)
    (subst (λ (j : job_type.Job). IsDone m ps j need) (sym at)
    (subst (λ (n : Need). IsDone m ps (get_or plan.jobs.items i job) n) (sym wants) (planned.done i job need (omega (arith, groups_len groups)))))

pub done_writable : (m : ℕ) (ps : List Part) (job : job_type.Job) (need : Need) → IsDone m ps job need → IsWritable ps job
done_writable m ps job need d = record { readable = d.readable; rows = d.rows; items = d.items; views = d.views }

needs_len : (gs : List (List Part)) (st : List (List Spot)) → length st ≡ length gs → length (needs_by gs st) ≡ length gs
needs_len [] st h = refl
needs_len (ps ∷ gs) [] h = absurd (omega arith)
needs_len (ps ∷ gs) (ss ∷ st) h = ap suc (needs_len gs st (omega arith))

-- there are as many needs as groups
pub planned_needs : (m : ℕ) (groups : List Group) (ss : List Spot) (plan : plans.Plan) → IsPlanned m (groups_of groups) ss plan → length plan.needs.items ≡ length groups
planned_needs m groups ss plan p =
    let many : length (given (groups_of groups) (ss ∷ [])) ≡ length (groups_of groups) = ap length p.given ∙ length-map plan.jobs.items given_by ∙ p.many in
    ap length p.needs ∙ needs_len (groups_of groups) (given (groups_of groups) (ss ∷ [])) many ∙ groups_len groups

-- the rows of a job are those that are given to its nodes
given_at : (m : ℕ) (groups : List Group) (ss : List Spot) (plan : plans.Plan) (i : ℕ) (job : job_type.Job) → IsPlanned m (groups_of groups) ss plan → i < length groups → job ≡ get_or plan.jobs.items i job
    → get_or (given (groups_of groups) (ss ∷ [])) i [] ≡ given_by job
given_at m groups ss plan i job p low at =
    ap (λ (l : List (List Spot)). get_or l i []) p.given ∙ get_or-map given_by plan.jobs.items i job [] (omega (arith, p.many, groups_len groups)) ∙ sym (ap given_by at)

-- ---- the rooms of all nodes

-- the rooms of the nodes before i have their bytes, and the others are as they were
pub record BytesTo (gs : List (List Part)) (st : List (List Spot)) (i : ℕ) (old rooms : List Room) : Type 0 where
  pub bytes : (k : ℕ) (e : Room) → k < i → HasBytes (get_or gs k []) (get_or st k []) (get_or old k e) (get_or rooms k e)
  pub same : (k : ℕ) (e : Room) → i ≤ k → get_or rooms k e ≡ get_or old k e

pub no_bytes : (gs : List (List Part)) (st : List (List Spot)) (rooms : List Room) → BytesTo gs st 0 rooms rooms
no_bytes gs st rooms = record { bytes = λ k e h. absurd (omega arith); same = λ k e h. refl }

one_more : (gs : List (List Part)) (st : List (List Spot)) (i : ℕ) (old rooms : List Room) (room d : Room) (ps : List Part) (ss : List Spot) → i < length rooms → get_or gs i [] ≡ ps → get_or st i [] ≡ ss → HasBytes ps ss (get_or rooms i d) room → BytesTo gs st i old rooms
    → BytesTo gs st (i + 1) old (set rooms i room)
one_more gs st i old rooms room d ps ss low at_ps at_ss own t = record {
  bytes = λ k e h. elim (cases_eq k i) as (λ _. HasBytes (get_or gs k []) (get_or st k []) (get_or old k e) (get_or (set rooms i room) k e)) [
    | inl here ↦
        let P : get_or gs k [] ≡ ps = ap (λ n. get_or gs n []) here ∙ at_ps in
        let S : get_or st k [] ≡ ss = ap (λ n. get_or st n []) here ∙ at_ss in
        let O : get_or old k e ≡ get_or rooms i d = ap (λ n. get_or old n e) here ∙ sym (t.same i e (omega arith)) ∙ sym (get_or_default rooms i d e low) in
        let R : get_or (set rooms i room) k e ≡ room = ap (λ n. get_or (set rooms i room) n e) here ∙ get_or-set_same rooms i room e low in
        subst (λ (q : List Part). HasBytes q (get_or st k []) (get_or old k e) (get_or (set rooms i room) k e)) (sym P)
        (subst (λ (l : List Spot). HasBytes ps l (get_or old k e) (get_or (set rooms i room) k e)) (sym S)
        (subst (λ (r : Room). HasBytes ps ss r (get_or (set rooms i room) k e)) (sym O)
        (subst (λ (r : Room). HasBytes ps ss (get_or rooms i d) r) (sym R) own)))
    | inr other ↦ subst (λ (r : Room). HasBytes (get_or gs k []) (get_or st k []) (get_or old k e) r) (sym (get_or-set_other rooms i k room e other)) (t.bytes k e (omega arith))
  ];
  same = λ k e h. get_or-set_other rooms i k room e (λ s. absurd (omega arith)) ∙ t.same k e (omega arith);
}

pub more_bytes : (m : ℕ) (groups : List Group) (ss : List Spot) (plan : plans.Plan) (i : ℕ) (g : Group) (job : job_type.Job) (old rooms : List Room) (room d : Room) → IsPlanned m (groups_of groups) ss plan → i < length groups → job ≡ get_or plan.jobs.items i job → i < length rooms
    → HasBytes (parts_of (get_or groups i g).nodes.now) (given_by job) (get_or rooms i d) room → BytesTo (groups_of groups) (given (groups_of groups) (ss ∷ [])) i old rooms
    → BytesTo (groups_of groups) (given (groups_of groups) (ss ∷ [])) (i + 1) old (set rooms i room)
more_bytes m groups ss plan i g job old rooms room d p low at in_rooms own t =
    one_more (groups_of groups) (given (groups_of groups) (ss ∷ [])) i old rooms room d (parts_of (get_or groups i g).nodes.now) (given_by job) in_rooms
    (get_or-map (λ (x : Group). parts_of x.nodes.now) groups i g [] low) (given_at m groups ss plan i job p low at) own t

pub all_bytes : (groups : List Group) (ss : List Spot) (i : ℕ) (old rooms : List Room) → length groups ≤ i → BytesTo (groups_of groups) (given (groups_of groups) (ss ∷ [])) i old rooms → HaveBytes (groups_of groups) ss old rooms
all_bytes groups ss i old rooms all t = record { bytes = λ k e h. t.bytes k e (omega (arith, groups_len groups)) }

-- a room that isn't written yet is as large as its need
pub still_room : (gs : List (List Part)) (st : List (List Spot)) (needs : List Need) (old rooms : List Room) (i : ℕ) (need : Need) (e : Room) → need ≡ get_or needs i need → i < length old → HaveRoom needs old → BytesTo gs st i old rooms → has_room need (get_or rooms i e) ≡ true
still_room gs st needs old rooms i need e at low h t = ap₂ has_room at (t.same i e (omega arith)) ∙ h.room i need e low

pub no_kept : (rooms : List Room) → KeepLists rooms rooms
no_kept rooms = record { many = refl; each = λ k d. record { valid = refl; offsets = refl; values = refl; sizes = refl } }
