-- The rooms of all nodes, written one after another.
use Rattle.std.proofs.Common.{zero, suc, ◌≡◌, ℕ, ◌+◌, ◌<◌, ◌≤◌, ◌≢◌, true, false, List, [], ◌∷◌, length, get_or, set, drop, Some, None, ap, ap₂, sym, ◌∙◌, refl, subst, inl, inr, arith, get_or-set_same, get_or-set_other, length-set}
use Rattle.std.proofs.lemmas.Bool.{cases_eq}
use Rattle.std.specs.Prelude.{IsSome, is_some}
use Rattle.std.proofs.lemmas.List.{get_or-map, length-map}
use Rattle.vx_arrow_image.specs.declared.image.Need.{Need}
use Rattle.vx_arrow_image.specs.declared.image.Room.{Room}
use Rattle.vx_arrow_image.specs.declared.image.Node as image
use Rattle.vx_arrow_columns.specs.declared.places.Places.{Places}
use Rattle.vx_arrow_columns.specs.declared.plan.Job.{Job}
use Rattle.vx_arrow_columns.specs.declared.plan.Plan as plans
use Rattle.vx_arrow_image.specs.declared.refusal.Refusal.{Refusal}
use Rattle.vx_arrow_image.specs.declared.refusal.Refusal.TheVariants as refusals
use Rattle.vx_arrow_columns.specs.Answer.{AreKeptSound, AreTaken, HaveRoom, IsPlanRefusal, IsRefusalBy, IsShort, MeansPicked}
use Rattle.vx_arrow_image.specs.Rows.{RowValue, picked}
use Rattle.vx_arrow_image.specs.Image.{Part, column_in, part_of, parts_of}
use Rattle.vx_arrow_columns.specs.Picks.{Picking, need_of, picking_of, pickings, is_union}
use Rattle.vx_arrow_columns.specs.Planned.{Fits, IsPlanned, IsRead, are_trees, first_len, picking_in}
use Rattle.vx_arrow_columns.specs.Read.{rows_read}
use Rattle.vx_arrow_columns.specs.Taken.{AreWithin, IsTaken, IsReadable, AreFull}
use Rattle.vx_arrow_columns.specs.Written.{has_room, written, written_by, written_part}
use Rattle.vx_arrow_columns.proofs.Plans.{planned_at, planned_need}
use Rattle.vx_arrow_columns.proofs.PickedTrees.{rows_picked}
use Rattle.vx_arrow_columns.proofs.ReadTrees.{kept_sound, rows_first, rows_len, rows_meant}
use Rattle.vx_arrow_columns.proofs.SoundTrees.{sound_column}
use Rattle.vx_arrow_columns.proofs.Trees.{AllTaken}

-- the rooms of the nodes before i are written, and the others are large enough
pub record TakenTo (parts : List Part) (qs : List Picking) (needs : List Need) (i : ℕ) (rooms : List Room) : Type 0 where
  pub taken : (k : ℕ) (d : Part) (q : Picking) (r : Room) → k < i → IsTaken (get_or parts k d) (written_part (get_or parts k d) (get_or qs k q) (get_or rooms k r)) (get_or qs k q)
  pub room : (k : ℕ) (d : Need) (r : Room) → i ≤ k → k < length rooms → has_room (get_or needs k d) (get_or rooms k r) ≡ true

pub none_taken : (parts : List Part) (qs : List Picking) (needs : List Need) (rooms : List Room) → HaveRoom needs rooms → TakenTo parts qs needs 0 rooms
none_taken parts qs needs rooms h = record { taken = λ k d q r l. absurd (omega arith); room = λ k d r l b. h.room k d r b }

any_default : {X : Type 0} (xs : List X) (i : ℕ) (d e : X) → i < length xs → get_or xs i d ≡ get_or xs i e
any_default [] i d e h = absurd (omega arith)
any_default (x ∷ xs) zero d e h = refl
any_default (x ∷ xs) (suc i) d e h = any_default xs i d e (omega arith)

pub one_taken : (parts : List Part) (qs : List Picking) (needs : List Need) (i : ℕ) (rooms : List Room) (room : Room) (p : Part) (q : Picking) (e : Part) (f : Picking) → i < length parts → i < length qs → i < length rooms
    → get_or parts i e ≡ p → get_or qs i f ≡ q → IsTaken p (written_part p q room) q → TakenTo parts qs needs i rooms → TakenTo parts qs needs (i + 1) (set rooms i room)
one_taken parts qs needs i rooms room p q e f in_parts in_qs in_rooms at_p at_q own t = record {
  taken = λ k d g r h. elim (cases_eq k i) as (λ _. IsTaken (get_or parts k d) (written_part (get_or parts k d) (get_or qs k g) (get_or (set rooms i room) k r)) (get_or qs k g)) [
    | inl same ↦
        let P : get_or parts k d ≡ p = ap (λ n. get_or parts n d) same ∙ any_default parts i d e in_parts ∙ at_p in
        let Q : get_or qs k g ≡ q = ap (λ n. get_or qs n g) same ∙ any_default qs i g f in_qs ∙ at_q in
        let R : get_or (set rooms i room) k r ≡ room = ap (λ n. get_or (set rooms i room) n r) same ∙ get_or-set_same rooms i room r in_rooms in
        subst (λ (x : Part). IsTaken x (written_part x (get_or qs k g) (get_or (set rooms i room) k r)) (get_or qs k g)) (sym P)
        (subst (λ (y : Picking). IsTaken p (written_part p y (get_or (set rooms i room) k r)) y) (sym Q)
        (subst (λ (z : Room). IsTaken p (written_part p q z) q) (sym R) own))
    | inr other ↦ subst (λ (z : Room). IsTaken (get_or parts k d) (written_part (get_or parts k d) (get_or qs k g) z) (get_or qs k g)) (sym (get_or-set_other rooms i k room r other)) (t.taken k d g r (omega arith))
  ];
  room = λ k d r l b.
      let other : k ≢ i = λ s. absurd (omega arith) in
      ap (λ (z : Room). has_room (get_or needs k d) z) (get_or-set_other rooms i k room r other) ∙ t.room k d r (omega arith) (omega (arith, length-set rooms i room));
}

written_len : (ps : List Part) (qs : List Picking) (rs : List Room) → length qs ≡ length ps → length rs ≡ length ps → length (written_by ps qs rs) ≡ length ps
written_len [] qs rs e f = refl
written_len (p ∷ ps) [] rs e f = absurd (omega arith)
written_len (p ∷ ps) (q ∷ qs) [] e f = absurd (omega arith)
written_len (p ∷ ps) (q ∷ qs) (r ∷ rs) e f = omega (arith, written_len ps qs rs (omega arith) (omega arith))

written_at : (ps : List Part) (qs : List Picking) (rs : List Room) (k : ℕ) (d e : Part) (q : Picking) (r : Room) → length qs ≡ length ps → length rs ≡ length ps → k < length ps
    → get_or (written_by ps qs rs) k e ≡ written_part (get_or ps k d) (get_or qs k q) (get_or rs k r)
written_at [] qs rs k d e q r m n h = absurd (omega arith)
written_at (p ∷ ps) [] rs k d e q r m n h = absurd (omega arith)
written_at (p ∷ ps) (x ∷ qs) [] k d e q r m n h = absurd (omega arith)
written_at (p ∷ ps) (x ∷ qs) (y ∷ rs) zero d e q r m n h = refl
written_at (p ∷ ps) (x ∷ qs) (y ∷ rs) (suc k) d e q r m n h = written_at ps qs rs k d e q r (omega arith) (omega arith) (omega arith)

some_room : (rs : List Room) (n : ℕ) → n < length rs → Room
some_room [] n h = absurd (omega arith)
some_room (r ∷ rs) n h = r

pub all_taken : (parts : List Part) (q : Picking) (needs : List Need) (i : ℕ) (rooms : List Room) → are_trees parts 1 ≡ true → length (pickings parts (q ∷ [])) ≡ length parts → length rooms ≡ length parts → length parts ≤ i
    → ((k : ℕ) (d : Part) (r : Picking) → k < length parts → IsRead (get_or parts k d) (get_or (pickings parts (q ∷ [])) k r) (drop (k + 1) parts))
    → TakenTo parts (pickings parts (q ∷ [])) needs i rooms → AreTaken parts q rooms
all_taken parts q needs i rooms tree same count all read t =
    let qs = pickings parts (q ∷ []) in
    record {
      tree = tree;
      len = written_len parts qs rooms same count;
      taken = λ k d e r h.
          let z = some_room rooms k (omega arith) in
          subst (λ (w : Part). IsTaken (get_or parts k d) w (get_or qs k r)) (sym (written_at parts qs rooms k d e r z same count h)) (t.taken k d r z (omega arith));
      read = read;
    }

-- ---- a node of a plan

-- own are the picks of node i
pub record IsOwn (nodes : List image.Node) (ps vs : List ℕ) (plan : plans.Plan) (i : ℕ) (own : Picking) : Type 0 where
  pub low : i < length nodes
  pub job : Job
  pub at : get_or plan.jobs.items i job ≡ job
  pub is : own ≡ picking_in ps vs plan.lists.items job

pub own_from : (nodes : List image.Node) (ps vs : List ℕ) (plan : plans.Plan) (i : ℕ) (lists : List Places) (job : Job) (own : Picking) → i < length nodes → lists ≡ plan.lists.items → job ≡ get_or plan.jobs.items i job → own ≡ picking_in ps vs lists job
    → IsOwn nodes ps vs plan i own
own_from nodes ps vs plan i lists job own low same at is = record { low = low; job = job; at = sym at; is = is ∙ ap (λ (l : List Places). picking_in ps vs l job) same }

part_at : (nodes : List image.Node) (i : ℕ) (d : image.Node) → i < length nodes → get_or (parts_of nodes) i (part_of d) ≡ part_of (get_or nodes i d)
part_at nodes i d h = get_or-map part_of nodes i d (part_of d) h

pub node_readable : (nodes : List image.Node) (ps vs : List ℕ) (plan : plans.Plan) (i : ℕ) (d : image.Node) (own : Picking) → IsPlanned (parts_of nodes) ps vs plan → IsOwn nodes ps vs plan i own → own.kept ≡ false → IsReadable (part_of (get_or nodes i d)) own.picks
node_readable nodes ps vs plan i d own planned o bare =
    let low = o.low in
    let read = planned.read i o.job (part_of d) (omega (arith, planned.len, length-map nodes part_of)) in
    let q : picking_in ps vs plan.lists.items (get_or plan.jobs.items i o.job) ≡ own = ap (picking_in ps vs plan.lists.items) o.at ∙ sym o.is in
    subst (λ (p : Part). IsReadable p own.picks) (part_at nodes i d low)
    (subst (λ (r : Picking). IsReadable (get_or (parts_of nodes) i (part_of d)) r.picks) q
    (read.readable (ap (λ (r : Picking). r.kept) q ∙ bare)))

-- runs serve it, where its picks are such
pub job_fits : (nodes : List image.Node) (ps vs : List ℕ) (plan : plans.Plan) (i : ℕ) (lists : List Places) (job : Job) (d : image.Node) → i < length nodes → lists ≡ plan.lists.items → job ≡ get_or plan.jobs.items i job → IsPlanned (parts_of nodes) ps vs plan
    → Fits (part_of (get_or nodes i d)) lists job
job_fits nodes ps vs plan i lists job d low same at planned =
    let fits = planned.fits i job (part_of d) (omega (arith, planned.len, length-map nodes part_of)) in
    let p = part_of (get_or nodes i d) in
    subst (λ (l : List Places). Fits p l job) (sym same)
    (subst (λ (j : Job). Fits p plan.lists.items j) (sym at) (subst (λ (r : Part). Fits r plan.lists.items (get_or plan.jobs.items i job)) (part_at nodes i d low) fits))

-- each node of a plan can be read at its picks
pub all_read : (parts : List Part) (ps vs : List ℕ) (plan : plans.Plan) → IsPlanned parts ps vs plan
    → (k : ℕ) (d : Part) (r : Picking) → k < length parts → IsRead (get_or parts k d) (get_or (pickings parts (picking_of ps vs 0 ∷ [])) k r) (drop (k + 1) parts)
all_read parts ps vs plan planned k d r h =
    let job : Job = record { list = None; add = 0; end = 0; kept = false } in
    subst (λ (q : Picking). IsRead (get_or parts k d) q (drop (k + 1) parts)) (sym (planned_at parts ps vs plan k job r planned h)) (planned.read k job d (omega (arith, planned.len)))

pub node_room : (nodes : List image.Node) (ps vs : List ℕ) (plan : plans.Plan) (rooms : List Room) (i : ℕ) (d : image.Node) (n : Need) (r : Room) (own : Picking) → IsPlanned (parts_of nodes) ps vs plan → IsOwn nodes ps vs plan i own
    → has_room (get_or plan.needs.items i n) (get_or rooms i r) ≡ true → has_room (need_of (part_of (get_or nodes i d)) own) (get_or rooms i r) ≡ true
node_room nodes ps vs plan rooms i d n r own planned o room =
    let low = o.low in
    sym (ap (λ (m : Need). has_room m (get_or rooms i r))
    (planned_need (parts_of nodes) ps vs plan i n (part_of d) o.job planned (omega (arith, length-map nodes part_of))
    ∙ ap₂ need_of (part_at nodes i d low) (ap (picking_in ps vs plan.lists.items) o.at ∙ sym o.is))) ∙ room

pub node_taken : (nodes : List image.Node) (ps vs : List ℕ) (plan : plans.Plan) (rooms : List Room) (room : Room) (i : ℕ) (d : image.Node) (own : Picking) → IsPlanned (parts_of nodes) ps vs plan → IsOwn nodes ps vs plan i own → i < length rooms
    → IsTaken (part_of (get_or nodes i d)) (written_part (part_of (get_or nodes i d)) own room) own → TakenTo (parts_of nodes) (pickings (parts_of nodes) (picking_of ps vs 0 ∷ [])) plan.needs.items i rooms
    → TakenTo (parts_of nodes) (pickings (parts_of nodes) (picking_of ps vs 0 ∷ [])) plan.needs.items (i + 1) (set rooms i room)
node_taken nodes ps vs plan rooms room i d own planned o in_rooms taken t =
    let parts = parts_of nodes in
    let low = o.low in
    let in_parts : i < length parts = omega (arith, length-map nodes part_of) in
    let q = picking_of ps vs 0 in
    one_taken parts (pickings parts (q ∷ [])) plan.needs.items i rooms room (part_of (get_or nodes i d)) own (part_of d) own in_parts
    (omega (arith, planned.len, ap length planned.picks, length-map plan.jobs.items (picking_in ps vs plan.lists.items))) in_rooms (part_at nodes i d low)
    (planned_at parts ps vs plan i o.job own planned in_parts ∙ ap (picking_in ps vs plan.lists.items) o.at ∙ sym o.is) taken t

-- ---- the whole table

every : (parts : List Part) (q : Picking) (rooms : List Room) → AreTaken parts q rooms → AllTaken parts (written parts q rooms) (q ∷ [])
every parts q rooms a = record { len = a.len; within = λ k d r h. let read = a.read k d r h in read.within; taken = a.taken; inside = λ k d r h own. let read = a.read k d r h in read.inside own }

pub means_some : (parts : List Part) (q : Picking) (rooms : List Room) → AreTaken parts q rooms → AreKeptSound parts q → IsSome (column_in (written parts q rooms))
means_some parts q rooms a kept = let there = sound_column parts (written parts q rooms) q a.tree (every parts q rooms a) (record { sound = kept.sound }) in ap is_some there.1

pub means_picked : (nodes : List image.Node) (q : Picking) (rooms : List Room) → q.kept ≡ false → (is_union (parts_of nodes) ≡ true → AreFull q.picks) → AreTaken (parts_of nodes) q rooms → AreWithin q.picks (first_len nodes) → MeansPicked (parts_of nodes) q rooms
means_picked nodes q rooms own full a w =
    let parts = parts_of nodes in
    let new = written parts q rooms in
    let all = every parts q rooms a in
    let rows = rows_picked parts new q own full a.tree all in
    let read : AreKeptSound parts q → column_in new ≡ Some (picked q.picks (rows_read parts)) = λ kept.
    let there = sound_column parts new q a.tree all (record { sound = kept.sound }) in
    there.1 ∙ ap Some (sym (rows_meant new there.0 there.1) ∙ rows) in
    record {
      reach = subst (AreWithin q.picks) (sym (rows_len nodes)) w;
      rows = rows;
      read = read;
      meant = rows_meant parts;
      within = λ rows e. subst (AreWithin q.picks) (sym (rows_first nodes rows e)) w;
      picked = λ rows e. read (kept_sound parts q rows e) ∙ ap (λ (l : List RowValue). Some (picked q.picks l)) (rows_meant parts rows e);
    }

-- ---- refusals

-- what a plan's refusal says, whatever is short
pub refused_by : (nodes : List image.Node) (q : Picking) (short : ℕ → Type 0) (refusal : Refusal) → IsPlanRefusal (parts_of nodes) q (first_len nodes) refusal → IsRefusalBy (parts_of nodes) q short refusal
refused_by nodes q short (refusals.NoMeaning node lack) h = h
refused_by nodes q short refusals.Beyond h = λ w. h (subst (AreWithin q.picks) (rows_len nodes) w)
refused_by nodes q short refusals.NullPick h = h
refused_by nodes q short (refusals.Room node) h = absurd h
refused_by nodes q short (refusals.Overflow node) h = h
refused_by nodes q short refusals.NoMemory h = tt

pub short_of : (needs all : List Need) (rooms : List Room) (k : ℕ) → needs ≡ all → IsShort needs rooms k → IsShort all rooms k
short_of needs all rooms k e s = subst (λ (n : List Need). IsShort n rooms k) e s

-- the only need
pub only_set : (old : List Need) (x : Need) → length old ≡ 1 → set old 0 x ≡ x ∷ []
only_set [] x h = absurd (omega arith)
only_set (y ∷ []) x h = refl
only_set (y ∷ z ∷ old) x h = absurd (omega arith)
