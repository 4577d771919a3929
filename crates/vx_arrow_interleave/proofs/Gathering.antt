-- The tables that joined rows are.
use Rattle.std.proofs.Common.{zero, suc, ◌≡◌, ℕ, ◌+◌, ◌*◌, ◌<◌, ◌≤◌, Bool, true, cond, List, [], ◌∷◌, ◌++◌, length, get_or, take, drop, map, Option, Some, None, ap, ap₂, sym, ◌∙◌, refl, subst, arith, length-append}
use Rattle.std.specs.Option.{option_and_then}
use Rattle.std.proofs.lemmas.Bool.{and_parts, leb-true}
use Rattle.std.proofs.lemmas.List.{drop-map, get_or-map, length-map, take-map}
use Rattle.vx_arrow_image.specs.declared.format.Format.{Format}
use Rattle.vx_arrow_image.specs.declared.format.Format.TheVariants.{Nulls, Bits, Fixed, Text, Struct, List as Lists, FixedList, TextView, ListView, Union, DenseUnion}
use Rattle.vx_arrow_image.specs.declared.image.Room as rooms
use Rattle.vx_arrow_image.specs.Rows.{RowValue}
use Rattle.vx_arrow_image.specs.Image.{Part, column_of, columns_in, is_sound, only, with_part}
use Rattle.vx_arrow_image.proofs.SoundNodes.{length_column, with_part_is}
use Rattle.vx_arrow_columns.specs.Picks.{bytes_for, offsets_len, sizes_len}
use Rattle.vx_arrow_columns.specs.Written.{has_room}
use Rattle.vx_arrow_columns.proofs.Trees.{only_some}
use Rattle.vx_arrow_interleave.specs.Bytes.{AreBytes, AreOffsetsOf, AreSizesOf, AreValuesOf}
use Rattle.vx_arrow_interleave.specs.Given.{belows, given, need_of, places, values_len}
use Rattle.vx_arrow_interleave.specs.Joined.{AllJoined, IsJoined, MeansGathered, joined, joined_by, joined_part, room_part, table_of}
use Rattle.vx_arrow_image.specs.declared.image.Need.{Need}
use Rattle.vx_arrow_columns.specs.Answer.{HaveRoom}
use Rattle.vx_arrow_interleave.specs.declared.faults.Refused.{Refused}
use Rattle.vx_arrow_interleave.specs.declared.faults.Refused.TheVariants as why
use Rattle.vx_arrow_interleave.specs.declared.planning.Job.{Job}
use Rattle.vx_arrow_interleave.specs.declared.planning.Plan as plans
use Rattle.vx_arrow_interleave.specs.Planned.{IsPlanned, given_by, left}
use Rattle.vx_arrow_interleave.specs.Refusals.{IsOfPlan}
use Rattle.vx_arrow_interleave.specs.Sources.{part_at, shows_valid}
use Rattle.vx_arrow_interleave.specs.Spots.{Spot}
use Rattle.vx_arrow_interleave.specs.Taken.{AreTold, HasBytes, HaveBytes, IsRefusal}
use Rattle.vx_arrow_interleave.specs.Tested.{AreReadable, Holds}
use Rattle.vx_arrow_interleave.proofs.JoinedItems.{fixed_list_joined, list_joined}
use Rattle.vx_arrow_interleave.proofs.JoinedListViews.{list_view_joined}
use Rattle.vx_arrow_interleave.proofs.JoinedNodes.{bits_joined, fixed_joined, nulls_joined, struct_joined}
use Rattle.vx_arrow_interleave.proofs.JoinedRows.{length_places}
use Rattle.vx_arrow_interleave.proofs.JoinedTextViews.{text_view_joined}
use Rattle.vx_arrow_interleave.proofs.JoinedTexts.{text_joined}
use Rattle.vx_arrow_interleave.proofs.JoinedTrees.{joined_trees}
use Rattle.vx_arrow_interleave.proofs.JoinedUnions.{union_joined}

-- ---- one node

-- lists that are as long as rows need
pub record AreLong (ps : List Part) (ss : List Spot) (v o x s : List ℕ) : Type 0 where
  pub valid : (need_of ps ss).valid ≤ length v
  pub offsets : (need_of ps ss).offsets ≤ length o
  pub values : (need_of ps ss).values ≤ length x
  pub sizes : (need_of ps ss).sizes ≤ length s

pub node_joined : (ps : List Part) (ss : List Spot) (v o x s : List ℕ) → AreReadable ps ss → AreBytes ps (places ps ss) v o x s → AreLong ps ss v o x s → IsJoined ps ss (joined_part ps ss v o x s)
node_joined ps ss v o x s r are long = go (part_at ps 0).format refl
  where
    S : List Spot
    S = places ps ss

    count : length S ≡ length ss
    count = length_places ps ss

    room : shows_valid ps ≡ true → bytes_for (length ss) ≤ length v
    room e = subst (λ (b : Bool). cond b (bytes_for (length ss)) 0 ≤ length v) e long.valid

    offsets : (f : Option Format) → (part_at ps 0).format ≡ f → AreOffsetsOf f ps S o
    offsets f e = subst (λ (g : Option Format). AreOffsetsOf g ps S o) e are.offsets

    values : (f : Option Format) → (part_at ps 0).format ≡ f → AreValuesOf f ps S x
    values f e = subst (λ (g : Option Format). AreValuesOf g ps S x) e are.values

    sizes : (f : Option Format) → (part_at ps 0).format ≡ f → AreSizesOf f ps S s
    sizes f e = subst (λ (g : Option Format). AreSizesOf g ps S s) e are.sizes

    ends : (f : Option Format) → (part_at ps 0).format ≡ f → offsets_len f (length ss) ≤ length o
    ends f e = subst (λ (g : Option Format). offsets_len g (length ss) ≤ length o) e long.offsets

    far : (f : Option Format) → (part_at ps 0).format ≡ f → values_len f ps S ≤ length x
    far f e = subst (λ (g : Option Format). values_len g ps S ≤ length x) e long.values

    ids : (f : Option Format) → (part_at ps 0).format ≡ f → sizes_len f (part_at ps 0) (length ss) ≤ length s
    ids f e = subst (λ (g : Option Format). sizes_len g (part_at ps 0) (length ss) ≤ length s) e long.sizes

    held : (f : Option Format) → (part_at ps 0).format ≡ f → Holds f ps S
    held f e = subst (λ (g : Option Format). Holds g ps S) e r.held

    go : (f : Option Format) → (part_at ps 0).format ≡ f → IsJoined ps ss (joined_part ps ss v o x s)
    go None e = absurd (held None e)
    go (Some Nulls) e = nulls_joined ps ss v o x s e r room
    go (Some Bits) e = bits_joined ps ss v o x s e r room are.valid (subst (λ (n : ℕ). bytes_for n ≤ length x) count (far (Some Bits) e)) (values (Some Bits) e)
    go (Some Fixed) e = fixed_joined ps ss v o x s e r room are.valid (subst (λ (n : ℕ). n * (part_at ps 0).width ≤ length x) count (far (Some Fixed) e)) (values (Some Fixed) e)
    go (Some (Text z)) e = text_joined z ps ss v o x s e r room are.valid (ends (Some (Text z)) e) (offsets (Some (Text z)) e) (far (Some (Text z)) e) (values (Some (Text z)) e)
    go (Some Struct) e = struct_joined ps ss v o x s e r room are.valid
    go (Some (Lists z)) e = list_joined z ps ss v o x s e r room are.valid (ends (Some (Lists z)) e) (offsets (Some (Lists z)) e)
    go (Some FixedList) e = fixed_list_joined ps ss v o x s e r room are.valid
    go (Some TextView) e = text_view_joined ps ss v o x s e r room are.valid (held (Some TextView) e) (subst (λ (n : ℕ). 16 * n ≤ length x) count (far (Some TextView) e)) (values (Some TextView) e)
    go (Some (ListView z)) e =
        let own = held (Some (ListView z)) e in
        list_view_joined z ps ss v o x s e r room are.valid own.0 own.1.1.1 (ends (Some (ListView z)) e) (ids (Some (ListView z)) e) (offsets (Some (ListView z)) e) (sizes (Some (ListView z)) e)
    go (Some Union) e = union_joined ps ss v o x s e r (subst (λ (n : ℕ). n ≤ length x) count (far (Some Union) e)) (ids (Some Union) e) (values (Some Union) e) (sizes (Some Union) e)
    go (Some DenseUnion) e = absurd (held (Some DenseUnion) e)

long_room : (ps : List Part) (ss : List Spot) (r : rooms.Room) → has_room (need_of ps ss) r ≡ true → AreLong ps ss r.valid.now r.offsets.now r.values.now r.sizes.now
long_room ps ss r h =
    let a = and_parts _ _ h in
    let b = and_parts _ _ a.1 in
    let c = and_parts _ _ b.1 in
    record { valid = leb-true _ _ a.0; offsets = leb-true _ _ b.0; values = leb-true _ _ c.0; sizes = leb-true _ _ c.1 }

pub room_joined : (ps : List Part) (ss : List Spot) (old new : rooms.Room) → AreReadable ps ss → HasBytes ps ss old new → has_room (need_of ps ss) old ≡ true → IsJoined ps ss (room_part ps ss new)
room_joined ps ss old new r are h =
    let long = long_room ps ss old h in
    node_joined ps ss new.valid.now new.offsets.now new.values.now new.sizes.now r are.rows (record {
      valid = omega (arith, long.valid, are.valid.long);
      offsets = omega (arith, long.offsets, are.offsets.long);
      values = omega (arith, long.values, are.values.long);
      sizes = omega (arith, long.sizes, are.sizes.long);
    })

-- ---- the trees

pub all_rooms : (m : ℕ) (gs : List (List Part)) (st : List (List Spot)) (rs : List rooms.Room) → length rs ≡ length gs → left gs st ≡ Some []
    → ((k : ℕ) (d : rooms.Room) → k < length gs → (length (get_or gs k []) ≡ m) × IsJoined (get_or gs k []) (get_or (given gs st) k []) (room_part (get_or gs k []) (get_or (given gs st) k []) (get_or rs k d)))
    → AllJoined m gs st (joined_by gs (given gs st) rs)
all_rooms m [] st rs many whole each = ((let e : Some st ≡ Some [] = whole in cc), refl)
all_rooms m (ps ∷ gs) [] rs many whole each = absurd (let e : None ≡ Some [] = whole in cc)
all_rooms m (ps ∷ gs) (ss ∷ st) [] many whole each = absurd (omega arith)
all_rooms m (ps ∷ gs) (ss ∷ st) (r ∷ rs) many whole each =
    let first = each 0 r (omega arith) in
    (first.0, (first.1, all_rooms m gs (belows ps ss ++ st) rs (omega arith) whole (λ k d h. each (suc k) d (omega arith))))

-- some columns, with as many rows as spots
record Sound (st : List (List Spot)) (ws : List Part) : Type 0 where
  columns : List (List RowValue)
  are : columns_in ws ≡ Some columns
  lens : map length columns ≡ map length st

take_front : {X : Type 0} (xs ys : List X) (n : ℕ) → length xs ≡ n → take n (xs ++ ys) ≡ xs
take_front [] ys zero e = refl
take_front [] ys (suc n) e = absurd (omega arith)
take_front (x ∷ xs) ys zero e = absurd (omega arith)
take_front (x ∷ xs) ys (suc n) e = ap (λ l. x ∷ l) (take_front xs ys n (omega arith))

drop_front : {X : Type 0} (xs ys : List X) (n : ℕ) → length xs ≡ n → drop n (xs ++ ys) ≡ ys
drop_front [] ys zero e = refl
drop_front [] ys (suc n) e = absurd (omega arith)
drop_front (x ∷ xs) ys zero e = absurd (omega arith)
drop_front (x ∷ xs) ys (suc n) e = drop_front xs ys n (omega arith)

sound_trees : (m : ℕ) (gs : List (List Part)) (st : List (List Spot)) (ws : List Part) → AllJoined m gs st ws → Sound st ws
sound_trees m [] st ws all = record { columns = []; are = ap columns_in all.1; lens = sym (ap (λ (l : List (List Spot)). map length l) all.0) }
sound_trees m (ps ∷ gs) [] ws all = absurd all
sound_trees m (ps ∷ gs) (ss ∷ st) [] all = absurd all
sound_trees m (ps ∷ gs) (ss ∷ st) (w ∷ ws) all =
    let node = all.1.0 in
    let bs = belows ps ss in
    let n = w.children in
    let s = sound_trees m gs (bs ++ st) ws all.1.1 in
    let front : map length (take n s.columns) ≡ map length bs = sym (take-map length n s.columns) ∙ ap (take n) s.lens ∙ take-map length n (bs ++ st) ∙ ap (λ (l : List (List Spot)). map length l) (take_front bs st n (sym node.children)) in
    let back : map length (drop n s.columns) ≡ map length st = sym (drop-map length n s.columns) ∙ ap (drop n) s.lens ∙ drop-map length n (bs ++ st) ∙ ap (λ (l : List (List Spot)). map length l) (drop_front bs st n (sym node.children)) in
    let count : length s.columns ≡ length bs + length st = sym (length-map s.columns length) ∙ ap length s.lens ∙ length-map (bs ++ st) length ∙ length-append bs st in
    record {
      columns = column_of w (take n s.columns) ∷ drop n s.columns;
      are = ap (option_and_then (with_part w)) s.are ∙ with_part_is w s.columns (omega (arith, node.children, count)) (ap (is_sound w) front ∙ node.sound);
      lens = ap₂ ◌∷◌ (length_column w (take n s.columns) ∙ node.len) back;
    }

one_some : (cs : List (List RowValue)) → length cs ≡ 1 → only (Some cs) ≡ Some (get_or cs 0 [])
one_some [] e = absurd (omega arith)
one_some (c ∷ []) e = refl
one_some (c ∷ (d ∷ cs)) e = absurd (omega arith)

pub means_gathered : (m : ℕ) (gs : List (List Part)) (ss : List Spot) (rs : List rooms.Room) → AllJoined m gs (ss ∷ []) (joined gs ss rs) → MeansGathered m gs ss rs
means_gathered m gs ss rs all =
    let s = sound_trees m gs (ss ∷ []) (joined gs ss rs) all in
    let one : length s.columns ≡ 1 = sym (length-map s.columns length) ∙ ap length s.lens in
    record {
      sound = (get_or s.columns 0 [], ap only s.are ∙ one_some s.columns one);
      rows = λ columns means.
          let c = joined_trees m gs (ss ∷ []) (joined gs ss rs) (λ s. columns s ∷ []) all (λ s h. only_some (columns_in (table_of s gs)) (columns s) (means s h)) in
          ap only c.are ∙ one_some c.columns c.children.new_len ∙ ap (λ (l : List RowValue). Some l) (c.children.at 0 (omega arith));
    }

-- ---- refusals

pub of_plan : (gs : List (List Part)) (ss : List Spot) (needs : ℕ) (rs : List rooms.Room) (r : Refused) → IsOfPlan r → IsRefusal gs ss needs rs r
of_plan gs ss needs rs (why.NoMeaning node lack) h = tt
of_plan gs ss needs rs (why.Unlike node) h = tt
of_plan gs ss needs rs why.Beyond h = tt
of_plan gs ss needs rs (why.Room node) h = absurd h
of_plan gs ss needs rs (why.Overflow node) h = tt
of_plan gs ss needs rs why.NoMemory h = tt

pub untold : (gs : List (List Part)) (ss : List Spot) (needs : List Need) (count : ℕ) (r : Refused) → IsOfPlan r → AreTold gs ss needs needs count r
untold gs ss needs count (why.NoMeaning node lack) h = refl
untold gs ss needs count (why.Unlike node) h = refl
untold gs ss needs count why.Beyond h = refl
untold gs ss needs count (why.Room node) h = absurd h
untold gs ss needs count (why.Overflow node) h = refl
untold gs ss needs count why.NoMemory h = refl

-- ---- the whole answer

-- rooms with the bytes of planned rows mean these
pub planned_gathered : (m : ℕ) (gs : List (List Part)) (ss : List Spot) (plan : plans.Plan) (old new : List rooms.Room) → IsPlanned m gs ss plan → length old ≡ length gs → length new ≡ length old → HaveRoom plan.needs.items old → HaveBytes gs ss old new → MeansGathered m gs ss new
planned_gathered m gs ss plan old new planned many long room bytes =
    let st = given gs (ss ∷ []) in
    means_gathered m gs ss new (all_rooms m gs (ss ∷ []) new (omega arith) planned.whole (λ k d h.
    let job : Job = some_job plan.jobs.items k (omega (arith, planned.many)) in
    let need : Need = record { len = 0; valid = 0; offsets = 0; values = 0; sizes = 0 } in
    let done = planned.done k job need h in
    let at : given_by (get_or plan.jobs.items k job) ≡ get_or st k [] =
    sym (get_or-map given_by plan.jobs.items k job [] (omega (arith, planned.many))) ∙ sym (ap (λ (l : List (List Spot)). get_or l k []) planned.given) in
    let readable = subst (λ (s : List Spot). AreReadable (get_or gs k []) s) at done.readable in
    let asked : get_or plan.needs.items k need ≡ need_of (get_or gs k []) (get_or st k []) = done.asked ∙ ap (need_of (get_or gs k [])) at in
    let fits = subst (λ (n : Need). has_room n (get_or old k d) ≡ true) asked (room.room k need d (omega arith)) in
    (done.many, room_joined (get_or gs k []) (get_or st k []) (get_or old k d) (get_or new k d) readable (bytes.bytes k d h) fits)))
  where
    some_job : (jobs : List Job) (k : ℕ) → k < length jobs → Job
    some_job [] k h = absurd (omega arith)
    some_job (j ∷ js) k h = j
