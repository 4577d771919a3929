-- Rows at composed picks are the answer.
use Rattle.std.proofs.Common.{◌≡◌, ℕ, zero, suc, ◌+◌, ◌<◌, Bool, true, false, eqb, List, [], ◌∷◌, ◌++◌, length, map, take, drop, get_or, Option, Some, None, refl, sym, ap, ap₂, ◌∙◌, subst, arith}
use Rattle.std.specs.Prelude.{is_some, if◌then◌else◌}
use Rattle.std.proofs.lemmas.List.{append-nil, ext_get_or, get_or-map, length-map}
use Rattle.std.proofs.Math.ListN.{drop_of_length-le}
use Rattle.std.proofs.Math.Seq.{take-length}
use Rattle.std.proofs.lemmas.List.Sums.{AllPass-from_list_all}
use Rattle.std.proofs.lemmas.List.FromFn.{get_or-map-range_with_len}
use Rattle.vx_bits.specs.BitBuffer.{bits_of, bit_of}
use Rattle.vx_positions.specs.Positions.{AllThere}
use Rattle.vx_types.specs.RowValue as model
use Rattle.vx_types.specs.TypeTree.{TypeTree}
use Rattle.vx_types.specs.declared.nullability.Nullability.{Nullability}
use Rattle.vx_types.specs.declared.nullability.Nullability.TheVariants.{NonNullable, Nullable}
use Rattle.vx_take.specs.Picks.{at, item_at}
use Rattle.vx_steps.specs.Walk.{Walk, walk, walk_fault, walk_picks}
use Rattle.vx_steps.specs.Answer.{answer_of, answer_of_walk, answer_rows, type_after}
use Rattle.std.proofs.lemmas.Bool.{and_from, eqb-true, le-leb}
use Rattle.vx_steps.specs.Compose.{takes_nullability}
use Rattle.vx_arrow.specs.Answer.{HasNeed, IfPicks, IsRefusal, IsShort, walk_in}
use Rattle.vx_arrow.specs.declared.refusal.Refusal.{Refusal}
use Rattle.vx_arrow.specs.declared.refusal.Refusal.TheVariants as refusals
use Rattle.vx_arrow.specs.Image.{StepParts, steps_in}
use Rattle.vx_arrow.specs.Written.{ArePlaced, AreShown, has_room, need_of, place_of}
use Rattle.vx_arrow_image.specs.Rows as rows
use Rattle.vx_arrow_image.specs.Image.{is_valid, column_in, parts_of}
use Rattle.vx_arrow.specs.declared.need.Need.{Need}
use Rattle.vx_arrow_image.specs.declared.image.Node.{Node}
use Rattle.vx_arrow_image.specs.declared.image.Room.{Room}
use Rattle.vx_arrow_columns.specs.Answer.{MeansPicked}
use Rattle.vx_arrow_columns.specs.Picks.{Picking, picking_of, picks_of}
use Rattle.vx_arrow_columns.specs.Planned.{first_len}
use Rattle.vx_arrow_columns.specs.Read.{rows_read}
use Rattle.vx_arrow_columns.specs.Written.{written}
use Rattle.vx_arrow_columns.proofs.PickReads.{length_picks, get_picks}
use Rattle.vx_arrow_columns.proofs.ReadTrees.{rows_first, rows_len}
use Rattle.vx_arrow_select.specs.Rows.{model_row, model_column}
use Rattle.vx_arrow_select.specs.Selected.{AreComposed, IsAnswer, IsSelected, IsStepFault}

-- ---- the model's rows at picks

model_item : (xs : List rows.RowValue) (p : ℕ) → model_row (get_or xs p rows.null) ≡ get_or (model_column xs) p model.null
unfolding model_row
model_item [] p = refl
model_item (x ∷ xs) zero = refl
model_item (x ∷ xs) (suc p) = model_item xs p

model_at : (xs : List rows.RowValue) (o : Option ℕ) → model_row (rows.row_at xs o) ≡ item_at model.null (model_column xs) o
unfolding model_row
model_at xs None = refl
model_at xs (Some p) = model_item xs p

pub model_picked : (xs : List rows.RowValue) (picks : List (Option ℕ)) → model_column (rows.picked picks xs) ≡ at model.null (model_column xs) picks
model_picked xs [] = refl
model_picked xs (o ∷ picks) = ap₂ (λ (r : model.RowValue) (rs : List model.RowValue). r ∷ rs) (model_at xs o) (model_picked xs picks)

-- ---- places and bits as picks

there : (o : Option ℕ) → is_some o ≡ true → Some (0 + place_of o) ≡ o
there None h = absurd cc
there (Some p) h = ap (λ (n : ℕ). Some n) (omega arith)

gone : (o : Option ℕ) → is_some o ≡ false → None ≡ o
gone None h = refl
gone (Some p) h = absurd cc

by_bit : (b : Bool) (o : Option ℕ) (v : ℕ) → b ≡ is_some o → v ≡ place_of o → (if b then Some (0 + v) else None) ≡ o
by_bit true o v e w = ap (λ (n : ℕ). Some (0 + n)) w ∙ there o (sym e)
by_bit false o v e w = gone o (sym e)

-- places that were written to a list of as many
placed : (picks : List (Option ℕ)) (old new : List ℕ) → length old ≡ length picks → ArePlaced picks old new → new ≡ map place_of picks
placed picks old new long h =
    h ∙ ap (λ (rest : List ℕ). map place_of picks ++ rest) (drop_of_length-le old (omega (arith, long))) ∙ append-nil (map place_of picks)

no_bits : (valid : List ℕ) (picks : List (Option ℕ)) (k : ℕ) → length valid ≡ 0 → AllThere picks → k < length picks → is_valid valid k ≡ is_some (get_or picks k None)
no_bits [] picks k none all h = sym (AllPass-from_list_all is_some picks all k None h)
no_bits (b ∷ bs) picks k none all h = absurd (omega (arith, none))

marked : (valid : List ℕ) (picks : List (Option ℕ)) (k : ℕ) → (length valid ≡ 0 → ⊥) → bits_of valid 0 (length picks) ≡ map is_some picks → k < length picks → is_valid valid k ≡ is_some (get_or picks k None)
marked [] picks k some marks h = absurd (some refl)
marked (b ∷ bs) picks k some marks h =
    sym (get_or-map-range_with_len (bit_of (b ∷ bs)) 0 (length picks) k k false h (omega arith))
    ∙ ap (λ (bits : List Bool). get_or bits k false) marks ∙ get_or-map is_some picks k None false h

shown : (n : ℕ) (old valid : List ℕ) (picks : List (Option ℕ)) (k : ℕ) → length valid ≡ n → AreShown n picks old valid → k < length picks → is_valid valid k ≡ is_some (get_or picks k None)
shown zero old valid picks k long s h = no_bits valid picks k long (s.there refl) h
shown (suc n) old valid picks k long s h =
    marked valid picks k (λ e. absurd (omega (arith, e, long))) (s.marks (λ e. absurd (omega (arith, e)))).marks h

back : (n : ℕ) (picks : List (Option ℕ)) (old new bits valid : List ℕ) → length old ≡ length picks → length valid ≡ n → ArePlaced picks old new → AreShown n picks bits valid → picks_of new valid 0 ≡ picks
back n picks old new bits valid long some p s =
    let is = placed picks old new long p in
    let as_long : length new ≡ length picks = ap length is ∙ length-map picks place_of in
    let len : length (picks_of new valid 0) ≡ length picks = length_picks new valid 0 ∙ as_long in
    ext_get_or None (picks_of new valid 0) picks len
    (λ k l.
    let h : k < length picks = omega (arith, l, len) in
    get_picks new valid 0 k (omega (arith, h, as_long))
    ∙ by_bit (is_valid valid k) (get_or picks k None) (get_or new k 0) (shown n bits valid picks k some s h)
    (ap (λ (xs : List ℕ). get_or xs k 0) is ∙ get_or-map place_of picks k None 0 h))

needed_places : (n : ℕ) (b : Nullability) → (need_of n b).places ≡ n
needed_places n NonNullable = refl
needed_places n Nullable = refl

pub filled : (w : Walk) (b : Nullability) (old new bits valid : List ℕ) (asked need : Need) → IfPicks w (λ picks. asked ≡ need_of (length picks) b) → IfPicks w (λ picks. need ≡ need_of (length picks) b)
    → length old ≡ asked.places → length valid ≡ asked.valid → IfPicks w (λ picks. ArePlaced picks old new) → IfPicks w (λ picks. AreShown need.valid picks bits valid)
    → IfPicks w (λ picks. picks_of new valid 0 ≡ picks)
filled (walk_fault k cause) b old new bits valid asked need a n long some p s = absurd a
filled (walk_picks picks) b old new bits valid asked need a n long some p s =
    back need.valid picks old new bits valid (long ∙ ap (λ (x : Need). x.places) a ∙ needed_places (length picks) b)
    (some ∙ ap (λ (x : Need). x.valid) (a ∙ sym n)) p s

-- a list that was written whole
pub written_back : (n : ℕ) (new old : List ℕ) → length new ≡ n → length old ≡ n → take n (new ++ drop (length new) old) ≡ new
written_back n new old e f =
    ap (λ (rest : List ℕ). take n (new ++ rest)) (drop_of_length-le old (omega (arith, e, f)))
    ∙ ap (take n) (append-nil new) ∙ ap (λ (m : ℕ). take m new) (sym e) ∙ take-length new

-- the same where the picks turn out to need just the room that there is
pub exactly : (w : Walk) (b : Nullability) (old new bits valid : List ℕ) (need : Need) → need.places ≡ length new → eqb need.valid (length valid) ≡ true → IfPicks w (λ picks. need ≡ need_of (length picks) b)
    → length new ≡ length old → length valid ≡ length bits → IfPicks w (λ picks. ArePlaced picks old new) → IfPicks w (λ picks. AreShown need.valid picks bits valid)
    → IfPicks w (λ picks. picks_of new valid 0 ≡ picks)
exactly w b old new bits valid need e f n l m p s = filled w b old new bits valid need need n n (sym l ∙ sym e) (sym (eqb-true _ _ f)) p s

same_need : (w : Walk) (b : Nullability) (x y : Need) → IfPicks w (λ picks. x ≡ need_of (length picks) b) → IfPicks w (λ picks. y ≡ need_of (length picks) b) → x ≡ y
same_need (walk_fault k cause) b x y p q = absurd p
same_need (walk_picks picks) b x y p q = p ∙ sym q

has_own : (n : Need) → has_room n n.places n.valid ≡ true
has_own n = and_from _ _ (le-leb n.places n.places (omega arith)) (le-leb n.valid n.valid (omega arith))

-- lists that are as long as the picks need are never too short
pub never_short : (n : ℕ) (steps : List StepParts) (asked : Need) (refusal : Refusal) → HasNeed n steps asked → IsRefusal n steps (IsShort n steps asked.places asked.valid) refusal → IsStepFault n steps refusal
never_short n steps asked (refusals.Lacking lacking) h r = r
never_short n steps asked (refusals.Broken k cause) h r = r
never_short n steps asked (refusals.Room need) h r =
    let same : need ≡ asked = same_need (walk_in n steps) (takes_nullability (steps_in steps)) need asked r.needed h in
    absurd (let f : true ≡ false = sym (ap (λ (x : Need). has_room x asked.places asked.valid) same ∙ has_own asked) ∙ r.short in cc)
never_short n steps asked refusals.NoMemory h r = r

-- ---- the answer

answer_by : (w : Walk) (t : TypeTree) (xs : List rows.RowValue) (q : List (Option ℕ)) → IfPicks w (λ picks. q ≡ picks) → answer_of_walk t (model_column xs) w ≡ answer_rows t (model_column (rows.picked q xs))
answer_by (walk_fault k cause) t xs q h = absurd h
answer_by (walk_picks picks) t xs q h =
    ap (answer_rows t) (ap (at model.null (model_column xs)) (sym h) ∙ sym (model_picked xs q))

is_answer : (t : TypeTree) (xs out : List rows.RowValue) (steps : List StepParts) (found : Option (List rows.RowValue)) → found ≡ Some out → answer_of t (model_column xs) (steps_in steps) ≡ answer_rows (type_after t (steps_in steps)) (model_column out) → IsAnswer t xs steps found
is_answer t xs out steps found e h = subst (IsAnswer t xs steps) (sym e) h

-- what is found is the rows at composed picks
answer_at : (nodes : List Node) (steps : List StepParts) (q : Picking) (t : TypeTree) (xs : List rows.RowValue) (found : Option (List rows.RowValue)) → IfPicks (walk_in (first_len nodes) steps) (λ picks. q.picks ≡ picks) → length xs ≡ first_len nodes → found ≡ Some (rows.picked q.picks xs) → IsAnswer t xs steps found
answer_at nodes steps q t xs found c len e =
    is_answer t xs (rows.picked q.picks xs) steps found e
    (answer_by (walk (length (model_column xs)) (steps_in steps)) (type_after t (steps_in steps)) xs q.picks
    (subst (λ (n : ℕ). IfPicks (walk_in n steps) (λ picks. q.picks ≡ picks)) (sym (length-map xs model_row ∙ len)) c))

pub answered : (nodes : List Node) (steps : List StepParts) (q : Picking) (rooms : List Room) → IfPicks (walk_in (first_len nodes) steps) (λ picks. q.picks ≡ picks) → MeansPicked (parts_of nodes) q rooms → IsSelected nodes steps rooms
answered nodes steps q rooms c m =
    let found = column_in (written (parts_of nodes) q rooms) in
    record {
      picks = q;
      composed = c;
      read = λ t kept. answer_at nodes steps q t (rows_read (parts_of nodes)) found c (rows_len nodes) (m.read kept);
      answer = λ xs t e. answer_at nodes steps q t xs found c (rows_first nodes xs e) (m.picked xs e);
    }

-- composed picks, by lists and a length that equal theirs
pub composed_by : (n m : ℕ) (steps : List StepParts) (places ps valid vs : List ℕ) → n ≡ m → ps ≡ places → vs ≡ valid → AreComposed n steps (picking_of places valid 0) → AreComposed m steps (picking_of ps vs 0)
composed_by n m steps places ps valid vs e f g h =
    subst (λ (k : ℕ). AreComposed k steps (picking_of ps vs 0)) e
    (subst (λ (l : List ℕ). AreComposed n steps (picking_of l vs 0)) (sym f)
    (subst (λ (l : List ℕ). AreComposed n steps (picking_of places l 0)) (sym g) h))
