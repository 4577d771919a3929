-- One text more, and the column of those that are put out.
use Rattle.std.proofs.Common.{◌≡◌, ℕ, zero, suc, ◌+◌, ◌-◌, ◌^◌, ◌<◌, ◌≤◌, Bool, true, false, List, [], ◌∷◌, ◌++◌, map, length, get_or, take, drop, slice_range, Option, None, refl, sym, ap, ap₂, subst, ◌∙◌, arith, length-append, length-drop}
use Rattle.std.specs.Prelude.{IfOk, Result, Ok, Err, pos, ◌==◌, nat_le, if◌then◌else◌, replicate}
use Rattle.std.proofs.lemmas.Bool.Decides.{nat_tests}
use Rattle.std.proofs.lemmas.List.{length-map, drop_all, drop-append-le, take-append-le, take_all}
use Rattle.vx_types.specs.PType.{is_signed}
use Rattle.vx_types.specs.declared.ptype.PType.{PType}
use Rattle.vx_take.specs.Picks.{at, item_at}
use Rattle.vx_types.specs.TypeTree.{is_int_kind, primitive_kind}
use Rattle.vx_types.specs.declared.text.TextKind.{TextKind}
use Rattle.vx_model.specs.Numbers.{integer_by, integers_of}
use Rattle.vx_model.specs.Records.{RecordParts}
use Rattle.vx_model.specs.Valid.{Valid, non_nullable, is_fitting}
use Rattle.vx_model.specs.VarBin.{VarBinParts, is_never_null, row_count, varbin_fault, varbin_texts}
use Rattle.vx_model.proofs.Texts.{length-lists_at}
use Rattle.vx_model.specs.Text.{kept_texts}
use Rattle.vx_text.proofs.CutOffsets.{sound-varbin}
use Rattle.vx_offsets.specs.Offsets.{are_offsets, offset_positions, lists_at}
use Rattle.vx_text.specs.OffsetList.{OffsetList, first_type, greatest_offset, wide_type, with_offset}
use Rattle.vx_offsets.specs.Cut.{is_cut, type_of}
use Rattle.vx_offsets.proofs.Cuts.{at_most, same, begins_within, positions_back, cut_are}
use Rattle.vx_text.specs.Building.{type_for, AreTexts}
use Rattle.vx_text.specs.Left.{LeavesTexts}
use Rattle.std.proofs.lemmas.Bool.{and_from, eqb-true, le-leb}
use Rattle.std.specs.Cmp.{first_so, second_so}

-- ---- offsets that cut so many bytes

pub cut_more : (os : List ℕ) (n m : ℕ) → is_cut os n ≡ true → n ≤ m → is_cut (os ++ m ∷ []) m ≡ true
cut_more [] n m h l = cc
cut_more (a ∷ []) n m h l = and_from (nat_le a m) (m == m) (le-leb a m (omega (arith, eqb-true a n h, l))) (same m)
cut_more (a ∷ b ∷ os) n m h l =
    and_from (nat_le a b) _ (first_so (nat_le a b) (is_cut (b ∷ os) n) h) (cut_more (b ∷ os) n m (second_so (nat_le a b) (is_cut (b ∷ os) n) h) l)

-- a text between offsets stays where more bytes come
stays : (xs t : List ℕ) (a b : ℕ) → a ≤ b → b ≤ length xs → slice_range (xs ++ t) a b ≡ slice_range xs a b
stays xs t a b h l =
    ap (take (b - a)) (drop-append-le a xs t (omega (arith, h, l)))
    ∙ take-append-le (b - a) (drop a xs) t (omega (arith, h, l, length-drop a xs))

-- the last one is what came
comes : (xs t : List ℕ) → slice_range (xs ++ t) (length xs) (length xs + length t) ≡ t
comes xs t =
    let many : length xs + length t - length xs ≡ length t = omega arith in
    ap (λ k. take k (drop (length xs) (xs ++ t))) many
    ∙ ap (take (length t)) (drop-append-le (length xs) xs t (omega arith) ∙ ap (λ l. l ++ t) (drop_all (length xs) xs (omega arith)))
    ∙ take_all (length t) t (omega arith)

pub lists_more : (os xs t : List ℕ) → is_cut os (length xs) ≡ true → lists_at (os ++ (length xs + length t) ∷ []) (xs ++ t) ≡ lists_at os xs ++ t ∷ []
lists_more [] xs t h = cc
lists_more (a ∷ []) xs t h =
    ap (λ k. slice_range (xs ++ t) k (length xs + length t) ∷ []) (eqb-true a (length xs) h) ∙ ap (λ l. l ∷ []) (comes xs t)
lists_more (a ∷ b ∷ os) xs t h =
    let more = second_so (nat_le a b) (is_cut (b ∷ os) (length xs)) h in
    ap₂ ◌∷◌
    (stays xs t a b (at_most a b (first_so (nat_le a b) (is_cut (b ∷ os) (length xs)) h)) (begins_within b (length xs) os more))
    (lists_more (b ∷ os) xs t more)

-- ---- their type

wide_holds : (t : PType) (m : ℕ) (signed : Bool) → m < 2 ^ 63 → is_signed t ≡ signed → nat_le m (greatest_offset (wide_type t)) ≡ true
wide_holds t m true h e = rw e (le-leb m 9223372036854775807 (omega (arith, h)))
wide_holds t m false h e = rw e (le-leb m 9223372036854775807 (omega (arith, h)))

choose : {X : Type 0} (b : Bool) (x y : X) → b ≡ true → (if b then x else y) ≡ x
choose true x y h = refl
choose false x y h = cc

type_by : (t : PType) (n m : ℕ) (b : Bool) → n ≤ m → m < 2 ^ 63 → nat_le n (greatest_offset t) ≡ b → (if nat_le m (greatest_offset (if b then t else wide_type t)) then (if b then t else wide_type t) else wide_type (if b then t else wide_type t)) ≡ (if nat_le m (greatest_offset t) then t else wide_type t)
type_by t n m true h l e = refl
type_by t n m false h l e =
    let past : nat_le m (greatest_offset t) ≡ false = grind (arith, nat_tests, h, e) in
    choose (nat_le m (greatest_offset (wide_type t))) (wide_type t) (wide_type (wide_type t)) (wide_holds t m (is_signed t) l refl)
    ∙ sym (ap (λ (b : Bool). if b then t else wide_type t) past)

pub type_more : (p : PType) (n m : ℕ) → n ≤ m → m < 2 ^ 63 → (if nat_le m (greatest_offset (type_for p n)) then type_for p n else wide_type (type_for p n)) ≡ type_for p m
type_more p n m h l = type_by (first_type p) n m (nat_le n (greatest_offset (first_type p))) h l refl

-- ---- texts

pub one_text : (p : PType) (old new : OffsetList) (bytes more text : List ℕ) (texts : List (List ℕ)) → AreTexts p old bytes texts → length more < 2 ^ 63 → more ≡ bytes ++ text → new ≡ with_offset old (length more) → AreTexts p new more (texts ++ text ∷ [])
one_text p old new bytes more text texts are l e is =
    let long : length more ≡ length bytes + length text = ap length e ∙ length-append bytes text in
    record {
      cut = ap (λ (o : OffsetList). is_cut o.numbers (length more)) is ∙ cut_more old.numbers (length bytes) (length more) are.cut (omega (arith, long));
      texts = ap (λ (o : OffsetList). lists_at o.numbers more) is
          ∙ ap₂ (λ (k : ℕ) (b : List ℕ). lists_at (old.numbers ++ k ∷ []) b) long e
          ∙ lists_more old.numbers bytes text are.cut
          ∙ ap (λ l. l ++ text ∷ []) are.texts;
      ptype = ap (λ (o : OffsetList). o.ptype) is
          ∙ ap (λ (t : PType). if nat_le (length more) (greatest_offset t) then t else wide_type t) are.ptype
          ∙ type_more p (length bytes) (length more) (omega (arith, long)) l;
    }

-- ---- no text yet

pub no_texts : (p : PType) (o : OffsetList) (bytes : List ℕ) → bytes ≡ [] → o ≡ with_offset (record { ptype = first_type p; numbers = [] }) 0 → AreTexts p o bytes []
no_texts p o bytes none is =
    subst (λ b. AreTexts p o b []) (sym none)
    (record {
      cut = ap (λ (x : OffsetList). is_cut x.numbers 0) is;
      texts = ap (λ (x : OffsetList). lists_at x.numbers []) is;
      ptype = ap (λ (x : OffsetList). x.ptype) is;
    })

pub ruleset no_text_yet = (no_texts)

-- ---- texts that are kept

pub kept_suc : (texts : List (List ℕ)) (bits : List Bool) (picks : List (Option ℕ)) (i : ℕ) → i < length picks → length bits ≡ length picks → kept_texts (take (suc i) bits) (at [] texts (take (suc i) picks)) ≡ kept_texts (take i bits) (at [] texts (take i picks)) ++ item_at [] texts (if get_or bits i false then get_or picks i None else None) ∷ []
kept_suc texts [] [] i h l = absurd (omega arith)
kept_suc texts [] (p ∷ picks) i h l = absurd (omega arith)
kept_suc texts (b ∷ bits) [] i h l = absurd (omega arith)
kept_suc texts (true ∷ bits) (p ∷ picks) zero h l = refl
kept_suc texts (false ∷ bits) (p ∷ picks) zero h l = refl
kept_suc texts (b ∷ bits) (p ∷ picks) (suc i) h l =
    ap (λ x. (if b then item_at [] texts p else []) ∷ x) (kept_suc texts bits picks i (omega arith) (omega arith))

pub kept_more : (texts : List (List ℕ)) (bits : List Bool) (picks : List (Option ℕ)) (i : ℕ) → i < length picks → length bits ≡ length picks → kept_texts (take (i + 1) bits) (at [] texts (take (i + 1) picks)) ≡ kept_texts (take i bits) (at [] texts (take i picks)) ++ item_at [] texts (if get_or bits i false then get_or picks i None else None) ∷ []
kept_more texts bits picks i h l =
    let next : suc i ≡ i + 1 = omega arith in
    subst (λ k. kept_texts (take k bits) (at [] texts (take k picks)) ≡ kept_texts (take i bits) (at [] texts (take i picks)) ++ item_at [] texts (if get_or bits i false then get_or picks i None else None) ∷ []) next (kept_suc texts bits picks i h l)

pub kept_all : (texts : List (List ℕ)) (bits : List Bool) (picks : List (Option ℕ)) (i : ℕ) → length picks ≤ i → length bits ≡ length picks → kept_texts (take i bits) (at [] texts (take i picks)) ≡ kept_texts bits (at [] texts picks)
kept_all texts bits picks i h l =
    ap₂ (λ (b : List Bool) (p : List (Option ℕ)). kept_texts b (at [] texts p)) (take_all i bits (omega (arith, h, l))) (take_all i picks h)

-- ---- their column

module _ (k : TextKind) (o : RecordParts) (b : List ℕ) (v : Valid) (numbers : List ℕ) (read : integers_of o ≡ map pos numbers) where
  rows : row_count o ≡ length (lists_at numbers b)
  rows =
      let same : length o.records ≡ length numbers = omega (arith, ap length read, length-map o.records (integer_by o.kind), length-map numbers (λ n. pos n)) in
      omega (arith, same, length-lists_at numbers b)

  pub built : is_int_kind o.kind ≡ true → o.valid ≡ non_nullable → is_cut numbers (length b) ≡ true → is_fitting v (length (lists_at numbers b)) ≡ true → varbin_fault (record { kind = k; offsets = o; bytes = b; valid = v }) ≡ None
  built int there cut fit =
      sound-varbin (record { kind = k; offsets = o; bytes = b; valid = v })
      (and_from (is_int_kind o.kind) (is_never_null o.valid) int (ap is_never_null there))
      (ap (is_fitting v) rows ∙ fit)
      (ap (λ zs. are_offsets zs (length b)) read ∙ cut_are numbers (length b) cut)

  pub built_texts : lists_at (offset_positions (integers_of o)) b ≡ lists_at numbers b
  built_texts =
      ap (λ zs. lists_at (offset_positions zs) b) read ∙ ap (λ l. lists_at l b) (positions_back numbers)

pub length-kept : (bits : List Bool) (texts : List (List ℕ)) → length bits ≡ length texts → length (kept_texts bits texts) ≡ length texts
length-kept [] [] h = refl
length-kept [] (x ∷ texts) h = absurd (omega arith)
length-kept (b ∷ bits) [] h = absurd (omega arith)
length-kept (b ∷ bits) (x ∷ texts) h = omega (arith, length-kept bits texts (omega arith))

-- ---- one text more of the same

alike_suc : {X : Type 0} (i : ℕ) (x : X) → replicate (suc i) x ≡ replicate i x ++ x ∷ []
alike_suc zero x = refl
alike_suc (suc i) x = ap (λ l. x ∷ l) (alike_suc i x)

pub alike_more : {X : Type 0} (i : ℕ) (x : X) → replicate (i + 1) x ≡ replicate i x ++ x ∷ []
alike_more i x =
    let next : i + 1 ≡ suc i = omega arith in
    ap (λ k. replicate k x) next ∙ alike_suc i x

-- ---- the column of texts that were put out

pub texts_left : {E : Type 0} (r : Result VarBinParts E) (p : VarBinParts) (k : TextKind) (o : OffsetList) (bytes : List ℕ) (left : List (List ℕ)) (w : Valid) → k ≡ p.kind → AreTexts (type_of p.offsets.kind) o bytes left → IfOk r (λ a. a.kind ≡ k) → IfOk r (λ a. a.offsets.kind ≡ primitive_kind o.ptype) → IfOk r (λ a. a.bytes ≡ bytes) → IfOk r (λ a. (varbin_texts a).texts ≡ lists_at o.numbers bytes) → IfOk r (λ a. a.valid ≡ w) → IfOk r (LeavesTexts p left w)
texts_left (Ok a) p k o bytes left w same put kind offsets stored texts valid = record {
  kind = kind ∙ same;
  offsets = offsets ∙ ap primitive_kind (put.ptype ∙ ap (λ (b : List ℕ). type_for (type_of p.offsets.kind) (length b)) (sym stored));
  texts = texts ∙ put.texts;
  valid = valid;
}
texts_left (Err e) p k o bytes left w same put kind offsets stored texts valid = tt
