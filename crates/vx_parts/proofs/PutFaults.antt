-- Whether columns are the answers of parts.
use Rattle.std.proofs.Common.{◌≡◌, ◌≢◌, ℕ, zero, suc, ◌+◌, ◌<◌, Bool, true, false, List, [], ◌∷◌, length, drop, get_or, Option, Some, None, refl, sym, ap, ap₂, ◌∙◌, subst, arith}
use Rattle.std.specs.Prelude.{◌==◌, not, IfSome, slice_get, slice_index, if◌then◌else◌}
use Rattle.std.specs.List.{All}
use Rattle.std.specs.Option.{option_or}
use Rattle.std.proofs.lemmas.Bool.Decides.{nat_tests}
use Rattle.std.proofs.lemmas.List.{drop_more}
use Rattle.std.proofs.lemmas.Option.{get_or_from_slice_get}
use Rattle.std.proofs.lemmas.List.Elements.{All-nil, All-cons}
use Rattle.vx_types.specs.Nullability.{is_nullable}
use Rattle.vx_types.specs.Same.{is_same_type}
use Rattle.vx_types.specs.SameLaws.{type_decides}
use Rattle.vx_types.specs.TypeTree.{TypeTree, also_nullable}
use Rattle.vx_types.specs.declared.nullability.Nullability.{Nullability}
use Rattle.vx_model.specs.Column.{Column}
use Rattle.vx_interleave.specs.Sources.{IsSourceOf}
use Rattle.vx_parts.specs.Plan.{lens_in}
use Rattle.vx_parts.specs.Putting.{IsPutFault, answer_fault, part_fault, put_fault}
use Rattle.vx_parts.specs.declared.plan.Plan.{Plan}
use Rattle.vx_parts.specs.declared.error.PutError.{PutError}
use Rattle.vx_parts.specs.declared.error.PutError.TheVariants.{WrongCount, WrongType, WrongLength, WrongOrder, NoMemory}
use Rattle.std.proofs.lemmas.Bool.{eqb-true, eq-eqb}
use Rattle.vx_model.proofs.Nullabilities.{nullable-either}

-- ---- one answer

-- what a test for another type says
pub type_differs : (u v t : TypeTree) (r : Bool) → u ≡ v → r ≡ not (is_same_type u t) → r ≡ true → is_same_type v t ≡ false
type_differs u v t r same is h = ap (λ (x : TypeTree). is_same_type x t) (sym same) ∙ failed (is_same_type u t) (sym is ∙ h)
  where
    failed : (b : Bool) → not b ≡ true → b ≡ false
    failed true h = absurd cc
    failed false h = refl

pub type_fits : (u v t : TypeTree) (r : Bool) → u ≡ v → r ≡ not (is_same_type u t) → r ≡ false → is_same_type v t ≡ true
type_fits u v t r same is h = ap (λ (x : TypeTree). is_same_type x t) (sym same) ∙ held (is_same_type u t) (sym is ∙ h)
  where
    held : (b : Bool) → not b ≡ false → b ≡ true
    held true h = refl
    held false h = absurd cc

module _ (k : ℕ) (t : TypeTree) (n : ℕ) (c : Column) where
  pub other_type : is_same_type c.dtype t ≡ false → Some (WrongType k) ≡ part_fault k t n c
  other_type differs = sym (ap (λ (b : Bool). if b then (if length c.rows == n then None else Some (WrongLength k)) else Some (WrongType k)) differs)

  its_length : is_same_type c.dtype t ≡ true → (if length c.rows == n then None else Some (WrongLength k)) ≡ part_fault k t n c
  its_length same = sym (ap (λ (b : Bool). if b then (if length c.rows == n then None else Some (WrongLength k)) else Some (WrongType k)) same)

  pub other_length : is_same_type c.dtype t ≡ true → (length c.rows ≡ n → ⊥) → Some (WrongLength k) ≡ part_fault k t n c
  other_length same differs =
      let no : (length c.rows == n) ≡ false = grind (arith, nat_tests) in
      sym (ap (λ (b : Bool). if b then None else Some (WrongLength k)) no) ∙ its_length same

  pub no_part_fault : is_same_type c.dtype t ≡ true → length c.rows ≡ n → None ≡ part_fault k t n c
  no_part_fault same fits =
      let yes : (length c.rows == n) ≡ true = grind (arith, nat_tests) in
      sym (ap (λ (b : Bool). if b then None else Some (WrongLength k)) yes) ∙ its_length same

-- ---- all of them

-- the answer of part k, and those behind it
module _ (t : TypeTree) (lens : List ℕ) (answers : List Column) (k n : ℕ) (c : Column) (all : Option PutError) (h : k < length lens) (l : k < length answers) (count : get_or lens k 0 ≡ n) (is : slice_get answers k ≡ Some c) (so : answer_fault k t (drop k lens) (drop k answers) ≡ all) where
  next_fault : option_or (part_fault k t n c) (answer_fault (k + 1) t (drop (k + 1) lens) (drop (k + 1) answers)) ≡ all
  next_fault =
      sym (ap₂ (answer_fault k t) (drop_more lens k 0 h ∙ ap (λ (m : ℕ). m ∷ drop (k + 1) lens) count) (drop_more answers k c l ∙ ap (λ (d : Column). d ∷ drop (k + 1) answers) (get_or_from_slice_get answers k c c is))) ∙ so

  pub fault_here : (e : PutError) → part_fault k t n c ≡ Some e → Some e ≡ all
  fault_here e one = sym (ap (λ (o : Option PutError). option_or o (answer_fault (k + 1) t (drop (k + 1) lens) (drop (k + 1) answers))) one) ∙ next_fault

  pub none_yet : part_fault k t n c ≡ None → answer_fault (k + 1) t (drop (k + 1) lens) (drop (k + 1) answers) ≡ all
  none_yet none = sym (ap (λ (o : Option PutError). option_or o (answer_fault (k + 1) t (drop (k + 1) lens) (drop (k + 1) answers))) none) ∙ next_fault

-- ---- answers without a fault

source_of : (t : TypeTree) (n : Nullability) (c : Column) → is_same_type c.dtype t ≡ true → IsSourceOf (also_nullable t n) c
source_of t n c h =
    let one = (type_decides c.dtype t).0 h in
    record {
      kind = ap (λ (u : TypeTree). u.kind) one;
      nulls = λ e. nullable-either t.nullability n (ap (λ (u : TypeTree). is_nullable u.nullability) (sym one) ∙ e);
    }

same_type : (same long : Bool) (k : ℕ) → (if same then (if long then None else Some (WrongLength k)) else Some (WrongType k)) ≡ None → same ≡ true
same_type true long k h = refl
same_type false long k h = absurd cc

neither : (o p : Option PutError) → option_or o p ≡ None → (o ≡ None) × (p ≡ None)
neither None p h = (refl, h)
neither (Some e) p h = absurd cc

sources_from : (k : ℕ) (t : TypeTree) (n : Nullability) (lens : List ℕ) (answers : List Column) → length answers ≡ length lens → answer_fault k t lens answers ≡ None → All (IsSourceOf (also_nullable t n)) answers
sources_from k t n lens [] many h = All-nil (IsSourceOf (also_nullable t n))
sources_from k t n [] (c ∷ answers) many h = absurd (omega arith)
sources_from k t n (m ∷ lens) (c ∷ answers) many h =
    let both = neither (part_fault k t m c) (answer_fault (k + 1) t lens answers) h in
    All-cons (IsSourceOf (also_nullable t n)) c answers (source_of t n c (same_type (is_same_type c.dtype t) (length c.rows == m) k both.0)) (sources_from (k + 1) t n lens answers (omega arith) both.1)

counted : (same : Bool) (rest : Option PutError) → (if same then rest else Some WrongCount) ≡ None → (same ≡ true) × (rest ≡ None)
counted true rest h = (refl, h)
counted false rest h = absurd cc

pub sources_are : (t : TypeTree) (n : Nullability) (lens : List ℕ) (answers : List Column) → put_fault t lens answers ≡ None → All (IsSourceOf (also_nullable t n)) answers
sources_are t n lens answers h =
    let both = counted (length answers == length lens) (answer_fault 0 t lens answers) h in
    sources_from 0 t n lens answers (eqb-true (length answers) (length lens) both.0) both.1

-- columns of the parts' type that are as long as planned
no_fault_from : (k : ℕ) (t : TypeTree) (lens : List ℕ) (answers : List Column) → ((i : ℕ) → i < length lens → IfSome (slice_get answers i) (λ (c : Column). (c.dtype ≡ t) × (length c.rows ≡ slice_index lens i)))
    → answer_fault k t lens answers ≡ None
no_fault_from k t [] answers each = refl
no_fault_from k t (n ∷ lens) [] each = refl
no_fault_from k t (n ∷ lens) (c ∷ answers) each =
    let here = each zero (omega arith) in
    let none = sym (no_part_fault k t n c ((type_decides c.dtype t).1 here.0) here.1) in
    ap (λ (o : Option PutError). option_or o (answer_fault (k + 1) t lens answers)) none ∙ no_fault_from (k + 1) t lens answers (λ i h. each (suc i) (omega arith))

pub no_fault : (t : TypeTree) (lens : List ℕ) (answers : List Column) → length answers ≡ length lens → ((i : ℕ) → i < length lens → IfSome (slice_get answers i) (λ (c : Column). (c.dtype ≡ t) × (length c.rows ≡ slice_index lens i)))
    → put_fault t lens answers ≡ None
no_fault t lens answers many each =
    ap (λ (b : Bool). if b then answer_fault 0 t lens answers else Some WrongCount) (eq-eqb (length answers) (length lens) many) ∙ no_fault_from 0 t lens answers each

-- ---- which fault there is

abbrev IsTold : PutError → Type 0
IsTold WrongCount = Unit {0}
IsTold (WrongType part) = Unit {0}
IsTold (WrongLength part) = Unit {0}
IsTold WrongOrder = ⊥
IsTold NoMemory = ⊥

told_as : (x e : PutError) → Some x ≡ Some e → IsTold x → IsTold e
told_as x e h told = let is : x ≡ e = cc in subst IsTold is told

told_part : (same long : Bool) (k : ℕ) (e : PutError) → (if same then (if long then None else Some (WrongLength k)) else Some (WrongType k)) ≡ Some e → IsTold e
told_part true true k e h = absurd cc
told_part true false k e h = told_as (WrongLength k) e h tt
told_part false long k e h = told_as (WrongType k) e h tt

told_or : (o p : Option PutError) (e : PutError) → option_or o p ≡ Some e → (o ≡ Some e → IsTold e) → (p ≡ Some e → IsTold e) → IsTold e
told_or None p e h f g = g h
told_or (Some x) p e h f g = f h

told_from : (k : ℕ) (t : TypeTree) (lens : List ℕ) (answers : List Column) (e : PutError) → answer_fault k t lens answers ≡ Some e → IsTold e
told_from k t [] answers e h = absurd cc
told_from k t (m ∷ lens) [] e h = absurd cc
told_from k t (m ∷ lens) (c ∷ answers) e h =
    told_or (part_fault k t m c) (answer_fault (k + 1) t lens answers) e h (told_part (is_same_type c.dtype t) (length c.rows == m) k e) (told_from (k + 1) t lens answers e)

told_counted : (same : Bool) (rest : Option PutError) (e : PutError) → (if same then rest else Some WrongCount) ≡ Some e → (rest ≡ Some e → IsTold e) → IsTold e
told_counted true rest e h f = f h
told_counted false rest e h f = told_as WrongCount e h tt

by_error : (t : TypeTree) (plan : Plan) (answers : List Column) (e : PutError) → put_fault t (lens_in plan.parts.items) answers ≡ Some e → IsTold e → IsPutFault t plan answers e
by_error t plan answers WrongCount h told = h
by_error t plan answers (WrongType part) h told = h
by_error t plan answers (WrongLength part) h told = h
by_error t plan answers WrongOrder h told = absurd told
by_error t plan answers NoMemory h told = absurd told

pub put_fault_is : (t : TypeTree) (plan : Plan) (answers : List Column) (e : PutError) → put_fault t (lens_in plan.parts.items) answers ≡ Some e → IsPutFault t plan answers e
put_fault_is t plan answers e h =
    by_error t plan answers e h
    (told_counted (length answers == length (lens_in plan.parts.items)) (answer_fault 0 t (lens_in plan.parts.items) answers) e h (told_from 0 t (lens_in plan.parts.items) answers e))

-- a fault of columns is no want of memory
pub not_memory : (t : TypeTree) (plan : Plan) (answers : List Column) (e : PutError) → put_fault t (lens_in plan.parts.items) answers ≡ Some e → e ≢ NoMemory
not_memory t plan answers e h is =
    subst IsTold is (told_counted (length answers == length (lens_in plan.parts.items)) (answer_fault 0 t (lens_in plan.parts.items) answers) e h (told_from 0 t (lens_in plan.parts.items) answers e))

-- a fault that is told isn't one of answers that can be put together
pub only_memory : (t : TypeTree) (plan : Plan) (answers : List Column) (e : PutError) → IsPutFault t plan answers e → put_fault t (lens_in plan.parts.items) answers ≡ None → (IsPutFault t plan answers WrongOrder → ⊥) → e ≡ NoMemory
only_memory t plan answers WrongCount h none order = absurd (let no : Some WrongCount ≡ None = sym h ∙ none in cc)
only_memory t plan answers (WrongType part) h none order = absurd (let no : Some (WrongType part) ≡ None = sym h ∙ none in cc)
only_memory t plan answers (WrongLength part) h none order = absurd (let no : Some (WrongLength part) ≡ None = sym h ∙ none in cc)
only_memory t plan answers WrongOrder h none order = absurd (order h)
only_memory t plan answers NoMemory h none order = refl
