-- The walk over tables, as far as it went.
use Rattle.std.proofs.Common.{zero, suc, ◌≡◌, ℕ, ◌+◌, ◌<◌, ◌≤◌, List, [], ◌∷◌, ◌++◌, length, get_or, drop, map, ap, ap₂, sym, ◌∙◌, refl, subst, arith, length-append, inl, inr}
use Rattle.std.proofs.lemmas.Bool.{cases_lt}
use Rattle.vx_arrow_image.specs.declared.image.Need.{Need}
use Rattle.vx_arrow_image.specs.Image.{Part}
use Rattle.vx_arrow_interleave.specs.declared.planning.Job.{Job}
use Rattle.vx_arrow_interleave.specs.declared.planning.Plan as plans
use Rattle.vx_arrow_interleave.specs.declared.planning.Walk as walks
use Rattle.vx_arrow_interleave.specs.Given.{belows, given, need_of, needs_by, needs_of}
use Rattle.vx_arrow_interleave.specs.Planned.{IsDone, IsPlanned, IsPlannedJob, IsStart, IsVisited, given_by, left, lists_in, sources_in, stack_of}
use Rattle.vx_arrow_interleave.specs.declared.planning.Planned as planned
use Rattle.vx_arrow_interleave.specs.declared.sources.Group.{Group}
use Rattle.vx_arrow_interleave.specs.declared.spans.Span.{Span}
use Rattle.vx_arrow_interleave.specs.Sources.{part_at}
use Rattle.vx_arrow_interleave.specs.Spots.{Spot, spots}
use Rattle.std.specs.declared.alloc.Global.{Global}
use Rattle.std.specs.Prelude.{Vec, reverse, replicate}
use Rattle.vx_arrow_columns.proofs.Walks.{reverse_many}
use Rattle.std.proofs.lemmas.List.{map-append, reverse-append, reverse-reverse}

pub record WalkIs (m : ℕ) (gs : List (List Part)) (ss : List Spot) (i : ℕ) (w : walks.Walk) : Type 0 where
  pub jobs : length w.jobs.items ≡ i
  pub needs : length w.needs.items ≡ i
  pub given_is : given gs (ss ∷ []) ≡ map given_by w.jobs.items ++ given (drop i gs) (stack_of w)
  pub left_is : left gs (ss ∷ []) ≡ left (drop i gs) (stack_of w)
  pub needs_are : needs_of gs ss ≡ w.needs.items ++ needs_by (drop i gs) (given (drop i gs) (stack_of w))
  pub each : (k : ℕ) (d : Job) (n : Need) → k < i → IsDone m (get_or gs k []) (get_or w.jobs.items k d) (get_or w.needs.items k n)

pub first_walk : (m : ℕ) (gs : List (List Part)) (ss : List Spot) (w : walks.Walk) → IsStart ss w → WalkIs m gs ss 0 w
first_walk m gs ss w s = record {
  jobs = ap length s.jobs;
  needs = ap length s.needs;
  given_is = sym (ap₂ (λ (l : List Job) (st : List (List Spot)). map given_by l ++ given gs st) s.jobs s.stack);
  left_is = sym (ap (left gs) s.stack);
  needs_are = sym (ap₂ (λ (l : List Need) (st : List (List Spot)). l ++ needs_by gs (given gs st)) s.needs s.stack);
  each = λ k d n h. absurd (omega arith);
}

drop_open : {X : Type 0} (xs : List X) (i : ℕ) (d : X) → i < length xs → drop i xs ≡ get_or xs i d ∷ drop (i + 1) xs
drop_open [] i d h = absurd (omega arith)
drop_open (x ∷ xs) zero d h = ap (λ n. x ∷ drop n (x ∷ xs)) (let e : suc 0 ≡ 0 + 1 = omega arith in e)
drop_open (x ∷ xs) (suc i) d h = drop_open xs i d (omega arith) ∙ ap (λ n. get_or xs i d ∷ drop n (x ∷ xs)) (let e : suc (i + 1) ≡ suc i + 1 = omega arith in e)

append_one : {X : Type 0} (xs ys : List X) (x : X) → xs ++ x ∷ ys ≡ (xs ++ x ∷ []) ++ ys
append_one [] ys x = refl
append_one (y ∷ xs) ys x = ap (λ l. y ∷ l) (append_one xs ys x)

map_one : {X Y : Type 0} (f : X → Y) (xs : List X) (x : X) → map f (xs ++ x ∷ []) ≡ map f xs ++ f x ∷ []
map_one f [] x = refl
map_one f (y ∷ xs) x = ap (λ l. f y ∷ l) (map_one f xs x)

get_front : {X : Type 0} (xs : List X) (x d : X) (k : ℕ) → k < length xs → get_or (xs ++ x ∷ []) k d ≡ get_or xs k d
get_front [] x d k h = absurd (omega arith)
get_front (y ∷ xs) x d zero h = refl
get_front (y ∷ xs) x d (suc k) h = get_front xs x d k (omega arith)

get_last : {X : Type 0} (xs : List X) (x d : X) (k : ℕ) → k ≡ length xs → get_or (xs ++ x ∷ []) k d ≡ x
get_last [] x d k e = ap (λ n. get_or (x ∷ []) n d) e
get_last (y ∷ xs) x d k e = ap (λ n. get_or (y ∷ (xs ++ x ∷ [])) n d) e ∙ get_last xs x d (length xs) refl

pub next_walk : (m : ℕ) (gs : List (List Part)) (ss : List Spot) (i : ℕ) (ps : List Part) (old new : walks.Walk) → WalkIs m gs ss i old → IsVisited m ps old new → i < length gs → ps ≡ get_or gs i [] → WalkIs m gs ss (i + 1) new
next_walk m gs ss i ps old new w v low same =
    let top = given_by v.job in
    let rest = drop (i + 1) gs in
    let opened : drop i gs ≡ ps ∷ rest = drop_open gs i [] low ∙ ap (λ p. p ∷ rest) (sym same) in
    let step : given (drop i gs) (stack_of old) ≡ top ∷ given rest (stack_of new) = ap₂ given opened v.popped ∙ ap (λ st. top ∷ given rest st) (sym v.pushed) in
    let own : v.need ≡ need_of ps top = v.done.asked in
    record {
      jobs = ap length v.jobs ∙ length-append old.jobs.items (v.job ∷ []) ∙ omega (arith, w.jobs);
      needs = ap length v.needs ∙ length-append old.needs.items (v.need ∷ []) ∙ omega (arith, w.needs);
      given_is = w.given_is ∙ ap (λ l. map given_by old.jobs.items ++ l) step ∙ append_one (map given_by old.jobs.items) (given rest (stack_of new)) top
          ∙ ap (λ l. l ++ given rest (stack_of new)) (sym (map_one given_by old.jobs.items v.job) ∙ sym (ap (map given_by) v.jobs));
      left_is = w.left_is ∙ ap₂ left opened v.popped ∙ ap (left rest) (sym v.pushed);
      needs_are = w.needs_are ∙ ap (λ l. old.needs.items ++ l) (ap₂ needs_by opened step ∙ ap (λ n. n ∷ needs_by rest (given rest (stack_of new))) (sym own))
          ∙ append_one old.needs.items (needs_by rest (given rest (stack_of new))) v.need
          ∙ ap (λ l. l ++ needs_by rest (given rest (stack_of new))) (sym v.needs);
      each = λ k d n h. elim (cases_lt k i) as (λ _. IsDone m (get_or gs k []) (get_or new.jobs.items k d) (get_or new.needs.items k n)) [
        | inl before ↦
            subst (λ (l : List Job). IsDone m (get_or gs k []) (get_or l k d) (get_or new.needs.items k n)) (sym v.jobs)
            (subst (λ (l : List Need). IsDone m (get_or gs k []) (get_or (old.jobs.items ++ v.job ∷ []) k d) (get_or l k n)) (sym v.needs)
            (subst (λ (j : Job). IsDone m (get_or gs k []) j (get_or (old.needs.items ++ v.need ∷ []) k n)) (sym (get_front old.jobs.items v.job d k (omega (arith, w.jobs))))
            (subst (λ (a : Need). IsDone m (get_or gs k []) (get_or old.jobs.items k d) a) (sym (get_front old.needs.items v.need n k (omega (arith, w.needs)))) (w.each k d n before))))
        | inr last ↦
            let at : k ≡ i = omega arith in
            subst (λ (l : List Job). IsDone m (get_or gs k []) (get_or l k d) (get_or new.needs.items k n)) (sym v.jobs)
            (subst (λ (l : List Need). IsDone m (get_or gs k []) (get_or (old.jobs.items ++ v.job ∷ []) k d) (get_or l k n)) (sym v.needs)
            (subst (λ (j : Job). IsDone m (get_or gs k []) j (get_or (old.needs.items ++ v.need ∷ []) k n)) (sym (get_last old.jobs.items v.job d k (omega (arith, w.jobs))))
            (subst (λ (a : Need). IsDone m (get_or gs k []) v.job a) (sym (get_last old.needs.items v.need n k (omega (arith, w.needs))))
            (subst (λ (p : List Part). IsDone m p v.job v.need) (same ∙ ap (λ j. get_or gs j []) (sym at)) v.done))))
      ];
    }

drop_end : {X : Type 0} (xs : List X) (i : ℕ) → length xs ≤ i → drop i xs ≡ []
drop_end [] i h = drop_none i
  where
    drop_none : {X : Type 0} (i : ℕ) → drop {A = X} i [] ≡ []
    drop_none zero = refl
    drop_none (suc i) = refl
drop_end (x ∷ xs) zero h = absurd (omega arith)
drop_end (x ∷ xs) (suc i) h = drop_end xs i (omega arith)

append_none : {X : Type 0} (xs : List X) → xs ++ [] ≡ xs
append_none [] = refl
append_none (x ∷ xs) = ap (λ l. x ∷ l) (append_none xs)

pub last_walk : (m : ℕ) (gs : List (List Part)) (ss : List Spot) (i : ℕ) (w : walks.Walk) (plan : plans.Plan) → WalkIs m gs ss i w → i ≡ length gs → stack_of w ≡ [] → plan.jobs.items ≡ w.jobs.items → plan.needs.items ≡ w.needs.items → IsPlanned m gs ss plan
last_walk m gs ss i w plan is end empty jobs needs =
    let none : drop i gs ≡ [] = drop_end gs i (omega arith) in
    record {
      given = is.given_is ∙ ap₂ (λ (g : List (List Part)) (st : List (List Spot)). map given_by w.jobs.items ++ given g st) none empty ∙ append_none (map given_by w.jobs.items) ∙ ap (map given_by) (sym jobs);
      whole = is.left_is ∙ ap₂ left none empty;
      many = ap length jobs ∙ is.jobs ∙ end;
      needs = needs ∙ sym (is.needs_are ∙ ap₂ (λ (g : List (List Part)) (st : List (List Spot)). w.needs.items ++ needs_by g (given g st)) none empty ∙ append_none w.needs.items);
      done = λ k d n h.
          subst (λ (l : List Job). IsDone m (get_or gs k []) (get_or l k d) (get_or plan.needs.items k n)) (sym jobs)
          (subst (λ (l : List Need). IsDone m (get_or gs k []) (get_or w.jobs.items k d) (get_or l k n)) (sym needs) (is.each k d n (omega arith)));
    }

-- ---- one step

-- the rows that a list of spans has
abbrev rows_in : Vec Span Global → List Spot
rows_in v = spots v.items

turned_one : {X : Type 0} (xs : List X) (x : X) → reverse (xs ++ x ∷ []) ≡ x ∷ reverse xs
turned_one xs x = reverse-append xs (x ∷ [])

pub visited : (m : ℕ) (ps : List Part) (old new : walks.Walk) (ss : Vec Span Global) (rest : List (Vec Span Global)) (p : planned.Planned) → length ps ≡ m → old.stack.items ≡ rest ++ ss ∷ [] → IsPlannedJob ps (spots ss.items) p
    → new.stack.items ≡ rest ++ reverse (lists_in (part_at ps 0).children p.below) → new.jobs.items ≡ old.jobs.items ++ p.job ∷ [] → new.needs.items ≡ old.needs.items ++ p.need ∷ [] → IsVisited m ps old new
visited m ps old new ss rest p many popped is pushed jobs needs =
    let lists = lists_in (part_at ps 0).children p.below in
    let below : map rows_in lists ≡ belows ps (given_by p.job) = is.below ∙ ap (belows ps) (sym is.given) in
    record {
      job = p.job;
      need = p.need;
      rest = map rows_in (reverse rest);
      done = subst (λ (k : ℕ). IsDone k ps p.job p.need) many is.done;
      popped = ap (λ l. map rows_in (reverse l)) popped ∙ ap (map rows_in) (turned_one rest ss) ∙ ap (λ s. s ∷ map rows_in (reverse rest)) (sym is.given);
      pushed = ap (λ l. map rows_in (reverse l)) pushed
          ∙ ap (map rows_in) (reverse-append rest (reverse lists) ∙ ap (λ l. l ++ reverse rest) (reverse-reverse lists))
          ∙ map-append rows_in lists (reverse rest)
          ∙ ap (λ l. l ++ map rows_in (reverse rest)) below;
      jobs = jobs;
      needs = needs;
    }

-- how many sources the first group has
pub sources_first : (gs : List Group) (d : Group) → 0 < length gs → length (get_or gs 0 d).nodes.now ≡ sources_in gs
sources_first [] d h = absurd (omega arith)
sources_first (g ∷ gs) d h = refl

no_stack : {X : Type 0} (xs : List X) → length xs ≡ 0 → xs ≡ []
no_stack [] e = refl
no_stack (x ∷ xs) e = absurd (omega arith)

pub empty_stack : (w : walks.Walk) → length w.stack.items ≡ 0 → stack_of w ≡ []
empty_stack w e = ap (λ l. map rows_in (reverse l)) (no_stack w.stack.items e)

-- the same list for each of n children
pub same_turned : {X : Type 0} (n m : ℕ) (v : X) → n ≡ m → replicate n v ≡ reverse (replicate m v)
same_turned n m v e = ap (λ k. replicate k v) e ∙ sym (reverse_many m v)

-- the last list that is left is the next one that is pushed
pub pushed_last : {X : Type 0} (stack stack' left left' all : List X) (x : X) → left ≡ left' ++ x ∷ [] → stack' ≡ stack ++ x ∷ [] → stack ++ reverse left ≡ all → stack' ++ reverse left' ≡ all
pushed_last stack stack' left left' all x last push is =
    ap (λ l. l ++ reverse left') push ∙ sym (append_one stack (reverse left') x) ∙ sym (ap (λ l. stack ++ reverse l) last ∙ ap (λ l. stack ++ l) (turned_one left' x)) ∙ is

pub none_left : {X : Type 0} (stack left all : List X) → length left ≡ 0 → stack ++ reverse left ≡ all → stack ≡ all
none_left stack left all none is = sym (append_none stack) ∙ sym (ap (λ l. stack ++ reverse l) (no_stack left none)) ∙ is
