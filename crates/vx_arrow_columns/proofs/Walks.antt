-- Walks over a table, one node at a time.
use Rattle.std.proofs.Common.{zero, suc, ◌≡◌, ℕ, ◌+◌, ◌-◌, ◌<◌, ◌≤◌, Bool, false, cond, List, [], ◌∷◌, ◌++◌, length, get_or, drop, map, reverse, Option, Some, None, ap, ap₂, sym, ◌∙◌, refl, subst, inl, inr, arith, append_assoc, length-append}
use Rattle.std.specs.Prelude.{replicate}
use Rattle.std.specs.List.{All}
use Rattle.std.proofs.lemmas.Bool.{cases_lt}
use Rattle.std.proofs.lemmas.List.{length-reverse, reverse-append, reverse-reverse, map-append, drop_more, get_or_append_left, get_or-append_right, length-map, length-drop}
use Rattle.std.proofs.lemmas.List.Elements.{All-append, All-weaker, All-get_or, All-push, All-nil, All-cons, All-head, All-tail, All-same}
use Rattle.vx_arrow_image.specs.declared.image.Node as image
use Rattle.vx_arrow_image.specs.declared.image.Need.{Need}
use Rattle.vx_arrow_columns.specs.declared.places.Places.{Places}
use Rattle.vx_arrow_columns.specs.declared.plan.Job as jobs
use Rattle.vx_arrow_columns.specs.declared.plan.Walk as walks
use Rattle.vx_arrow_image.specs.Image.{Part, part_of, parts_of}
use Rattle.vx_arrow_columns.specs.Picks.{Picking, all_rows, belows, need_of, needs_by, picking_of, pickings}
use Rattle.vx_arrow_columns.specs.Measured.{list_places, list_valid}
use Rattle.vx_arrow_columns.specs.Planned.{Fits, IsListed, IsRead, IsSound, IsStart, IsVisited, IsWalking, are_runs, are_trees, picking_by, picking_in, places_in, runs_in, valid_in}
use Rattle.vx_arrow_columns.specs.Taken.{AreWithin}

-- ---- jobs keep their picks as lists are added

kept_places : (ls more : List Places) (k : ℕ) → k < length ls → places_in (ls ++ more) k ≡ places_in ls k
kept_places ls more k h =
    ap (λ (l : List (List ℕ)). get_or l k []) (map-append list_places ls more)
    ∙ get_or_append_left (map list_places ls) (map list_places more) [] k (omega (arith, length-map ls list_places))

kept_valid : (ls more : List Places) (k : ℕ) → k < length ls → valid_in (ls ++ more) k ≡ valid_in ls k
kept_valid ls more k h =
    ap (λ (l : List (List ℕ)). get_or l k []) (map-append list_valid ls more)
    ∙ get_or_append_left (map list_valid ls) (map list_valid more) [] k (omega (arith, length-map ls list_valid))

kept_runs : (ls more : List Places) (o : Option ℕ) → ((k : ℕ) → o ≡ Some k → k < length ls) → runs_in (ls ++ more) o ≡ runs_in ls o
kept_runs ls more None h = refl
kept_runs ls more (Some k) h =
    ap (λ (l : List Bool). get_or l k false) (map-append are_runs ls more)
    ∙ get_or_append_left (map are_runs ls) (map are_runs more) false k (let low = h k refl in omega (arith, length-map ls are_runs))

-- so runs serve the nodes that they served
pub kept_fits : (p : Part) (ls more new : List Places) (job : jobs.Job) → new ≡ ls ++ more → IsListed job (length ls) → Fits p ls job → Fits p new job
kept_fits p ls more new job e h fits = λ runs. fits (sym (ap (λ (l : List Places). runs_in l job.list) e ∙ kept_runs ls more job.list h) ∙ runs)

kept_by : (ps vs : List ℕ) (ls more : List Places) (o : Option ℕ) (add : ℕ) → ((k : ℕ) → o ≡ Some k → k < length ls) → picking_by ps vs (ls ++ more) o add ≡ picking_by ps vs ls o add
kept_by ps vs ls more None add h = refl
kept_by ps vs ls more (Some k) add h = ap₂ (λ (a : List ℕ) (b : List ℕ). picking_of a b add) (kept_places ls more k (h k refl)) (kept_valid ls more k (h k refl))

pub kept_job : (ps vs : List ℕ) (ls more new : List Places) (job : jobs.Job) → new ≡ ls ++ more → IsListed job (length ls) → picking_in ps vs new job ≡ picking_in ps vs ls job
unfolding picking_in
kept_job ps vs ls more new job e h =
    ap (λ (l : List Places). cond job.kept all_rows (picking_by ps vs l job.list job.add)) e ∙ ap (cond job.kept all_rows) (kept_by ps vs ls more job.list job.add h)

pub kept_jobs : (ps vs : List ℕ) (ls more new : List Places) (js : List jobs.Job) → new ≡ ls ++ more → All (λ job. IsListed job (length ls)) js → map (picking_in ps vs new) js ≡ map (picking_in ps vs ls) js
kept_jobs ps vs ls more new [] e h = refl
kept_jobs ps vs ls more new (j ∷ js) e h =
    ap₂ ◌∷◌ (kept_job ps vs ls more new j e (All-head (λ job. IsListed job (length ls)) j js h)) (kept_jobs ps vs ls more new js e (All-tail (λ job. IsListed job (length ls)) j js h))

pub still_listed : (job : jobs.Job) (m n : ℕ) → m ≤ n → IsListed job m → IsListed job n
still_listed job m n le h = λ k e. let low = h k e in omega arith

pub grown_len : (ls more new : List Places) → new ≡ ls ++ more → length ls ≤ length new
grown_len ls more new e = omega (arith, ap length e, length-append ls more)

still_sound : (ps vs : List ℕ) (ls more new : List Places) (job : jobs.Job) → new ≡ ls ++ more → IsSound ps vs ls job → IsSound ps vs new job
still_sound ps vs ls more new job e s = record {
  listed = still_listed job (length ls) (length new) (grown_len ls more new e) s.listed;
  within = subst (λ (q : Picking). AreWithin q.picks job.end) (sym (kept_job ps vs ls more new job e s.listed)) s.within;
}

-- ---- the walk so far

pub record WalkIs (parts : List Part) (ps vs : List ℕ) (i : ℕ) (w : walks.Walk) : Type 0 where
  pub done : length w.jobs.items ≡ i
  pub few : length w.stack.items + i ≤ length parts
  pub tree : are_trees parts 1 ≡ are_trees (drop i parts) (length w.stack.items)
  pub walk : pickings parts (picking_of ps vs 0 ∷ [])
      ≡ map (picking_in ps vs w.lists.items) w.jobs.items ++ pickings (drop i parts) (map (picking_in ps vs w.lists.items) (reverse w.stack.items))
  pub needs : needs_by parts (pickings parts (picking_of ps vs 0 ∷ []))
      ≡ w.needs.items ++ needs_by (drop i parts) (pickings (drop i parts) (map (picking_in ps vs w.lists.items) (reverse w.stack.items)))
  pub listed : All (λ job. IsListed job (length w.lists.items)) w.jobs.items
  pub read : (k : ℕ) (d : jobs.Job) (e : Part) → k < length w.jobs.items → IsRead (get_or parts k e) (picking_in ps vs w.lists.items (get_or w.jobs.items k d)) (drop (k + 1) parts)
  pub fits : (k : ℕ) (d : jobs.Job) (e : Part) → k < length w.jobs.items → Fits (get_or parts k e) w.lists.items (get_or w.jobs.items k d)
  pub walking : IsWalking ps vs w

root_within : (ps vs : List ℕ) (ls : List Places) (end : ℕ) → AreWithin (picking_of ps vs 0).picks end → IsSound ps vs ls (record { list = None; add = 0; end = end; kept = false })
unfolding picking_in
root_within ps vs ls end w = record { listed = λ k e. absurd (let f : None ≡ Some k = e in cc); within = w }

root_is : (ps vs : List ℕ) (ls : List Places) (end : ℕ) → picking_in ps vs ls (record { list = None; add = 0; end = end; kept = false }) ≡ picking_of ps vs 0
unfolding picking_in
root_is ps vs ls end = refl

pub first_walk : (parts : List Part) (ps vs : List ℕ) (end : ℕ) (w : walks.Walk) → 0 < length parts → IsStart end w → AreWithin (picking_of ps vs 0).picks end → WalkIs parts ps vs 0 w
first_walk parts ps vs end w some s within =
    let J = picking_in ps vs w.lists.items in
    let root : jobs.Job = record { list = None; add = 0; end = end; kept = false } in
    let stack : map J (reverse w.stack.items) ≡ picking_of ps vs 0 ∷ [] = ap (λ (l : List jobs.Job). map J (reverse l)) s.stack ∙ ap (λ (q : Picking). q ∷ []) (root_is ps vs w.lists.items end) in
    record {
      done = ap length s.jobs;
      few = omega (arith, ap length s.stack);
      tree = sym (ap (λ (l : List jobs.Job). are_trees parts (length l)) s.stack);
      walk = sym (ap₂ (λ (l : List jobs.Job) (q : List Picking). map J l ++ pickings parts q) s.jobs stack);
      needs = sym (ap₂ (λ (l : List Need) (q : List Picking). l ++ needs_by parts (pickings parts q)) s.needs stack);
      listed = All-same (λ job. IsListed job (length w.lists.items)) w.jobs.items [] s.jobs (All-nil (λ job. IsListed job (length w.lists.items)));
      read = λ k d e h. absurd (omega (arith, ap length s.jobs));
      fits = λ k d e h. absurd (omega (arith, ap length s.jobs));
      walking = All-same (IsSound ps vs w.lists.items) w.stack.items (root ∷ []) s.stack (All-cons (IsSound ps vs w.lists.items) root [] (root_within ps vs w.lists.items end within) (All-nil (IsSound ps vs w.lists.items)));
    }

pub push_many : {X : Type 0} (n : ℕ) (x : X) → replicate n x ++ x ∷ [] ≡ x ∷ replicate n x
push_many zero x = refl
push_many {X} (suc n) x = ap (λ (l : List X). x ∷ l) (push_many n x)

pub many_more : {X : Type 0} (n m : ℕ) (x : X) → m ≡ suc n → replicate n x ++ x ∷ [] ≡ replicate m x
many_more n m x e = push_many n x ∙ ap (λ k. replicate k x) (sym e)

pub reverse_many : {X : Type 0} (n : ℕ) (x : X) → reverse (replicate n x) ≡ replicate n x
reverse_many zero x = refl
reverse_many {X} (suc n) x = reverse-append (x ∷ []) (replicate n x) ∙ ap (λ (l : List X). l ++ x ∷ []) (reverse_many n x) ∙ push_many n x

-- the jobs of a popped stack
pub popped_sound : (ps vs : List ℕ) (ls : List Places) (stack rest : List jobs.Job) (job : jobs.Job) → stack ≡ rest ++ job ∷ [] → All (IsSound ps vs ls) stack → (All (IsSound ps vs ls) rest) × (IsSound ps vs ls job)
popped_sound ps vs ls stack [] job e h = (All-nil (IsSound ps vs ls), All-head (IsSound ps vs ls) job [] (All-same (IsSound ps vs ls) (job ∷ []) stack (sym e) h))
popped_sound ps vs ls stack (r ∷ rest) job e h =
    let all = All-same (IsSound ps vs ls) (r ∷ (rest ++ job ∷ [])) stack (sym e) h in
    let inside = popped_sound ps vs ls (rest ++ job ∷ []) rest job refl (All-tail (IsSound ps vs ls) r (rest ++ job ∷ []) all) in
    (All-cons (IsSound ps vs ls) r rest (All-head (IsSound ps vs ls) r (rest ++ job ∷ []) all) inside.0, inside.1)

turned : {X : Type 0} (P : X → Type 0) (xs : List X) → All P xs → All P (reverse xs)
turned P [] h = h
turned {X} P (x ∷ xs) h =
    All-same P (reverse (x ∷ xs)) (reverse xs ++ x ∷ []) (reverse-append (x ∷ []) xs)
    (All-append P (reverse xs) (x ∷ []) (turned P xs (All-tail P x xs h)) (All-cons P x [] (All-head P x xs h) (All-nil P)))

-- the next jobs stand before the others
pub turned_stack : (stack rest nexts : List jobs.Job) → stack ≡ rest ++ reverse nexts → reverse stack ≡ nexts ++ reverse rest
turned_stack stack rest nexts e = ap reverse e ∙ reverse-append rest (reverse nexts) ∙ ap (λ (l : List jobs.Job). l ++ reverse rest) (reverse-reverse nexts)

next_stack : (ps vs : List ℕ) (node : image.Node) (old new : walks.Walk) (v : (behind : List image.Node) × IsVisited ps vs node behind old new) → IsWalking ps vs old
    → map (picking_in ps vs new.lists.items) (reverse new.stack.items)
    ≡ belows (part_of node) (picking_in ps vs old.lists.items v.1.job) ++ map (picking_in ps vs old.lists.items) (reverse v.1.rest)
next_stack ps vs node old new v walking =
    let V = v.1 in
    let N = V.nexts_are in
    let J' = picking_in ps vs new.lists.items in
    let both = popped_sound ps vs old.lists.items old.stack.items V.rest V.job V.popped walking in
    let all = All-weaker (IsSound ps vs old.lists.items) (λ job. IsListed job (length old.lists.items)) (λ j s. s.listed) V.rest both.0 in
    ap (map J') (turned_stack new.stack.items V.rest V.nexts V.stack)
    ∙ map-append J' V.nexts (reverse V.rest)
    ∙ ap₂ ◌++◌ (N.picks ps vs V.read.within V.inner_is)
    (kept_jobs ps vs old.lists.items N.more new.lists.items (reverse V.rest) N.grown (turned (λ job. IsListed job (length old.lists.items)) V.rest all))

pub next_walk : (parts : List Part) (ps vs : List ℕ) (i m : ℕ) (node : image.Node) (d : Part) (behind : List image.Node) (old new : walks.Walk) → WalkIs parts ps vs i old → IsVisited ps vs node behind old new
    → i < length parts → get_or parts i d ≡ part_of node → parts_of behind ≡ drop (i + 1) parts → m ≡ i + 1 → WalkIs parts ps vs m new
next_walk parts ps vs i m node d behind old new w V low at left step =
    let p = part_of node in
    let J = picking_in ps vs old.lists.items in
    let J' = picking_in ps vs new.lists.items in
    let grown = V.nexts_are.grown in
    let more = V.nexts_are.more in
    let both = popped_sound ps vs old.lists.items old.stack.items V.rest V.job V.popped w.walking in
    let longer = grown_len old.lists.items more new.lists.items grown in
    let split : drop i parts ≡ p ∷ drop m parts = drop_more parts i d low ∙ ap₂ (λ (q : Part) (n : ℕ). q ∷ drop n parts) at (sym step) in
    let top : reverse old.stack.items ≡ V.job ∷ reverse V.rest = ap reverse V.popped ∙ reverse-append V.rest (V.job ∷ []) in
    let next = next_stack ps vs node old new (behind, V) w.walking in
    let same : J' V.next ≡ J V.job = V.picks in
    let seen : map J' new.jobs.items ≡ map J old.jobs.items ++ J V.job ∷ [] =
    ap (map J') V.jobs ∙ map-append J' old.jobs.items (V.next ∷ [])
    ∙ ap₂ (λ (l : List Picking) (q : Picking). l ++ q ∷ []) (kept_jobs ps vs old.lists.items more new.lists.items old.jobs.items grown w.listed) same in
    let to_come : pickings (drop i parts) (map J (reverse old.stack.items)) ≡ J V.job ∷ pickings (drop m parts) (map J' (reverse new.stack.items)) =
    ap₂ (λ (l : List Part) (s : List jobs.Job). pickings l (map J s)) split top ∙ ap (λ (q : List Picking). J V.job ∷ pickings (drop m parts) q) (sym next) in
    let count : length new.stack.items ≡ length V.rest + node.children = ap length V.stack ∙ length-append V.rest (reverse V.nexts) ∙ ap (λ n. length V.rest + n) (length-reverse V.nexts ∙ V.nexts_are.count) in
    let was : length old.stack.items ≡ suc (length V.rest) = ap length V.popped ∙ length-append V.rest (V.job ∷ []) ∙ (let e : length V.rest + 1 ≡ suc (length V.rest) = omega arith in e) in
    let fewer = V.few in
    let rest : length behind ≡ length parts - (i + 1) = sym (length-map behind part_of) ∙ ap length left ∙ length-drop (i + 1) parts in
    let done : length new.jobs.items ≡ i + 1 = ap length V.jobs ∙ length-append old.jobs.items (V.next ∷ []) ∙ ap (λ n. n + 1) w.done in
    record {
      done = done ∙ sym step;
      few = omega arith;
      tree = w.tree ∙ ap₂ are_trees split was ∙ ap (are_trees (drop m parts)) (omega arith);
      walk = w.walk ∙ ap (λ (l : List Picking). map J old.jobs.items ++ l) to_come
          ∙ sym (append_assoc (map J old.jobs.items) (J V.job ∷ []) (pickings (drop m parts) (map J' (reverse new.stack.items))))
          ∙ ap (λ (l : List Picking). l ++ pickings (drop m parts) (map J' (reverse new.stack.items))) (sym seen);
      needs = w.needs ∙ ap (λ (l : List Need). old.needs.items ++ l) (ap₂ needs_by split to_come)
          ∙ sym (append_assoc old.needs.items (need_of p (J V.job) ∷ []) (needs_by (drop m parts) (pickings (drop m parts) (map J' (reverse new.stack.items)))))
          ∙ ap (λ (l : List Need). l ++ needs_by (drop m parts) (pickings (drop m parts) (map J' (reverse new.stack.items)))) (sym V.needs);
      listed = All-same (λ job. IsListed job (length new.lists.items)) new.jobs.items (old.jobs.items ++ V.next ∷ []) V.jobs
          (All-push (λ job. IsListed job (length new.lists.items)) old.jobs.items V.next
          (All-weaker (λ job. IsListed job (length old.lists.items)) (λ job. IsListed job (length new.lists.items)) (λ j h. still_listed j _ _ longer h) old.jobs.items w.listed)
          V.listed);
      read = λ k g e h. elim (cases_lt k i) as (λ _. IsRead (get_or parts k e) (J' (get_or new.jobs.items k g)) (drop (k + 1) parts)) [
        | inl before ↦
            let here : k < length old.jobs.items = omega (arith, w.done) in
            let old_job = job_before k g here in
            subst (λ (q : Picking). IsRead (get_or parts k e) q (drop (k + 1) parts))
            (sym (ap J' old_job ∙ kept_job ps vs old.lists.items more new.lists.items (get_or old.jobs.items k g) grown (All-get_or (λ job. IsListed job (length old.lists.items)) old.jobs.items k g here w.listed)))
            (w.read k g e here)
        | inr after ↦
            let now : k ≡ i = omega arith in
            let new_job = job_now k g (now ∙ sym w.done) in
            let this : get_or parts k e ≡ p = ap (λ n. get_or parts n e) now ∙ any_default parts i e d low ∙ at in
            let tail : parts_of behind ≡ drop (k + 1) parts = left ∙ ap (λ n. drop (n + 1) parts) (sym now) in
            subst (λ (q : Picking). IsRead (get_or parts k e) q (drop (k + 1) parts)) (sym (ap J' new_job ∙ same))
            (subst (λ (r : Part). IsRead r (J V.job) (drop (k + 1) parts)) (sym this)
            (subst (λ (l : List Part). IsRead p (J V.job) l) tail V.read))
      ];
      fits = λ k g e h. elim (cases_lt k i) as (λ _. Fits (get_or parts k e) new.lists.items (get_or new.jobs.items k g)) [
        | inl before ↦
            let here : k < length old.jobs.items = omega (arith, w.done) in
            subst (λ (j : jobs.Job). Fits (get_or parts k e) new.lists.items j) (sym (job_before k g here))
            (kept_fits (get_or parts k e) old.lists.items more new.lists.items (get_or old.jobs.items k g) grown (All-get_or (λ job. IsListed job (length old.lists.items)) old.jobs.items k g here w.listed) (w.fits k g e here))
        | inr after ↦
            let now : k ≡ i = omega arith in
            let this : get_or parts k e ≡ p = ap (λ n. get_or parts n e) now ∙ any_default parts i e d low ∙ at in
            subst (λ (j : jobs.Job). Fits (get_or parts k e) new.lists.items j) (sym (job_now k g (now ∙ sym w.done)))
            (subst (λ (r : Part). Fits r new.lists.items V.next) (sym this) V.fits)
      ];
      walking = All-same (IsSound ps vs new.lists.items) new.stack.items (V.rest ++ reverse V.nexts) V.stack
          (All-append (IsSound ps vs new.lists.items) V.rest (reverse V.nexts)
          (All-weaker (IsSound ps vs old.lists.items) (IsSound ps vs new.lists.items) (λ j s. still_sound ps vs old.lists.items more new.lists.items j grown s) V.rest both.0)
          (turned (IsSound ps vs new.lists.items) V.nexts (V.nexts_are.sound ps vs both.1 V.read.within V.inner_is)));
    }
  where
    job_before : (k : ℕ) (g : jobs.Job) → k < length old.jobs.items → get_or new.jobs.items k g ≡ get_or old.jobs.items k g
    job_before k g here = ap (λ (l : List jobs.Job). get_or l k g) V.jobs ∙ get_or_append_left old.jobs.items (V.next ∷ []) g k here

    job_now : (k : ℕ) (g : jobs.Job) → k ≡ length old.jobs.items → get_or new.jobs.items k g ≡ V.next
    job_now k g e =
        ap (λ (l : List jobs.Job). get_or l k g) V.jobs ∙ get_or-append_right old.jobs.items (V.next ∷ []) (length old.jobs.items) k g refl (omega arith)
        ∙ ap (λ n. get_or (V.next ∷ []) n g) (let z : k - length old.jobs.items ≡ 0 = omega arith in z)

    any_default : {X : Type 0} (xs : List X) (i : ℕ) (d e : X) → i < length xs → get_or xs i d ≡ get_or xs i e
    any_default [] i d e h = absurd (omega arith)
    any_default (x ∷ xs) zero d e h = refl
    any_default (x ∷ xs) (suc i) d e h = any_default xs i d e (omega arith)
