-- Walks over a table, and what it has to hold where its rows at picks have a meaning.
use Rattle.std.proofs.Common.{zero, suc, ◌≡◌, ℕ, ◌+◌, ◌-◌, ◌<◌, ◌≤◌, true, false, List, [], ◌∷◌, ◌++◌, length, get_or, take, drop, map, reverse, None, ap, ap₂, sym, ◌∙◌, refl, subst, arith}
use Rattle.std.specs.Prelude.{⊤}
use Rattle.std.proofs.lemmas.Bool.{eqb-true}
use Rattle.std.proofs.lemmas.List.{drop_more, get_or-append_right, get_or-take, length-append, length-map, length-take-le, reverse-append}
use Rattle.vx_arrow_image.specs.declared.image.Node as image
use Rattle.vx_arrow_image.specs.declared.refusal.Lack.{Lack}
use Rattle.vx_arrow_image.specs.declared.refusal.Refusal.{Refusal}
use Rattle.vx_arrow_image.specs.Image.{Part, part_of, parts_of}
use Rattle.vx_arrow_columns.specs.declared.faults.Fault.{Fault}
use Rattle.vx_arrow_columns.specs.declared.faults.Fault.TheVariants as faults
use Rattle.vx_arrow_columns.specs.declared.places.Places.{Places}
use Rattle.vx_arrow_columns.specs.declared.plan.Job as jobs
use Rattle.vx_arrow_columns.specs.declared.plan.Walk as walks
use Rattle.vx_arrow_columns.specs.Answer.{IsPlanRefusal}
use Rattle.vx_arrow_columns.specs.Picks.{Picking, is_counted, picking_of, pickings}
use Rattle.vx_arrow_columns.specs.Planned.{IsStart, IsVisited, are_trees, child_lens, picking_in, tree_lens}
use Rattle.vx_arrow_columns.specs.Reached.{AreSoundAt, IsVisitFault}
use Rattle.vx_arrow_columns.specs.Sound.{IsFault, IsJobFault, IsSoundAt, refusal_at}
use Rattle.vx_arrow_columns.proofs.Trees.{empty, lens_len, lens_more}
use Rattle.vx_arrow_columns.proofs.Walks.{WalkIs, next_walk, turned_stack}

-- ---- what trees are asked for

-- each tree has as many rows as its job asks for
abbrev pub AreLong : List jobs.Job → List ℕ → Type 0
AreLong [] lens = ⊤
AreLong (j ∷ js) [] = ⊥
AreLong (j ∷ js) (n ∷ lens) = (j.end ≤ n) × AreLong js lens

long_many : (js rest : List jobs.Job) (c : ℕ) (lens : List ℕ) → length js ≡ c → c ≤ length lens → ((j : ℕ) (d : jobs.Job) → j < c → (get_or js j d).end ≤ get_or lens j 0) → AreLong rest (drop c lens) → AreLong (js ++ rest) lens
long_many js rest zero lens e few h a = subst (λ (l : List jobs.Job). AreLong (l ++ rest) lens) (sym (empty js e)) a
long_many [] rest (suc c) lens e few h a = absurd (omega arith)
long_many (x ∷ js) rest (suc c) [] e few h a = absurd (omega arith)
long_many (x ∷ js) rest (suc c) (n ∷ lens) e few h a = (h 0 x (omega arith), long_many js rest c lens (omega arith) (omega arith) (λ j d low. h (suc j) d (omega arith)) a)

trees_few : (ps : List Part) (n : ℕ) → are_trees ps n ≡ true → n ≤ length ps
trees_few [] n t = omega (arith, eqb-true _ _ t)
trees_few (p ∷ ps) zero t = omega arith
trees_few (p ∷ ps) (suc n) t = omega (arith, trees_few ps (p.children + n) t)

trees_some : (p : Part) (ps : List Part) (n : ℕ) → are_trees (p ∷ ps) n ≡ true → 0 < n
trees_some p ps zero t = absurd (let f : false ≡ true = t in cc)
trees_some p ps (suc n) t = omega arith

trees_next : (p : Part) (ps : List Part) (n m : ℕ) → n ≡ suc m → are_trees (p ∷ ps) n ≡ true → are_trees ps (p.children + m) ≡ true
trees_next p ps n m e t = sym (ap (are_trees (p ∷ ps)) e) ∙ t

-- ---- the last of a list

pub record Snoc {X : Type 0} (xs : List X) : Type 0 where
  pub front : List X
  pub last : X
  pub is : xs ≡ front ++ last ∷ []

snoc_of : {X : Type 0} (xs : List X) → 0 < length xs → Snoc xs
snoc_of [] h = absurd (omega arith)
snoc_of (x ∷ []) h = record { front = []; last = x; is = refl }
snoc_of {X} (x ∷ (y ∷ ys)) h = let r = snoc_of (y ∷ ys) (omega arith) in record { front = x ∷ r.front; last = r.last; is = ap (λ (l : List X). x ∷ l) r.is }

pub same_last : {X : Type 0} (xs ys : List X) (x y : X) → xs ++ x ∷ [] ≡ ys ++ y ∷ [] → x ≡ y
same_last {X} xs ys x y e = let f : x ∷ reverse xs ≡ y ∷ reverse ys = sym (reverse-append xs (x ∷ [])) ∙ ap (reverse {A = X}) e ∙ reverse-append ys (y ∷ []) in cc

-- ---- the node that comes

-- its picks are those of the last job
picks_now : (parts : List Part) (ps vs : List ℕ) (i : ℕ) (w : walks.Walk) (p : Part) (rest : List jobs.Job) (job : jobs.Job) (r : Picking) → WalkIs parts ps vs i w → drop i parts ≡ p ∷ drop (i + 1) parts → w.stack.items ≡ rest ++ job ∷ []
    → get_or (pickings parts (picking_of ps vs 0 ∷ [])) i r ≡ picking_in ps vs w.lists.items job
picks_now parts ps vs i w p rest job r is split popped =
    let J = picking_in ps vs w.lists.items in
    let top : reverse w.stack.items ≡ job ∷ reverse rest = ap reverse popped ∙ reverse-append rest (job ∷ []) in
    let come : pickings (drop i parts) (map J (reverse w.stack.items)) ≡ pickings (p ∷ drop (i + 1) parts) (map J (job ∷ reverse rest)) = ap₂ (λ (l : List Part) (s : List jobs.Job). pickings l (map J s)) split top in
    let left = pickings (p ∷ drop (i + 1) parts) (map J (job ∷ reverse rest)) in
    let done : length (map J w.jobs.items) ≡ i = length-map w.jobs.items J ∙ is.done in
    ap (λ (l : List Picking). get_or l i r) (is.walk ∙ ap (λ (l : List Picking). map J w.jobs.items ++ l) come)
    ∙ get_or-append_right (map J w.jobs.items) left i i r done (omega arith)
    ∙ ap (λ (n : ℕ). get_or left n r) (let z : i - i ≡ 0 = omega arith in z)

split_at : (parts : List Part) (i : ℕ) (d p : Part) → i < length parts → get_or parts i d ≡ p → drop i parts ≡ p ∷ drop (i + 1) parts
split_at parts i d p low at = drop_more parts i d low ∙ ap (λ (q : Part). q ∷ drop (i + 1) parts) at

-- it is sound there, where the table is
sound_now : (parts : List Part) (ps vs : List ℕ) (i : ℕ) (w : walks.Walk) (p d : Part) (rest : List jobs.Job) (job : jobs.Job) → WalkIs parts ps vs i w → i < length parts → get_or parts i d ≡ p → w.stack.items ≡ rest ++ job ∷ [] → AreSoundAt parts (picking_of ps vs 0)
    → (picking_in ps vs w.lists.items job).kept ≡ false → IsSoundAt p (picking_in ps vs w.lists.items job).picks (child_lens p (drop (i + 1) parts))
sound_now parts ps vs i w p d rest job is low at popped s own =
    let q = picking_in ps vs w.lists.items job in
    let here = picks_now parts ps vs i w p rest job q is (split_at parts i d p low at) popped in
    let sound = s.sound i d q low (ap (λ (x : Picking). x.kept) here ∙ own) in
    subst (λ (x : Part). IsSoundAt x q.picks (child_lens x (drop (i + 1) parts))) at
    (subst (λ (x : Picking). IsSoundAt (get_or parts i d) x.picks (child_lens (get_or parts i d) (drop (i + 1) parts))) here sound)

-- ---- the walk so far

pub record WalkFits (parts : List Part) (ps vs : List ℕ) (i : ℕ) (w : walks.Walk) : Type 0 where
  pub is : WalkIs parts ps vs i w
  pub long : AreSoundAt parts (picking_of ps vs 0) → AreLong (reverse w.stack.items) (tree_lens (drop i parts))

first_long : (parts : List Part) (d : Part) (root : jobs.Job) → 0 < length parts → root.end ≤ (get_or parts 0 d).len → AreLong (root ∷ []) (tree_lens parts)
first_long [] d root some low = absurd (omega arith)
first_long (p ∷ ps) d root some low = subst (AreLong (root ∷ [])) (sym (lens_more p ps)) (low, tt)

pub first_fits : (parts : List Part) (ps vs : List ℕ) (d : Part) (end : ℕ) (w : walks.Walk) → WalkIs parts ps vs 0 w → IsStart end w → 0 < length parts → end ≤ (get_or parts 0 d).len → WalkFits parts ps vs 0 w
first_fits parts ps vs d end w is s some low =
    let root : jobs.Job = record { list = None; add = 0; end = end; kept = false } in
    record { is = is; long = λ sound. subst (λ (l : List jobs.Job). AreLong (reverse l) (tree_lens parts)) (sym s.stack) (first_long parts d root some low) }

-- what the next jobs ask for
long_now : (parts : List Part) (ps vs : List ℕ) (i : ℕ) (w : walks.Walk) (p d : Part) (rest : List jobs.Job) (job : jobs.Job) → WalkFits parts ps vs i w → i < length parts → get_or parts i d ≡ p → w.stack.items ≡ rest ++ job ∷ [] → AreSoundAt parts (picking_of ps vs 0)
    → (job.end ≤ p.len) × AreLong (reverse rest) (drop p.children (tree_lens (drop (i + 1) parts)))
long_now parts ps vs i w p d rest job f low at popped s =
    let top : reverse w.stack.items ≡ job ∷ reverse rest = ap reverse popped ∙ reverse-append rest (job ∷ []) in
    let lens : tree_lens (drop i parts) ≡ p.len ∷ drop p.children (tree_lens (drop (i + 1) parts)) = ap tree_lens (split_at parts i d p low at) ∙ lens_more p (drop (i + 1) parts) in
    subst (AreLong (job ∷ reverse rest)) lens (subst (λ (l : List jobs.Job). AreLong l (tree_lens (drop i parts))) top (f.long s))

trees_now : (parts : List Part) (ps vs : List ℕ) (i : ℕ) (w : walks.Walk) (p d : Part) (rest : List jobs.Job) (job : jobs.Job) → WalkIs parts ps vs i w → i < length parts → get_or parts i d ≡ p → w.stack.items ≡ rest ++ job ∷ [] → AreSoundAt parts (picking_of ps vs 0)
    → are_trees (drop (i + 1) parts) (p.children + length rest) ≡ true
trees_now parts ps vs i w p d rest job is low at popped s =
    let was : length w.stack.items ≡ suc (length rest) = ap length popped ∙ length-append rest (job ∷ []) ∙ (let e : length rest + 1 ≡ suc (length rest) = omega arith in e) in
    trees_next p (drop (i + 1) parts) (length w.stack.items) (length rest) was (sym (ap (λ (l : List Part). are_trees l (length w.stack.items)) (split_at parts i d p low at)) ∙ sym is.tree ∙ s.tree)

pub next_fits : (parts : List Part) (ps vs : List ℕ) (i : ℕ) (node : image.Node) (d : Part) (behind : List image.Node) (old new : walks.Walk) → WalkFits parts ps vs i old → IsVisited ps vs node behind old new
    → i < length parts → get_or parts i d ≡ part_of node → parts_of behind ≡ drop (i + 1) parts → WalkFits parts ps vs (i + 1) new
next_fits parts ps vs i node d behind old new f V low at left = record {
  is = next_walk parts ps vs i (i + 1) node d behind old new f.is V low at left refl;
  long = λ s.
      let p = part_of node in
      let L = tree_lens (drop (i + 1) parts) in
      let count : length L ≡ p.children + length V.rest = lens_len (drop (i + 1) parts) (p.children + length V.rest) (trees_now parts ps vs i old p d V.rest V.job f.is low at V.popped s) in
      let few : p.children ≤ length L = omega arith in
      let asks = V.asks (take p.children L) (sound_now parts ps vs i old p d V.rest V.job f.is low at V.popped s) in
      let N = V.nexts_are in
      let far : (j : ℕ) (d : jobs.Job) → j < p.children → (get_or V.nexts j d).end ≤ get_or L j 0 =
      λ j d h. subst (λ (n : ℕ). (get_or V.nexts j d).end ≤ n) (get_or-take p.children L j 0 h) (N.far ps vs (take p.children L) (length-take-le p.children L few) V.inner_is asks j d h) in
      subst (λ (l : List jobs.Job). AreLong l L) (sym (turned_stack new.stack.items V.rest V.nexts V.stack)) (long_many V.nexts (reverse V.rest) p.children L N.count few far (long_now parts ps vs i old p d V.rest V.job f low at V.popped s).1);
}

-- ---- why a walk stops

pub visit_refused : (parts : List Part) (ps vs : List ℕ) (i n : ℕ) (node : image.Node) (d : Part) (behind : List image.Node) (w : walks.Walk) (e : Fault) → WalkFits parts ps vs i w → IsVisitFault ps vs node behind w e
    → i < length parts → get_or parts i d ≡ part_of node → parts_of behind ≡ drop (i + 1) parts → IsPlanRefusal parts (picking_of ps vs 0) n (refusal_at e i)
visit_refused parts ps vs i n node d behind w (faults.Lacks lack) f lacks low at left = λ s.
    let p = part_of node in
    let whole = sym (ap (λ (l : List Part). are_trees l (length w.stack.items)) (split_at parts i d p low at)) ∙ sym f.is.tree ∙ s.tree in
    let cut = snoc_of w.stack.items (trees_some p (drop (i + 1) parts) (length w.stack.items) whole) in
    let few : node.children + length cut.front ≤ length behind = omega (arith, trees_few (drop (i + 1) parts) (p.children + length cut.front) (trees_now parts ps vs i w p d cut.front cut.last f.is low at cut.is s), ap length left, length-map behind part_of) in
    lacks cut.last cut.front cut.is few
    (λ own. subst (λ (l : List Part). IsSoundAt p (picking_in ps vs w.lists.items cut.last).picks (child_lens p l)) (sym left) (sound_now parts ps vs i w p d cut.front cut.last f.is low at cut.is s own))
    (long_now parts ps vs i w p d cut.front cut.last f low at cut.is s).0
visit_refused parts ps vs i n node d behind w faults.Overflow f many low at left = record {
  there = low;
  many = λ e r.
      ap₂ (λ (x : Part) (y : Picking). is_counted x y.picks) (any_default parts i e d low ∙ at) (picks_now parts ps vs i w (part_of node) many.rest many.job r f.is (split_at parts i d (part_of node) low at) many.popped)
      ∙ many.many;
}
  where
    any_default : {X : Type 0} (xs : List X) (i : ℕ) (d e : X) → i < length xs → get_or xs i d ≡ get_or xs i e
    any_default [] i d e h = absurd (omega arith)
    any_default (x ∷ xs) zero d e h = refl
    any_default (x ∷ xs) (suc i) d e h = any_default xs i d e (omega arith)
visit_refused parts ps vs i n node d behind w faults.NoMemory f h low at left = tt

-- a fault at the picks of the job that comes
pub job_refused : (ps vs : List ℕ) (node : image.Node) (behind : List image.Node) (w : walks.Walk) (lists : List Places) (rest : List jobs.Job) (job : jobs.Job) (e : Fault) → lists ≡ w.lists.items → w.stack.items ≡ rest ++ job ∷ []
    → IsJobFault (part_of node) (picking_in ps vs lists job) (child_lens (part_of node) (parts_of behind)) job.end e → IsVisitFault ps vs node behind w e
job_refused ps vs node behind w lists rest job (faults.Lacks lack) same popped h = λ other front is few sound low.
    let lens = child_lens (part_of node) (parts_of behind) in
    let one : job ≡ other = same_last rest front job other (sym popped ∙ is) in
    let moved = subst (λ (j : jobs.Job). IsJobFault (part_of node) (picking_in ps vs lists j) lens j.end (faults.Lacks lack)) one h in
    subst (λ (l : List Places). IsJobFault (part_of node) (picking_in ps vs l other) lens other.end (faults.Lacks lack)) same moved sound low
job_refused ps vs node behind w lists rest job faults.Overflow same popped h = record {
  job = job;
  rest = rest;
  popped = popped;
  many = sym (ap (λ (l : List Places). is_counted (part_of node) (picking_in ps vs l job).picks) same) ∙ h;
}
job_refused ps vs node behind w lists rest job faults.NoMemory same popped h = tt

pub no_nodes : (parts : List Part) (q : Picking) (n : ℕ) (lack : Lack) (r : Refusal) → length parts ≡ 0 → r ≡ refusal_at (faults.Lacks lack) 0 → IsPlanRefusal parts q n r
no_nodes parts q n lack r none e =
    let bare : parts ≡ [] = empty parts none in
    subst (λ (x : Refusal). IsPlanRefusal parts q n x) (sym e) (λ s. let f : false ≡ true = sym (ap (λ (l : List Part). are_trees l 1) bare) ∙ s.tree in absurd cc)

pub no_memory : (parts : List Part) (q : Picking) (n i : ℕ) (e : Fault) (r : Refusal) → IsFault ⊥ ⊥ e → r ≡ refusal_at e i → IsPlanRefusal parts q n r
no_memory parts q n i (faults.Lacks lack) r h same = absurd h
no_memory parts q n i faults.Overflow r h same = absurd h
no_memory parts q n i faults.NoMemory r h same = subst (λ (x : Refusal). IsPlanRefusal parts q n x) (sym same) tt
