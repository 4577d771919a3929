-- The jobs of children, and the plan at the end of a walk.
use Rattle.std.proofs.Common.{zero, suc, ◌≡◌, ℕ, ◌+◌, ◌-◌, ◌^◌, ◌<◌, ◌≤◌, leb, Bool, true, false, cond, List, [], ◌∷◌, ◌++◌, length, get_or, drop, map, reverse, Option, Some, None, ap, ap₂, sym, ◌∙◌, refl, subst, arith, append_assoc, length-append}
use Rattle.std.specs.Prelude.{◌||◌, replicate}
use Rattle.std.proofs.lemmas.List.Elements.{All-replicate}
use Rattle.vx_arrow_columns.specs.declared.needs.Inner.{Inner}
use Rattle.std.specs.List.{list_all, range_with_len}
use Rattle.std.specs.Option.{option_map}
use Rattle.std.proofs.lemmas.Bool.{and_parts, leb-true}
use Rattle.std.proofs.lemmas.List.{append-nil, drop_all, ext_get_or, get_or-map, length-map, map-append, get_or-append_right, length-replicate, reverse-append}
use Rattle.std.proofs.lemmas.List.FromFn.{get_or-map-range_with_len, length-map-range_with_len}
use Rattle.vx_arrow_image.specs.declared.format.Format.{Format}
use Rattle.vx_arrow_image.specs.declared.format.Format.TheVariants.{DenseUnion, Fixed}
use Rattle.vx_arrow_image.specs.declared.image.Node as image
use Rattle.vx_arrow_image.specs.declared.image.Need.{Need}
use Rattle.vx_arrow_columns.specs.declared.needs.Inner.TheVariants as inners
use Rattle.vx_arrow_columns.specs.declared.needs.Items.{Items}
use Rattle.vx_arrow_columns.specs.declared.needs.Measure.{Measure}
use Rattle.vx_arrow_columns.specs.declared.places.Places.{Places}
use Rattle.vx_arrow_columns.specs.declared.places.Picks.{Picks}
use Rattle.vx_arrow_columns.specs.declared.places.RunPicks.{RunPicks}
use Rattle.vx_arrow_columns.specs.declared.plan.Job as jobs
use Rattle.vx_arrow_columns.specs.declared.plan.JobPicks.{JobPicks}
use Rattle.vx_arrow_columns.specs.declared.plan.JobPicks.TheVariants as kinds
use Rattle.vx_arrow_columns.specs.declared.plan.Plan as plans
use Rattle.vx_arrow_columns.specs.declared.plan.Walk as walks
use Rattle.vx_arrow_image.specs.Image.{Part, part_of}
use Rattle.vx_arrow_columns.specs.Asked.{the_picking, the_run_picking}
use Rattle.vx_arrow_columns.specs.Picks.{Picking, all_rows, below, belows, bytes_for, dense_picking, dense_rows, has_bits, inner, inners, inners_by, keeps, kept_need, need_of, needs_by, offsets_len, own_need, sizes_len, picking_of, pickings, picks_of, shows_by, shows_valid, values_len}
use Rattle.vx_arrow_columns.specs.Planned.{AreNexts, ArePicks, AreSplitJobs, Fits, HasEach, IsJobMeasured, IsListed, IsListedJob, IsPlain, IsPushed, IsSettled, IsSound, child_lens, IsNext, IsPlanned, are_runs, are_trees, first_len, picking_by, picking_in, places_in, runs_in, valid_in}
use Rattle.vx_arrow_columns.specs.Measured.{AreDenseItems, AreMeasured, IsInner, IsMeasured, list_places, list_valid, moved}
use Rattle.vx_arrow_columns.specs.Sound.{AsksBelow}
use Rattle.vx_arrow_columns.specs.Taken.{AreInside, AreWithin, IsOwnTaken, IsViewTaken, TakenAs}
use Rattle.vx_arrow_columns.proofs.Measures.{none_inside, same_picking}
use Rattle.vx_arrow_columns.proofs.PickReads.{length_picks, moved_picks}
use Rattle.vx_arrow_columns.proofs.Trees.{belows_len, empty, same_belows}
use Rattle.vx_arrow_columns.proofs.Walks.{WalkIs, grown_len, kept_job, reverse_many, still_listed}
use Rattle.vx_lemmas.proofs.Lists.{map-replicate}

-- ---- the same picks, further on

moved_by : (ps vs : List ℕ) (ls : List Places) (o : Option ℕ) (a m by n : ℕ) → AreWithin (picking_by ps vs ls o a).picks n → by + n < 2 ^ 60 → (a + by < 2 ^ 64 → m ≡ a + by)
    → picking_by ps vs ls o m ≡ moved by (picking_by ps vs ls o a)
moved_by ps vs ls None a m by n w few e = same_picking _ _ (moved_picks ps vs a m by n w few e) refl refl
moved_by ps vs ls (Some k) a m by n w few e = same_picking _ _ (moved_picks (places_in ls k) (valid_in ls k) a m by n w few e) refl refl

moved_own : (ps vs : List ℕ) (ls : List Places) (b : Bool) (o : Option ℕ) (a m by n : ℕ) → (cond b all_rows (picking_by ps vs ls o a)).kept ≡ false → AreWithin (cond b all_rows (picking_by ps vs ls o a)).picks n → by + n < 2 ^ 60
    → (a + by < 2 ^ 64 → m ≡ a + by) → picking_by ps vs ls o m ≡ moved by (cond b all_rows (picking_by ps vs ls o a))
moved_own ps vs ls true o a m by n own w few e = absurd (let f : true ≡ false = own in cc)
moved_own ps vs ls false o a m by n own w few e = moved_by ps vs ls o a m by n w few e

moved_in : (ps vs : List ℕ) (ls : List Places) (job next : jobs.Job) (by n : ℕ) → next.list ≡ job.list → next.kept ≡ false → (picking_in ps vs ls job).kept ≡ false → AreWithin (picking_in ps vs ls job).picks n → by + n < 2 ^ 60
    → (job.add + by < 2 ^ 64 → next.add ≡ job.add + by) → picking_in ps vs ls next ≡ moved by (picking_in ps vs ls job)
unfolding picking_in
moved_in ps vs ls job next by n same bare own w few e =
    ap₂ (λ (o : Option ℕ) (b : Bool). cond b all_rows (picking_by ps vs ls o next.add)) same bare
    ∙ moved_own ps vs ls job.kept job.list job.add next.add by n own w few e

back : (by j : ℕ) (x : Option ℕ) → option_map (λ i. by + i) x ≡ Some j → (i : ℕ) × ((x ≡ Some i) × (j ≡ by + i))
back by j None e = absurd (let f : None ≡ Some j = e in cc)
back by j (Some x) e = (x, (refl, (let f : Some (by + x) ≡ Some j = e in cc)))

pub moved_within : (q r : List (Option ℕ)) (by n m : ℕ) → r ≡ map (option_map (λ i. by + i)) q → AreWithin q n → by + n ≤ m → AreWithin r m
moved_within q r by n m is within far = record {
  below = λ k j h e.
      let f = option_map (λ (i : ℕ). by + i) in
      let low : k < length q = omega (arith, ap length is, length-map q f) in
      let at = back by j (get_or q k None) (sym (get_or-map f q k None None low) ∙ sym (ap (λ (l : List (Option ℕ)). get_or l k None) is) ∙ e) in
      let there = within.below k at.0 low at.1.0 in
      omega (arith, at.1.1);
}

same_below : (p : Part) (q r : Picking) → inner p q ≡ moved p.offset q → q.kept ≡ false → r ≡ moved p.offset q → r ≡ below p q
same_below p q r is own e = e ∙ sym is ∙ sym (ap (λ b. cond b all_rows (inner p q)) own)

pub long_at : (n : ℕ) (lens : List ℕ) (j : ℕ) → list_all (λ l. leb n l) lens ≡ true → j < length lens → n ≤ get_or lens j 0
long_at n [] j h low = absurd (omega arith)
long_at n (l ∷ lens) zero h low = leb-true _ _ (and_parts _ _ h).0
long_at n (l ∷ lens) (suc j) h low = long_at n lens j (and_parts _ _ h).1 (omega arith)

pub next_same : (node : image.Node) (job next : jobs.Job) (old : List Places) → next.list ≡ job.list → next.kept ≡ false → (job.add + node.offset < 2 ^ 64 → next.add ≡ job.add + node.offset) → (node.offset + node.len < 2 ^ 64 → next.end ≡ node.offset + node.len)
    → IsNext node job inners.Same old old next
next_same node job next old same bare sum end = record {
  more = [];
  grown = sym (append-nil old);
  listed = λ h k e. h k (sym same ∙ e);
  within = λ ps vs below w in_order.
      let is = moved_in ps vs old job next node.offset node.len same bare in_order.1 w in_order.2 sum in
      moved_within (picking_in ps vs old job).picks (picking_in ps vs old next).picks node.offset node.len next.end (ap (λ (q : Picking). q.picks) is) w (let last = end (omega (arith, in_order.2)) in omega arith);
  picks = λ ps vs w in_order. ap (replicate node.children) (same_below (part_of node) (picking_in ps vs old job) (picking_in ps vs old next) in_order.0 in_order.1 (moved_in ps vs old job next node.offset node.len same bare in_order.1 w in_order.2 sum)) ∙ same_belows (part_of node) (picking_in ps vs old job) in_order.3;
  far = λ ps vs lens count in_order long j h. let last = end (omega (arith, in_order.2)) in let low = long_at (node.offset + node.len) lens j long (omega arith) in omega arith;
}

-- ---- no children

pub next_leaf : (node : image.Node) (job : jobs.Job) (old : List Places) → IsNext node job inners.Leaf old old job
next_leaf node job old = record {
  more = [];
  grown = sym (append-nil old);
  listed = λ h. h;
  within = λ ps vs below w none. below;
  picks = λ ps vs w none.
      let q = picking_in ps vs old job in
      empty (replicate node.children q) (length-replicate node.children q ∙ none) ∙ sym (empty (belows (part_of node) q) (belows_len (part_of node) q ∙ none));
  far = λ ps vs lens count none long j h. absurd (omega arith);
}

-- ---- children that are kept

pub kept_is : (ps vs : List ℕ) (ls : List Places) (job : jobs.Job) → job.kept ≡ true → picking_in ps vs ls job ≡ all_rows
unfolding picking_in
kept_is ps vs ls job e = ap (λ b. cond b all_rows (picking_by ps vs ls job.list job.add)) e

pub none_within : (n : ℕ) → AreWithin all_rows.picks n
none_within n = record { below = λ k i h e. absurd (omega arith) }

pub next_kept : (node : image.Node) (job next : jobs.Job) (old : List Places) → next.list ≡ None → next.end ≡ 0 → next.kept ≡ true → IsNext node job inners.Kept old old next
next_kept node job next old bare none kept = record {
  more = [];
  grown = sym (append-nil old);
  listed = λ h k e. absurd (let f : None ≡ Some k = sym bare ∙ e in cc);
  within = λ ps vs below w are. subst (λ (q : Picking). AreWithin q.picks next.end) (sym (kept_is ps vs old next kept)) (none_within next.end);
  picks = λ ps vs w are. ap (replicate node.children) (kept_is ps vs old next kept) ∙ sym are;
  far = λ ps vs lens count are long j h. omega arith;
}

-- a node of a job that is kept
pub kept_measured : (node : image.Node) (behind : List Part) (own : Picking) (n : Need) → own ≡ all_rows → n ≡ kept_need (part_of node) → IsJobMeasured (part_of node) own behind (record { need = n; inner = inners.Kept })
kept_measured node behind own n is e =
    let not_own : own.kept ≡ false → ⊥ = λ f. let g : true ≡ false = sym (ap (λ (q : Picking). q.kept) is) ∙ f in cc in
    record {
      read = record {
        within = subst (λ (q : Picking). AreWithin q.picks node.len) (sym is) (none_within node.len);
        readable = λ f. absurd (not_own f);
        inside = λ f. absurd (not_own f);
      };
      need = e ∙ sym (ap (need_of (part_of node)) is);
      children = ap (belows (part_of node)) is;
      asks = λ lens s. tt;
    }

-- and one of a job that is not
pub own_measured : (p : Part) (ps vs : List ℕ) (add : ℕ) (own : Picking) (behind : List Part) (n : Need) (m : Measure) → picking_of ps vs add ≡ own → IsMeasured p (picking_of ps vs add) m → AreInside p (picks_of ps vs add) (child_lens p behind) → n ≡ own_need p (picking_of ps vs add)
    → IsJobMeasured p own behind (record { need = n; inner = m.inner })
own_measured p ps vs add own behind n m e is inside need =
    let r = is.readable in
    subst (λ (q : Picking). IsJobMeasured p q behind (record { need = n; inner = m.inner })) e
    (record { read = record { within = r.within; readable = λ f. r; inside = λ f. inside }; need = need; children = is.children; asks = λ lens s. is.asks lens (s refl) })

-- ---- rooms

pub own_node : (p w : Part) (q : Picking) (f : Format) → p.format ≡ Some f → keeps (Some f) ≡ false → IsOwnTaken p w q → TakenAs false (keeps p.format) p w q
own_node p w q f format e t = subst (λ (b : Bool). TakenAs false b p w q) (sym (ap keeps format ∙ e)) t

pub view_node : (p w : Part) (q : Picking) (f : Format) → p.format ≡ Some f → keeps (Some f) ≡ true → IsViewTaken p w q → TakenAs false (keeps p.format) p w q
view_node p w q f format e t = subst (λ (b : Bool). TakenAs false b p w q) (sym (ap keeps format ∙ e)) t

-- ---- a list of places

last_list : (ls : List Places) (x : Places) (f : Places → List ℕ) → get_or (map f (ls ++ x ∷ [])) (length ls) [] ≡ f x
last_list ls x f =
    ap (λ (l : List (List ℕ)). get_or l (length ls) []) (map-append f ls (x ∷ []))
    ∙ get_or-append_right (map f ls) (f x ∷ []) (length ls) (length ls) [] (length-map ls f) (omega arith)
    ∙ ap (λ n. get_or (f x ∷ []) n []) (let z : length ls - length ls ≡ 0 = omega arith in z)

listed_in : (ps vs : List ℕ) (ls new : List Places) (x : Places) (next : jobs.Job) → new ≡ ls ++ x ∷ [] → next.list ≡ Some (length ls) → next.add ≡ 0 → next.kept ≡ false → picking_in ps vs new next ≡ picking_of (list_places x) (list_valid x) 0
unfolding picking_in
listed_in ps vs ls new x next e list none bare =
    ap (λ b. cond b all_rows (picking_by ps vs new next.list next.add)) bare
    ∙ ap₂ (λ (o : Option ℕ) (a : ℕ). picking_by ps vs new o a) list none
    ∙ ap₂ (λ (a : List ℕ) (b : List ℕ). picking_of a b 0)
    (ap (λ (l : List Places). places_in l (length ls)) e ∙ last_list ls x list_places)
    (ap (λ (l : List Places). valid_in l (length ls)) e ∙ last_list ls x list_valid)

pub list_pushed : (old new : List Places) (items : Items) (next : jobs.Job) → new ≡ old ++ items.list ∷ [] → next.list ≡ Some (length old) → next.add ≡ 0 → next.end ≡ items.end → next.kept ≡ false → IsListedJob new next items
list_pushed old new items next e list none end bare = record {
  listed = λ k f. let at : Some (length old) ≡ Some k = sym list ∙ f in let here : length old ≡ k = cc in omega (arith, ap length e, length-append old (items.list ∷ []));
  picks = λ ps vs. listed_in ps vs old new items.list next e list none bare;
  end = end;
}

pub next_listed : (node : image.Node) (job next : jobs.Job) (old new : List Places) (items : Items) → new ≡ old ++ items.list ∷ [] → IsListedJob new next items → IsNext node job (inners.Listed items) old new next
next_listed node job next old new items e own = record {
  more = items.list ∷ [];
  grown = e;
  listed = λ h. own.listed;
  within = λ ps vs below w are.
      subst (λ (q : Picking). AreWithin q.picks next.end) (sym (own.picks ps vs))
      (subst (λ (n : ℕ). AreWithin (picking_of (list_places items.list) (list_valid items.list) 0).picks n) (sym own.end) are.within);
  picks = λ ps vs w are. ap (replicate node.children) (own.picks ps vs ∙ sym are.listed) ∙ same_belows (part_of node) (picking_in ps vs old job) are.same;
  far = λ ps vs lens count are long j h. let first : j ≡ 0 = omega (arith, are.one) in let same = ap (λ (k : ℕ). get_or lens k 0) first in omega (arith, own.end);
}

-- ---- the jobs of all children

nth_same : (n j : ℕ) (x d : jobs.Job) → j < n → get_or (replicate n x) j d ≡ x
nth_same zero j x d h = absurd (omega arith)
nth_same (suc n) zero x d h = refl
nth_same (suc n) (suc j) x d h = nth_same n j x d (omega arith)

-- the same one for each child
pub nexts_of : (node : image.Node) (job next : jobs.Job) (inside : Inner) (old new : List Places) → IsNext node job inside old new next → AreNexts node job inside old new (replicate node.children next)
nexts_of node job next inside old new n =
    let c = node.children in
    record {
      more = n.more;
      grown = n.grown;
      count = length-replicate c next;
      sound = λ ps vs s w are. All-replicate (IsSound ps vs new) c next (record { listed = n.listed s.listed; within = n.within ps vs s.within w are });
      picks = λ ps vs w are. map-replicate (picking_in ps vs new) c next ∙ n.picks ps vs w are;
      far = λ ps vs lens count are asks j d h. let low = n.far ps vs lens count are asks j h in let same = ap (λ (x : jobs.Job). x.end) (nth_same c j next d h) in omega arith;
    }

pub next_is : (node : image.Node) (job next n : jobs.Job) (inside i : Inner) (old new l : List Places) → inside ≡ i → new ≡ l → next ≡ n → IsNext node job i old l n → IsNext node job inside old new next
next_is node job next n inside i old new l a b e is =
    subst (λ (x : Inner). IsNext node job x old new next) (sym a)
    (subst (λ (x : List Places). IsNext node job i old x next) (sym b) (subst (λ (x : jobs.Job). IsNext node job i old l x) (sym e) is))

pub pushed_same : (node : image.Node) (job next : jobs.Job) (inside : Inner) (old new : List Places) (stack pushed : List jobs.Job) → IsNext node job inside old new next → pushed ≡ stack ++ replicate node.children next → IsPushed node job inside old new stack pushed
pushed_same node job next inside old new stack pushed n e = record {
  nexts = replicate node.children next;
  stack_is = e ∙ ap (λ l. stack ++ l) (sym (reverse_many node.children next));
  nexts_are = nexts_of node job next inside old new n;
}

-- ---- a job of its own for each child

still_own : (ls more new : List Places) (job : jobs.Job) (i : Items) → new ≡ ls ++ more → IsListedJob ls job i → IsListedJob new job i
still_own ls more new job i e s = record {
  listed = still_listed job (length ls) (length new) (grown_len ls more new e) s.listed;
  picks = λ ps vs. kept_job ps vs ls more new job e s.listed ∙ s.picks ps vs;
  end = s.end;
}

-- the picks that were popped have their jobs
pub record SplitsTo (all left : List Items) (old new : List Places) (stack pushed : List jobs.Job) : Type 0 where
  pub done : List Items
  pub cut : all ≡ left ++ done
  pub are : AreSplitJobs done old new stack pushed

pub no_splits : (items : List Items) (lists : List Places) (stack : List jobs.Job) → SplitsTo items items lists lists stack stack
no_splits items lists stack = record {
  done = [];
  cut = sym (append-nil items);
  are = record {
    nexts = [];
    more = [];
    grown = sym (append-nil lists);
    stack_is = sym (append-nil stack);
    count = refl;
    are = λ j d e h. absurd (omega arith);
  };
}

pub more_splits : (all left rest : List Items) (last : Items) (old mid new : List Places) (stack before after : List jobs.Job) (next : jobs.Job) → left ≡ rest ++ last ∷ [] → new ≡ mid ++ last.list ∷ [] → IsListedJob new next last → after ≡ before ++ next ∷ []
    → SplitsTo all left old mid stack before → SplitsTo all rest old new stack after
more_splits all left rest last old mid new stack before after next popped grown own pushed s =
    let J = s.are in
    record {
      done = last ∷ s.done;
      cut = s.cut ∙ ap (λ l. l ++ s.done) popped ∙ append_assoc rest (last ∷ []) s.done;
      are = record {
        nexts = next ∷ J.nexts;
        more = J.more ++ last.list ∷ [];
        grown = grown ∙ ap (λ l. l ++ last.list ∷ []) J.grown ∙ append_assoc old J.more (last.list ∷ []);
        stack_is = pushed ∙ ap (λ l. l ++ next ∷ []) J.stack_is ∙ append_assoc stack (reverse J.nexts) (next ∷ []) ∙ ap (λ l. stack ++ l) (sym (reverse-append (next ∷ []) J.nexts));
        count = ap suc J.count;
        are = λ j d e h. go J.nexts s.done d e (λ k low. still_own mid (last.list ∷ []) new (get_or J.nexts k d) (get_or s.done k e) grown (J.are k d e low)) j h;
      };
    }
  where
    go : (nexts : List jobs.Job) (done : List Items) (d : jobs.Job) (e : Items) → ((k : ℕ) → k < length done → IsListedJob new (get_or nexts k d) (get_or done k e)) → (j : ℕ) → j < length (last ∷ done) → IsListedJob new (get_or (next ∷ nexts) j d) (get_or (last ∷ done) j e)
    go nexts done d e behind zero h = own
    go nexts done d e behind (suc j) h = behind j (omega arith)

pub all_splits : (all left : List Items) (old new : List Places) (stack pushed : List jobs.Job) → length left ≡ 0 → SplitsTo all left old new stack pushed → AreSplitJobs all old new stack pushed
all_splits all left old new stack pushed none s = subst (λ (l : List Items). AreSplitJobs l old new stack pushed) (sym (s.cut ∙ ap (λ l. l ++ s.done) (empty left none))) s.are

pub each_of : (p : Part) (q : Picking) (inside : Inner) → IsInner p q inside → HasEach inside p.children
each_of p q inners.Leaf is = tt
each_of p q inners.Same is = tt
each_of p q (inners.Listed items) is = tt
each_of p q inners.Kept is = tt
each_of p q (inners.Split items) is = is.2.len

some_of : {X : Type 0} (xs : List X) (j : ℕ) → j < length xs → X
some_of [] j h = absurd (omega arith)
some_of (x ∷ xs) j h = x

-- the picks of each child of a dense union
abbrev pub SplitInner : Part → Picking → List Items → Type 0
SplitInner p q items = (q.kept ≡ false) × (p.format ≡ Some DenseUnion) × AreDenseItems p q p.children items

pub pushed_split : (node : image.Node) (job : jobs.Job) (inside : Inner) (items : List Items) (old new : List Places) (stack pushed : List jobs.Job) → length items ≡ node.children → ((ps vs : List ℕ) → IsInner (part_of node) (picking_in ps vs old job) inside → SplitInner (part_of node) (picking_in ps vs old job) items)
    → ((lens : List ℕ) → AsksBelow (part_of node) lens inside → (j : ℕ) (d : Items) → j < length items → (get_or items j d).end ≤ get_or lens j 0) → AreSplitJobs items old new stack pushed → IsPushed node job inside old new stack pushed
pushed_split node job inside items old new stack pushed each inner_is asks_are A =
    let p = part_of node in
    let n = node.children in
    record {
      nexts = A.nexts;
      stack_is = A.stack_is;
      nexts_are = record {
        more = A.more;
        grown = A.grown;
        count = A.count ∙ each;
        sound = λ ps vs s w is j d h.
            let low : j < length items = omega (arith, A.count) in
            let e = some_of items j low in
            let own = A.are j d e low in
            let item = (inner_is ps vs is).2.are j e (omega (arith, each)) in
            record {
              listed = own.listed;
              within = subst (λ (q : Picking). AreWithin q.picks (get_or A.nexts j d).end) (sym (own.picks ps vs ∙ item.picks)) (subst (λ (m : ℕ). AreWithin (dense_rows p (picking_in ps vs old job).picks j) m) (sym own.end) item.within);
            };
        picks = λ ps vs w is.
            let q = picking_in ps vs old job in
            let J = picking_in ps vs new in
            let split = inner_is ps vs is in
            let belows_are : belows p q ≡ map (dense_picking p q) (range_with_len 0 n) = ap (λ b. cond b (replicate n all_rows) (inners p q)) split.0 ∙ ap (λ (f : Option Format). inners_by f p q) split.1 in
            let size : length (map J A.nexts) ≡ n = length-map A.nexts J ∙ A.count ∙ each in
            ext_get_or all_rows (map J A.nexts) (map (dense_picking p q) (range_with_len 0 n)) (size ∙ sym (length-map-range_with_len (dense_picking p q) 0 n)) (λ j h.
            let low : j < n = omega (arith, size) in
            let here : j < length items = omega (arith, each) in
            let e = some_of items j here in
            let own = A.are j job e here in
            let item = split.2.are j e low in
            get_or-map J A.nexts j job all_rows (omega (arith, A.count)) ∙ own.picks ps vs ∙ item.picks
            ∙ sym (get_or-map-range_with_len (dense_picking p q) 0 n j j all_rows low (let z : 0 + j ≡ j = omega arith in z)))
            ∙ sym belows_are;
        far = λ ps vs lens count is asks j d h.
            let low : j < length items = omega (arith, each) in
            let e = some_of items j low in
            let own = A.are j d e low in
            omega (arith, own.end, asks_are lens asks j e low);
      };
    }

-- ---- the end of a walk

pub plan_done : (parts : List Part) (ps vs : List ℕ) (i : ℕ) (w : walks.Walk) → WalkIs parts ps vs i w → i ≡ length parts
    → IsPlanned parts ps vs (record { jobs = w.jobs; lists = w.lists; needs = w.needs })
plan_done parts ps vs i w is all =
    let few = is.few in
    let J = picking_in ps vs w.lists.items in
    let none : w.stack.items ≡ [] = empty w.stack.items (omega arith) in
    let behind : drop i parts ≡ [] = drop_all i parts (omega arith) in
    let left : pickings (drop i parts) (map J (reverse w.stack.items)) ≡ [] = ap₂ (λ (l : List Part) (s : List jobs.Job). pickings l (map J (reverse s))) behind none in
    record {
      tree = is.tree ∙ ap₂ (λ (l : List Part) (s : List jobs.Job). are_trees l (length s)) behind none;
      len = is.done ∙ all;
      picks = sym (is.walk ∙ ap (λ (l : List Picking). map J w.jobs.items ++ l) left ∙ append-nil (map J w.jobs.items));
      needs = sym (is.needs ∙ ap₂ (λ (l : List Part) (q : List Picking). w.needs.items ++ needs_by l q) behind left ∙ append-nil w.needs.items);
      listed = is.listed;
      read = is.read;
      fits = is.fits;
    }

-- ---- the picks of a job

pub none_is : (ps vs : List ℕ) (ls : List Places) (job : jobs.Job) (add : ℕ) → job.list ≡ None → add ≡ job.add → job.kept ≡ false → picking_of ps vs add ≡ picking_in ps vs ls job
unfolding picking_in
none_is ps vs ls job add e same bare = ap (λ (a : ℕ). picking_of ps vs a) same ∙ sym (ap₂ (λ (o : Option ℕ) (b : Bool). cond b all_rows (picking_by ps vs ls o job.add)) e bare)

pub some_is : (ps vs : List ℕ) (ls : List Places) (job : jobs.Job) (k : ℕ) (x d : Places) (places valid : List ℕ) → job.list ≡ Some k → k < length ls → get_or ls k d ≡ x → places ≡ list_places x → valid ≡ list_valid x → job.kept ≡ false
    → picking_of places valid job.add ≡ picking_in ps vs ls job
unfolding picking_in
some_is ps vs ls job k x d places valid e low at same bits bare =
    ap₂ (λ (a : List ℕ) (b : List ℕ). picking_of a b job.add)
    (same ∙ sym (ap list_places at) ∙ sym (get_or-map list_places ls k d [] low))
    (bits ∙ sym (ap list_valid at) ∙ sym (get_or-map list_valid ls k d [] low))
    ∙ sym (ap₂ (λ (o : Option ℕ) (b : Bool). cond b all_rows (picking_by ps vs ls o job.add)) e bare)

pub runs_are : (ls : List Places) (job : jobs.Job) (k : ℕ) (x d : Places) (b : Bool) → job.list ≡ Some k → k < length ls → get_or ls k d ≡ x → are_runs x ≡ b → runs_in ls job.list ≡ b
runs_are ls job k x d b e low at is = ap (runs_in ls) e ∙ get_or-map are_runs ls k d false low ∙ ap are_runs at ∙ is

-- what each kind of picks says
pub kept_picks : (q : Picking) (b : Bool) (r : JobPicks) → r ≡ kinds.Kept → ArePicks q b r → q ≡ all_rows
kept_picks q b r e is = subst (ArePicks q b) e is

pub run_picks : (q : Picking) (b : Bool) (r : JobPicks) (x : RunPicks) → r ≡ kinds.Runs x → ArePicks q b r → (the_run_picking x ≡ q) × (b ≡ true)
run_picks q b r x e is = subst (ArePicks q b) e is

pub each_picks : (q : Picking) (b : Bool) (r : JobPicks) (x : Picks) → r ≡ kinds.Each x → ArePicks q b r → the_picking x ≡ q
each_picks q b r x e is = subst (ArePicks q b) e is

-- ---- runs that become places

-- the job as it was
pub still_settled : (p : Part) (job : jobs.Job) (ls : List Places) → IsListed job (length ls) → Fits p ls job → IsSettled p job ls ls job
still_settled p job ls h fits = record {
  more = [];
  grown = sym (append-nil ls);
  listed = h;
  picks = λ ps vs. refl;
  end = refl;
  fits = fits;
}

same_job : (ps vs : List ℕ) (new ls : List Places) (job next : jobs.Job) (k m : ℕ) → job.list ≡ Some k → next.list ≡ Some m → next.add ≡ job.add → next.kept ≡ job.kept → places_in new m ≡ places_in ls k → valid_in new m ≡ valid_in ls k
    → picking_in ps vs new next ≡ picking_in ps vs ls job
unfolding picking_in
same_job ps vs new ls job next k m list last add kept places valid =
    ap₂ (λ (o : Option ℕ) (b : Bool). cond b all_rows (picking_by ps vs new o next.add)) last kept
    ∙ ap (λ (a : ℕ). cond job.kept all_rows (picking_of (places_in new m) (valid_in new m) a)) add
    ∙ ap₂ (λ (a : List ℕ) (b : List ℕ). cond job.kept all_rows (picking_of a b job.add)) places valid
    ∙ sym (ap (λ (o : Option ℕ). cond job.kept all_rows (picking_by ps vs ls o job.add)) list)

last_runs : (ls : List Places) (x : Places) → get_or (map are_runs (ls ++ x ∷ [])) (length ls) false ≡ are_runs x
last_runs ls x =
    ap (λ (l : List Bool). get_or l (length ls) false) (map-append are_runs ls (x ∷ []))
    ∙ get_or-append_right (map are_runs ls) (are_runs x ∷ []) (length ls) (length ls) false (length-map ls are_runs) (omega arith)
    ∙ ap (λ n. get_or (are_runs x ∷ []) n false) (let z : length ls - length ls ≡ 0 = omega arith in z)

-- places in place of runs
pub places_settled : (p : Part) (job next : jobs.Job) (ls new : List Places) (k : ℕ) (x y d : Places) → job.list ≡ Some k → k < length ls → get_or ls k d ≡ x → list_places y ≡ list_places x → list_valid y ≡ list_valid x → are_runs y ≡ false
    → new ≡ ls ++ y ∷ [] → next.list ≡ Some (length ls) → next.add ≡ job.add → next.kept ≡ job.kept → next.end ≡ job.end → IsSettled p job ls new next
places_settled p job next ls new k x y d list low at places valid bare grown last add kept end = record {
  more = y ∷ [];
  grown = grown;
  listed = λ j e. let same : length ls ≡ j = (let f : Some (length ls) ≡ Some j = sym last ∙ e in cc) in omega (arith, ap length grown, length-append ls (y ∷ []));
  picks = λ ps vs. same_job ps vs new ls job next k (length ls) list last add kept
      (ap (λ (l : List Places). places_in l (length ls)) grown ∙ last_list ls y list_places ∙ places ∙ sym (ap list_places at) ∙ sym (get_or-map list_places ls k d [] low))
      (ap (λ (l : List Places). valid_in l (length ls)) grown ∙ last_list ls y list_valid ∙ valid ∙ sym (ap list_valid at) ∙ sym (get_or-map list_valid ls k d [] low));
  end = end;
  fits = λ runs.
      let none : runs_in new next.list ≡ false = ap (runs_in new) last ∙ ap (λ (l : List Places). runs_in l (Some (length ls))) grown ∙ last_runs ls y ∙ bare in
      absurd (let f : true ≡ false = sym runs ∙ none in cc);
}

-- the jobs of the children of a job that was settled
pub nexts_settled : (node : image.Node) (job next : jobs.Job) (inside : Inner) (old mid new : List Places) (nexts : List jobs.Job) → IsSettled (part_of node) job old mid next → AreNexts node next inside mid new nexts → AreNexts node job inside old new nexts
nexts_settled node job next inside old mid new nexts s n = record {
  more = s.more ++ n.more;
  grown = n.grown ∙ ap (λ l. l ++ n.more) s.grown ∙ append_assoc old s.more n.more;
  count = n.count;
  sound = λ ps vs own w is.
      let same = sym (s.picks ps vs) in
      n.sound ps vs (record { listed = s.listed; within = subst (λ (m : ℕ). AreWithin (picking_in ps vs mid next).picks m) (sym s.end) (subst (λ (q : Picking). AreWithin q.picks job.end) same own.within) })
      (subst (λ (q : Picking). AreWithin q.picks node.len) same w) (subst (λ (q : Picking). IsInner (part_of node) q inside) same is);
  picks = λ ps vs w is.
      let same = sym (s.picks ps vs) in
      n.picks ps vs (subst (λ (q : Picking). AreWithin q.picks node.len) same w) (subst (λ (q : Picking). IsInner (part_of node) q inside) same is) ∙ ap (belows (part_of node)) (s.picks ps vs);
  far = λ ps vs lens count is asks j d h. n.far ps vs lens count (subst (λ (q : Picking). IsInner (part_of node) q inside) (sym (s.picks ps vs)) is) asks j d h;
}

-- ---- needs

pub need_is : (p : Part) (ps vs : List ℕ) (add valid offs values sizes : ℕ) → valid ≡ cond (shows_valid p (picking_of ps vs add)) (bytes_for (length ps)) 0 → offs ≡ offsets_len p.format (length ps) → values ≡ values_len p.format p (picks_of ps vs add)
    → sizes ≡ sizes_len p.format p (length ps) → record { len = length ps; valid = valid; offsets = offs; values = values; sizes = sizes } ≡ own_need p (picking_of ps vs add)
need_is p ps vs add valid offs values sizes e f g h =
    let make : ℕ → ℕ → ℕ → ℕ → ℕ → Need = λ a b c d s. record { len = a; valid = b; offsets = c; values = d; sizes = s } in
    let n = sym (length_picks ps vs add) in
    ap (λ (a : ℕ). make a valid offs values sizes) n
    ∙ ap (λ (b : ℕ). make (length (picks_of ps vs add)) b offs values sizes) (e ∙ ap (λ (m : ℕ). cond (shows_valid p (picking_of ps vs add)) (bytes_for m) 0) n)
    ∙ ap₂ (λ (c : ℕ) (d : ℕ). make (length (picks_of ps vs add)) (cond (shows_valid p (picking_of ps vs add)) (bytes_for (length (picks_of ps vs add))) 0) c d sizes) (f ∙ ap (offsets_len p.format) n) g
    ∙ ap (make (length (picks_of ps vs add)) (cond (shows_valid p (picking_of ps vs add)) (bytes_for (length (picks_of ps vs add))) 0) (offsets_len p.format (length (picks_of ps vs add))) (values_len p.format p (picks_of ps vs add))) (h ∙ ap (sizes_len p.format p) n)

-- ---- rows at runs of places

pub run_need : (p : Part) (ps : List ℕ) (add n values : ℕ) → IsPlain p → n ≡ length ps → values ≡ values_len p.format p (picks_of ps [] add) → record { len = n; valid = 0; offsets = 0; values = values; sizes = 0 } ≡ own_need p (picking_of ps [] add)
run_need p ps add n values plain size are =
    let make : ℕ → ℕ → ℕ → ℕ → ℕ → Need = λ a b c d s. record { len = a; valid = b; offsets = c; values = d; sizes = s } in
    let q = picking_of ps [] add in
    let bare : shows_valid p q ≡ false = ap₂ (λ (f : Option Format) (v : List ℕ). shows_by f (has_bits v || false)) plain.0 plain.1 in
    ap (λ (m : ℕ). make m 0 0 values 0) size
    ∙ need_is p ps [] add 0 0 values 0 (sym (ap (λ (b : Bool). cond b (bytes_for (length ps)) 0) bare)) (sym (ap (λ (f : Option Format). offsets_len f (length ps)) plain.0)) are (sym (ap (λ (f : Option Format). sizes_len f p (length ps)) plain.0))

pub run_measured : (p : Part) (ps : List ℕ) (add n : ℕ) (m : Measure) → IsPlain p → n ≡ length ps → AreWithin (picks_of ps [] add) p.len → AreMeasured p n m
    → (behind : List Part) → IsJobMeasured p (picking_of ps [] add) behind (record { need = record { len = n; valid = 0; offsets = 0; values = m.values; sizes = 0 }; inner = m.inner })
run_measured p ps add n m plain size within are behind =
    let is = are ps [] add (sym size) within in
    own_measured p ps [] add (picking_of ps [] add) behind _ m refl is (none_inside p (picks_of ps [] add) (child_lens p behind) Fixed plain.0 refl) (run_need p ps add n m.values plain size is.values)

-- ---- the needs of a plan

needs_len : (ps : List Part) (qs : List Picking) → length qs ≡ length ps → length (needs_by ps qs) ≡ length ps
needs_len [] qs e = refl
needs_len (p ∷ ps) [] e = absurd (omega arith)
needs_len (p ∷ ps) (q ∷ qs) e = omega (arith, needs_len ps qs (omega arith))

pub planned_picks : (parts : List Part) (ps vs : List ℕ) (plan : plans.Plan) → IsPlanned parts ps vs plan → length (pickings parts (picking_of ps vs 0 ∷ [])) ≡ length parts
planned_picks parts ps vs plan is = sym (ap length is.picks) ∙ length-map plan.jobs.items (picking_in ps vs plan.lists.items) ∙ is.len

pub planned_needs : (parts : List Part) (ps vs : List ℕ) (plan : plans.Plan) → IsPlanned parts ps vs plan → length plan.needs.items ≡ length parts
planned_needs parts ps vs plan is = ap length is.needs ∙ needs_len parts (pickings parts (picking_of ps vs 0 ∷ [])) (planned_picks parts ps vs plan is)

-- the picks and the need of a node of a plan
pub planned_at : (parts : List Part) (ps vs : List ℕ) (plan : plans.Plan) (k : ℕ) (d : jobs.Job) (q : Picking) → IsPlanned parts ps vs plan → k < length parts
    → get_or (pickings parts (picking_of ps vs 0 ∷ [])) k q ≡ picking_in ps vs plan.lists.items (get_or plan.jobs.items k d)
planned_at parts ps vs plan k d q is h = ap (λ (l : List Picking). get_or l k q) (sym is.picks) ∙ get_or-map (picking_in ps vs plan.lists.items) plan.jobs.items k d q (omega (arith, is.len))

need_by_at : (ps : List Part) (qs : List Picking) (k : ℕ) (n : Need) (d : Part) (q : Picking) → length qs ≡ length ps → k < length ps → get_or (needs_by ps qs) k n ≡ need_of (get_or ps k d) (get_or qs k q)
need_by_at [] qs k n d q e h = absurd (omega arith)
need_by_at (p ∷ ps) [] k n d q e h = absurd (omega arith)
need_by_at (p ∷ ps) (x ∷ qs) zero n d q e h = refl
need_by_at (p ∷ ps) (x ∷ qs) (suc k) n d q e h = need_by_at ps qs k n d q (omega arith) (omega arith)

pub planned_need : (parts : List Part) (ps vs : List ℕ) (plan : plans.Plan) (k : ℕ) (n : Need) (d : Part) (e : jobs.Job) → IsPlanned parts ps vs plan → k < length parts
    → get_or plan.needs.items k n ≡ need_of (get_or parts k d) (picking_in ps vs plan.lists.items (get_or plan.jobs.items k e))
planned_need parts ps vs plan k n d e is h =
    let q = picking_in ps vs plan.lists.items (get_or plan.jobs.items k e) in
    ap (λ (l : List Need). get_or l k n) is.needs
    ∙ need_by_at parts (pickings parts (picking_of ps vs 0 ∷ [])) k n d q (planned_picks parts ps vs plan is) h
    ∙ ap (need_of (get_or parts k d)) (planned_at parts ps vs plan k e q is h)

pub first_is : (nodes : List image.Node) (d : image.Node) (q : List (Option ℕ)) → AreWithin q (get_or nodes 0 d).len → 0 < length nodes → AreWithin q (first_len nodes)
first_is [] d q w some = absurd (omega arith)
first_is (n ∷ nodes) d q w some = w

pub first_was : (nodes : List image.Node) (d : image.Node) (q : List (Option ℕ)) → AreWithin q (first_len nodes) → 0 < length nodes → AreWithin q (get_or nodes 0 d).len
first_was [] d q w some = absurd (omega arith)
first_was (n ∷ nodes) d q w some = w
