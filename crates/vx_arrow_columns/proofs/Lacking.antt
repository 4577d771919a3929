-- Why the rows of a node at picks are not there.
use Rattle.std.proofs.Common.{◌≡◌, ℕ, ◌+◌, ◌*◌, ◌^◌, ◌<◌, ◌≤◌, Bool, true, false, List, [], length, ltb, Option, Some, ap, sym, ◌∙◌, refl, subst, arith}
use Rattle.std.specs.Prelude.{Result, Ok, Err, IfErr}
use Rattle.std.proofs.lemmas.Bool.{and_left, and_parts, and_right, le-ltb, both_ways}
use Rattle.vx_arrow_image.specs.declared.format.Format.{Format}
use Rattle.vx_arrow_image.specs.declared.format.Format.TheVariants.{Fixed}
use Rattle.vx_arrow_image.specs.declared.format.Offsets.{Offsets}
use Rattle.vx_arrow_columns.specs.declared.faults.Fault.{Fault}
use Rattle.vx_arrow_columns.specs.declared.faults.Fault.TheVariants as faults
use Rattle.vx_arrow_image.specs.Image.{Part, holds_valid, is_cut, is_placed}
use Rattle.vx_arrow_columns.specs.Picks.{Picking, counts_by, is_counted, pick_at, picking_of, picks_of, place_of}
use Rattle.vx_arrow_columns.specs.Sound.{HoldsBelow, IsAskedFault, IsCountFault, IsFault, IsJobFault, IsNodeFault, IsOwnFault, IsSoundAt, IsTestFault}
use Rattle.vx_arrow_columns.specs.Taken.{AllAt, AreCutAt, Holds}
use Rattle.vx_arrow_columns.proofs.PickReads.{length_picks}
use Rattle.vx_arrow_columns.proofs.Steps.{at_pick}

pub err_weaker : {T E : Type 0} (P Q : E → Type 0) (r : Result T E) → ((e : E) → P e → Q e) → IfErr r P → IfErr r Q
err_weaker P Q (Ok x) f h = h
err_weaker P Q (Err e) f h = f e h

pub fault_weaker : (P Q R S : Type 0) (e : Fault) → (P → R) → (Q → S) → IsFault P Q e → IsFault R S e
fault_weaker P Q R S (faults.Lacks lack) f g h = f h
fault_weaker P Q R S faults.Overflow f g h = g h
fault_weaker P Q R S faults.NoMemory f g h = h

pub many_picks : (p : Part) (q : List (Option ℕ)) → 2 ^ 60 ≤ length q → is_counted p q ≡ false
unfolding is_counted
many_picks p q h = and_left _ _ (le-ltb _ _ h)

pub many_rows : (p : Part) (q : List (Option ℕ)) (f : Format) → p.format ≡ Some f → counts_by (Some f) p q ≡ false → is_counted p q ≡ false
unfolding is_counted
many_rows p q f format h = and_right _ _ (ap (λ (g : Option Format). counts_by g p q) format ∙ h)

-- what a node of a format lacks
pub own_lack : (p : Part) (q : List (Option ℕ)) (f : Format) → p.format ≡ Some f → (Holds (Some f) p q → ⊥) → Holds p.format p q → ⊥
own_lack p q f format lack h = lack (subst (λ (g : Option Format). Holds g p q) format h)

pub node_lack : (p : Part) (q : List (Option ℕ)) (lens : List ℕ) (f : Format) → p.format ≡ Some f → (Holds (Some f) p q → HoldsBelow (Some f) p q lens → ⊥) → IsSoundAt p q lens → ⊥
node_lack p q lens f format lack s = lack (subst (λ (g : Option Format). Holds g p q) format s.held) (subst (λ (g : Option Format). HoldsBelow g p q lens) format s.below)

-- so many bytes, items or rows are too many for the format
pub many_by : (p : Part) (q : List (Option ℕ)) (f : Format) (n b : ℕ) → p.format ≡ Some f → counts_by (Some f) p q ≡ ltb n b → b ≤ n → is_counted p q ≡ false
many_by p q f n b format e h = many_rows p q f format (e ∙ le-ltb n b h)

-- the picks of places times a width
pub many_wide : (p : Part) (ps vs : List ℕ) (add : ℕ) (f : Format) (w b : ℕ) → p.format ≡ Some f → counts_by (Some f) p (picks_of ps vs add) ≡ ltb (length (picks_of ps vs add) * w) b → b ≤ length ps * w → is_counted p (picks_of ps vs add) ≡ false
many_wide p ps vs add f w b format e h = many_by p (picks_of ps vs add) f (length (picks_of ps vs add) * w) b format e (subst (λ (n : ℕ). b ≤ n * w) (sym (length_picks ps vs add)) h)

-- so are values of a fixed width
pub many_at : (p : Part) (ps vs : List ℕ) (add n : ℕ) → p.format ≡ Some Fixed → length ps ≡ n → 2 ^ 63 ≤ n * p.width → is_counted p (picks_of ps vs add) ≡ false
many_at p ps vs add n format e h = many_wide p ps vs add Fixed p.width (2 ^ 63) format refl (subst (λ (m : ℕ). 2 ^ 63 ≤ m * p.width) (sym e) h)

pub not_placed : (p : Part) (n : ℕ) → p.offset + p.len ≡ n → holds_valid p.valid n ≡ false → is_placed p ≡ true → ⊥
unfolding is_placed
not_placed p n e h s = both_ways _ h (ap (holds_valid p.valid) (sym e) ∙ (and_parts (ltb (p.offset + p.len) (2 ^ 60)) _ s).1)

-- ---- of the parts of a node

pub leaf_fault : {T : Type 0} (p : Part) (q : List (Option ℕ)) (f : Format) (r : Result T Fault) → p.format ≡ Some f → (Holds (Some f) p q → p.children ≡ 0) → IfErr r (IsFault (p.children ≡ 0 → ⊥) ⊥) → IfErr r (IsOwnFault p q)
leaf_fault p q f r format leaf h = err_weaker _ _ r (λ e g. fault_weaker _ _ _ _ e (λ other. own_lack p q f format (λ held. other (leaf held))) (λ b. absurd b) g) h

-- the same at any places, as many as n
pub leaf_faults : {T : Type 0} (p : Part) (n : ℕ) (f : Format) (r : Result T Fault) → p.format ≡ Some f → ((ps vs : List ℕ) → (add : ℕ) → Holds (Some f) p (picks_of ps vs add) → p.children ≡ 0) → IfErr r (IsFault (p.children ≡ 0 → ⊥) ⊥) → IfErr r (IsCountFault p n)
leaf_faults p n f r format leaf h =
    err_weaker _ _ r (λ e g ps vs add same. fault_weaker _ _ _ _ e (λ other. own_lack p (picks_of ps vs add) f format (λ held. other (leaf ps vs add held))) (λ b. absurd b) g) h

-- a fault of a node at runs of places
pub run_fault : (p : Part) (ps : List ℕ) (add n end : ℕ) (e : Fault) → n ≡ length ps → IsCountFault p n e → (lens : List ℕ) → IsJobFault p (picking_of ps [] add) lens end e
run_fault p ps add n end e size h lens = fault_weaker _ _ _ _ e (λ lack sound low. lack (sound refl).held) (λ many. many) (h ps [] add (sym size))

pub test_fault : (p : Part) (q : Picking) (end : ℕ) (e : Fault) → q.kept ≡ false → IsTestFault p end e → (lens : List ℕ) → IsJobFault p q lens end e
test_fault p q end e bare h lens = fault_weaker _ _ _ _ e (λ lack sound low. lack q.picks lens (sound bare) low) (λ b. absurd b) h

pub many_runs : (p : Part) (ps vs : List ℕ) (add : ℕ) → 2 ^ 60 ≤ length ps → is_counted p (picks_of ps vs add) ≡ false
many_runs p ps vs add h = many_picks p (picks_of ps vs add) (omega (arith, length_picks ps vs add))

pub own_fault : {T : Type 0} (p : Part) (q : List (Option ℕ)) (lens : List ℕ) (r : Result T Fault) → IfErr r (IsOwnFault p q) → IfErr r (IsNodeFault p q lens)
own_fault p q lens r h = err_weaker _ _ r (λ e g. fault_weaker _ _ _ _ e (λ lack s. lack s.held) (λ m. m) g) h

-- it does not hold of a row at a pick
pub not_at : (p : Part) (ps vs : List ℕ) (add : ℕ) (f : ℕ → Bool) (k i : ℕ) → k < length ps → Some i ≡ place_of p (pick_at ps vs add k) → f i ≡ false → AllAt p (picks_of ps vs add) f → ⊥
not_at p ps vs add f k i low there other a = both_ways (f i) other (a.all k i (omega (arith, length_picks ps vs add)) (at_pick p ps vs add k (Some i) low there))

pub not_cut : (z : Offsets) (p : Part) (ps vs : List ℕ) (add count k i : ℕ) → k < length ps → Some i ≡ place_of p (pick_at ps vs add k) → is_cut z p count i ≡ false → AreCutAt z p (picks_of ps vs add) count → ⊥
not_cut z p ps vs add count k i low there other a = not_at p ps vs add (is_cut z p count) k i low there other (record { all = a.cut })

-- the picks of a node are those of a job that is not kept
pub job_fault : (p : Part) (q own : Picking) (lens : List ℕ) (end : ℕ) (e : Fault) → q ≡ own → q.kept ≡ false → IsAskedFault p q.picks lens end e → IsJobFault p own lens end e
job_fault p q own lens end e same bare h =
    subst (λ (o : Picking). IsJobFault p o lens end e) same (fault_weaker _ _ _ _ e (λ lack sound low. lack (sound bare) low) (λ many. many) h)

-- a fault at the same picks
pub moved_fault : (p : Part) (q r : Picking) (lens : List ℕ) (m n : ℕ) (e : Fault) → q ≡ r → m ≡ n → IsJobFault p q lens m e → IsJobFault p r lens n e
moved_fault p q r lens m n e same end h = subst (λ (k : ℕ). IsJobFault p r lens k e) end (subst (λ (x : Picking). IsJobFault p x lens m e) same h)

-- only memory is wanting
pub want : (P Q : Type 0) (e : Fault) → IsFault ⊥ ⊥ e → IsFault P Q e
want P Q e h = fault_weaker _ _ _ _ e (λ b. absurd b) (λ b. absurd b) h
