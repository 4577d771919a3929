-- A column by the columns that its members mean, and how deep they nest.
use Rattle.std.proofs.Common.{◌≡◌, ℕ, zero, suc, ◌<◌, ◌≤◌, max, List, [], ◌∷◌, length, get_or, Option, Some, None, refl, sym, ap₂, Ordering, Less, Equal, Greater, nat_cmp, arith}
use Rattle.std.proofs.Math.Path.{fun_ext}
use Rattle.std.specs.Ordering.{match_ordering}
use Rattle.std.specs.Cmp.Lexicographic.{slice_cmp}
use Rattle.serde_json.specs.Data.{Data, null, boolean, number, string, array, object, Items, no_items, item, Members, no_members, member, depth, items_depth, members_depth}
use Rattle.serde_json.specs.Find.{get, get_member, as_array}
use Rattle.serde_json.specs.View.{view, items_view}
use Rattle.serde_json.specs.declared.value.Value.{Value}
use Rattle.vx_model.specs.Column.{Column}
use Rattle.vx_json.specs.Items.{each}
use Rattle.vx_json.specs.Meaning.{◌>>=◌}
use Rattle.vx_document.specs.Columns.{column_of, column_in, columns_in, columns_of, each_column, one_more, column_by, inner_of, inner_lists_of}

at : {B : Type 0} (f : Data → Option B) (o : Ordering) (d : Data) (c : Option B) (found : Option Data) → c ≡ (found >>= f) → match_ordering o c (f d) c ≡ (match_ordering o found (Some d) found >>= f)
at f Less d c found h = h
at f Equal d c found h = refl
at f Greater d c found h = h

column_in-is : (k : List ℕ) (ms : Members) → column_in k ms ≡ (get_member k ms >>= column_of)
column_in-is k no_members = refl
column_in-is k (member l d ms) = at column_of (slice_cmp nat_cmp k l) d (column_in k ms) (get_member k ms) (column_in-is k ms)

columns_in-is : (k : List ℕ) (ms : Members) → columns_in k ms ≡ (get_member k ms >>= columns_of)
columns_in-is k no_members = refl
columns_in-is k (member l d ms) = at columns_of (slice_cmp nat_cmp k l) d (columns_in k ms) (get_member k ms) (columns_in-is k ms)

-- what a value means, by what its members mean
pub column_of-is : (d : Data) → column_of d ≡ column_by d (inner_of d) (inner_lists_of d)
unfolding column_by
column_of-is null = refl
column_of-is (boolean b) = refl
column_of-is (number n) = refl
column_of-is (string s) = refl
column_of-is (array ds) = refl
column_of-is (object ms) = ap₂ (column_by (object ms)) (fun_ext (λ k. column_in-is k ms)) (fun_ext (λ k. columns_in-is k ms))

-- ---- lists of columns

one_more-is : (c : Option Column) (cs ds : Option (List Column)) → cs ≡ ds → one_more c cs ≡ (c >>= λ x. ds >>= λ xs. Some (x ∷ xs))
one_more-is None cs ds e = refl
one_more-is (Some c) None ds e = rw (sym e) refl
one_more-is (Some c) (Some cs) ds e = rw (sym e) refl

-- the items, each by what it means
pub each_column-is : (ds : Items) → each_column ds ≡ each column_of ds
unfolding each
each_column-is no_items = refl
each_column-is (item d ds) = one_more-is (column_of d) (each_column ds) (each column_of ds) (each_column-is ds)

-- ---- how deep

deep_at : (o : Ordering) (d e : Data) (ms : Members) (found : Option Data) → (found ≡ Some e → depth e ≤ members_depth ms) → match_ordering o found (Some d) found ≡ Some e → depth e ≤ max (depth d) (members_depth ms)
deep_at Less d e ms found h is = omega (arith, h is)
deep_at Equal d e ms found h is = let same : d ≡ e = cc in rw same (omega arith)
deep_at Greater d e ms found h is = omega (arith, h is)

member_depth : (k : List ℕ) (ms : Members) (e : Data) → get_member k ms ≡ Some e → depth e ≤ members_depth ms
member_depth k no_members e is = absurd cc
member_depth k (member l d ms) e is = deep_at (slice_cmp nat_cmp k l) d e ms (get_member k ms) (member_depth k ms e) is

-- a member nests less deep
pub depth-get : (k : List ℕ) (d e : Data) → get k d ≡ Some e → depth e < depth d
depth-get k null e is = absurd cc
depth-get k (boolean b) e is = absurd cc
depth-get k (number n) e is = absurd cc
depth-get k (string s) e is = absurd cc
depth-get k (array ds) e is = absurd cc
depth-get k (object ms) e is = omega (arith, member_depth k ms e is)

list_depth : (found : Option Data) (ds : Items) (n : ℕ) → ((e : Data) → found ≡ Some e → depth e < n) → (found >>= as_array) ≡ Some ds → suc (items_depth ds) < n
list_depth None ds n h is = absurd cc
list_depth (Some null) ds n h is = absurd cc
list_depth (Some (boolean b)) ds n h is = absurd cc
list_depth (Some (number m)) ds n h is = absurd cc
list_depth (Some (string s)) ds n h is = absurd cc
list_depth (Some (array es)) ds n h is = let same : es ≡ ds = cc in rw (sym same) (h (array es) refl)
list_depth (Some (object ms)) ds n h is = absurd cc

-- so do the items of a member
pub depth-list : (k : List ℕ) (d : Data) (ds : Items) → (get k d >>= as_array) ≡ Some ds → suc (items_depth ds) < depth d
depth-list k d ds is = list_depth (get k d) ds (depth d) (depth-get k d) is

-- no item is deeper than the list's items
pub depth-item : (vs : List Value) (i : ℕ) (v : Value) → i < length vs → v ≡ get_or vs i v → depth (view v) ≤ items_depth (items_view vs)
depth-item [] i v h is = absurd (omega arith)
depth-item (x ∷ vs) zero v h is = let same : v ≡ x = is in rw same (omega arith)
depth-item (x ∷ vs) (suc i) v h is = omega (arith, depth-item vs i v (omega arith) is)
