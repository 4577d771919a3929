-- What rows of one node are measured and planned as.
use Rattle.std.proofs.Common.{◌≡◌, ◌⊎◌, ℕ, ◌*◌, ◌<◌, ◌^◌, true, false, List, [], ◌∷◌, ◌++◌, ◌+◌, ◌≤◌, length, map, get_or, take, replicate, Option, Some, IfOk, OnOk, Ok, Err, ap, ap₂, sym, ◌∙◌, refl, subst, arith, inl, inr}
use Rattle.std.specs.Prelude.{Vec}
use Rattle.std.specs.declared.alloc.Global.{Global}
use Rattle.std.specs.declared.result.Result.{Result}
use Rattle.std.proofs.lemmas.List.{length-map, map-append, take_all, take_more}
use Rattle.vx_arrow_image.specs.declared.format.Format.{Format}
use Rattle.vx_arrow_image.specs.declared.format.Format.TheVariants.{Nulls, Bits, Fixed, Text, Struct, List as Lists, FixedList, TextView, ListView, Union, DenseUnion}
use Rattle.vx_arrow_image.specs.declared.image.Need.{Need}
use Rattle.vx_arrow_image.specs.declared.image.Node.{Node}
use Rattle.vx_arrow_image.specs.Image.{Part, parts_of}
use Rattle.vx_arrow_columns.specs.Picks.{offsets_len, sizes_len}
use Rattle.vx_arrow_interleave.specs.declared.faults.Fault.{Fault}
use Rattle.vx_arrow_interleave.specs.declared.planning.Below.{Below}
use Rattle.vx_arrow_interleave.specs.declared.planning.Below.TheVariants.{Same, Split}
use Rattle.vx_arrow_interleave.specs.declared.planning.Job.{Job}
use Rattle.vx_lemmas.proofs.Lists.{map-replicate}
use Rattle.vx_arrow_interleave.specs.declared.planning.Measure.{Measure}
use Rattle.vx_arrow_interleave.specs.declared.planning.Planned.{Planned}
use Rattle.vx_arrow_interleave.specs.declared.spans.Span.{Span}
use Rattle.vx_arrow_interleave.specs.Bytes.{HoldRecords}
use Rattle.vx_arrow_interleave.specs.Given.{belows, belows_by, need_of, places, splits, values_len}
use Rattle.vx_arrow_interleave.specs.Planned.{IsBelow, IsMeasured, IsPlannedJob, below_in, given_by, items_by, lists_in, valid_len}
use Rattle.vx_arrow_interleave.specs.Sources.{AreAlike, AreRows, moved, part_at}
use Rattle.vx_arrow_interleave.specs.Spots.{Spot, spots}
use Rattle.vx_arrow_interleave.specs.Tested.{Holds}
use Rattle.vx_arrow_interleave.specs.TextViews.{ViewsOf}
use Rattle.vx_arrow_interleave.specs.TextViews as views
use Rattle.vx_arrow_interleave.proofs.ShownViews.{list_of}
use Rattle.vx_arrow_interleave.proofs.SpotLists.{no_node}

-- ---- nodes without children

pub leaf_measured : (ps : List Part) (ss : List Spot) (f : Option Format) (n : ℕ) (r : Result Measure Fault) → ((part_at ps 0).children ≡ 0 → Holds f ps ss) → items_by f ps ss ≡ [] → n ≡ values_len f ps ss
    → OnOk r ((part_at ps 0).children ≡ 0) → IfOk r (λ m. m.values ≡ n) → IfOk r (λ m. spots m.items.items ≡ []) → IfOk r (IsMeasured f ps ss)
leaf_measured ps ss f n (Ok m) held bare size leaf values items = record { held = held leaf; items = items ∙ sym bare; values = values ∙ size }
leaf_measured ps ss f n (Err e) held bare size leaf values items = leaf

pub fixed_measured : (ps : List Part) (ss : List Spot) (w n : ℕ) (r : Result Measure Fault) → w ≡ (part_at ps 0).width → HoldRecords w ps ss → n ≡ length ss * w → n < 2 ^ 63
    → OnOk r ((part_at ps 0).children ≡ 0) → IfOk r (λ m. m.values ≡ n) → IfOk r (λ m. spots m.items.items ≡ []) → IfOk r (IsMeasured (Some Fixed) ps ss)
fixed_measured ps ss w n r e held size few leaf values items =
    let same : n ≡ length ss * (part_at ps 0).width = size ∙ ap (λ m. length ss * m) e in
    let small : length ss * (part_at ps 0).width < 2 ^ 63 = omega arith in
    leaf_measured ps ss (Some Fixed) n r (λ none. (none, (subst (λ m. HoldRecords m ps ss) e held, small))) refl same leaf values items

-- ---- one node's job

pub same_need : (a b : Need) → a.len ≡ b.len → a.valid ≡ b.valid → a.offsets ≡ b.offsets → a.values ≡ b.values → a.sizes ≡ b.sizes → a ≡ b
same_need a b len valid offsets values sizes =
    let make : ℕ → ℕ → ℕ → ℕ → ℕ → Need = λ l v o x s. record { len = l; valid = v; offsets = o; values = x; sizes = s } in
    ap (λ n. make n a.valid a.offsets a.values a.sizes) len ∙ ap (λ n. make b.len n a.offsets a.values a.sizes) valid
    ∙ ap (λ n. make b.len b.valid n a.values a.sizes) offsets ∙ ap (λ n. make b.len b.valid b.offsets n a.sizes) values
    ∙ ap (make b.len b.valid b.offsets b.values) sizes

pub need_is : (ps : List Part) (ss : List Spot) (f : Format) (n : ℕ) (need : Need) → (part_at ps 0).format ≡ Some f → n ≡ length ss → need.len ≡ n → need.valid ≡ valid_len ps n → need.offsets ≡ offsets_len (Some f) n
    → need.values ≡ values_len (Some f) ps (places ps ss) → need.sizes ≡ sizes_len (Some f) (part_at ps 0) n → need ≡ need_of ps ss
need_is ps ss f n need format size len valid offsets values sizes =
    let is = sym format in
    same_need need (need_of ps ss) (len ∙ size) (valid ∙ ap (valid_len ps) size)
    (offsets ∙ ap (offsets_len (Some f)) size ∙ ap (λ g. offsets_len g (length ss)) is)
    (values ∙ ap (λ g. values_len g ps (places ps ss)) is)
    (sizes ∙ ap (sizes_len (Some f) (part_at ps 0)) size ∙ ap (λ g. sizes_len g (part_at ps 0) (length ss)) is)

abbrev rows_in : Vec Span Global → List Spot
rows_in v = spots v.items

below_by_format : (f : Format) (ps : List Part) (ss : List Spot) (job : Job) → splits (Some f) ≡ false → Holds (Some f) ps ss → spots job.rows.items ≡ ss → spots job.items.items ≡ items_by (Some f) ps ss
    → replicate (part_at ps 0).children (spots (below_in f job).items) ≡ belows_by (Some f) ps ss
below_by_format Nulls ps ss job e h rows items = ap (replicate (part_at ps 0).children) items
below_by_format Bits ps ss job e h rows items = ap (replicate (part_at ps 0).children) items
below_by_format Fixed ps ss job e h rows items = ap (replicate (part_at ps 0).children) items
below_by_format (Text z) ps ss job e h rows items = ap (λ n. replicate n (spots job.items.items)) h.0 ∙ sym (ap (λ n. replicate {A = List Spot} n []) h.0)
below_by_format Struct ps ss job e h rows items = ap (replicate (part_at ps 0).children) rows
below_by_format (Lists z) ps ss job e h rows items = ap (replicate (part_at ps 0).children) items
below_by_format FixedList ps ss job e h rows items = ap (replicate (part_at ps 0).children) items
below_by_format TextView ps ss job e h rows items = absurd (let g : true ≡ false = e in cc)
below_by_format (ListView z) ps ss job e h rows items = ap (replicate (part_at ps 0).children) items
below_by_format Union ps ss job e h rows items = ap (replicate (part_at ps 0).children) rows
below_by_format DenseUnion ps ss job e h rows items = absurd (let g : true ≡ false = e in cc)

below_given : (f : Format) (ps : List Part) (job : Job) (b : Below) → {ss : List Spot} → Holds (Some f) ps ss → spots job.rows.items ≡ ss → spots job.items.items ≡ items_by (Some f) ps ss → IsBelow f ps job b
    → map rows_in (lists_in (part_at ps 0).children b) ≡ belows_by (Some f) ps ss
below_given f ps job (Same v) {ss} held rows items is =
    map-replicate rows_in (part_at ps 0).children v ∙ ap (λ (w : Vec Span Global). replicate (part_at ps 0).children (spots w.items)) is.1 ∙ below_by_format f ps ss job is.0 held rows items
below_given f ps job (Split vs) held rows items is = is.1 ∙ ap (belows_by (Some f) ps) rows

-- children that all have the same rows
pub rows_same : (f : Format) (ps : List Part) (job : Job) (v : Vec Span Global) → (f ≡ Struct) ⊎ (f ≡ Union) → v ≡ job.rows → IsBelow f ps job (Same v)
rows_same f ps job v (inl e) is = subst (λ (g : Format). IsBelow g ps job (Same v)) (sym e) (refl, is)
rows_same f ps job v (inr e) is = subst (λ (g : Format). IsBelow g ps job (Same v)) (sym e) (refl, is)

pub items_same : (f : Format) (ps : List Part) (job : Job) (v : Vec Span Global) → (f ≡ Struct → ⊥) → (f ≡ TextView → ⊥) → (f ≡ Union → ⊥) → (f ≡ DenseUnion → ⊥) → v ≡ job.items → IsBelow f ps job (Same v)
items_same Nulls ps job v a b c d is = (refl, is)
items_same Bits ps job v a b c d is = (refl, is)
items_same Fixed ps job v a b c d is = (refl, is)
items_same (Text z) ps job v a b c d is = (refl, is)
items_same Struct ps job v a b c d is = absurd (a refl)
items_same (Lists z) ps job v a b c d is = (refl, is)
items_same FixedList ps job v a b c d is = (refl, is)
items_same TextView ps job v a b c d is = absurd (b refl)
items_same (ListView z) ps job v a b c d is = (refl, is)
items_same Union ps job v a b c d is = absurd (c refl)
items_same DenseUnion ps job v a b c d is = absurd (d refl)

places_len : (ps : List Part) (ss : List Spot) → length (places ps ss) ≡ length ss
unfolding places
places_len ps ss = length-map ss (moved ps)

-- what is known of the rows of a job, before its need and the rows below it
pub record IsMeasuredJob (f : Format) (ps : List Part) (n values : ℕ) (job : Job) : Type 0 where
  pub alike : AreAlike ps
  pub format : (part_at ps 0).format ≡ Some f
  pub within : AreRows ps (given_by job)
  pub rows : spots job.rows.items ≡ places ps (given_by job)
  pub count : n ≡ length (spots job.rows.items)
  pub few : n < 2 ^ 60
  pub held : Holds (Some f) ps (spots job.rows.items)
  pub items : spots job.items.items ≡ items_by (Some f) ps (spots job.rows.items)
  pub bytes : values ≡ values_len (Some f) ps (spots job.rows.items)

pub measured_job : (f : Format) (ps : List Part) (n : ℕ) (own : Vec Span Global) (m : Measure) (job : Job) → AreAlike ps → (part_at ps 0).format ≡ Some f → AreRows ps (given_by job) → job.rows ≡ own → job.items ≡ m.items
    → spots own.items ≡ places ps (given_by job) → n ≡ length (spots own.items) → n < 2 ^ 60 → IsMeasured (Some f) ps (spots own.items) m → IsMeasuredJob f ps n m.values job
measured_job f ps n own m job alike format within rows items placed count few is =
    let same : spots own.items ≡ spots job.rows.items = ap (λ (v : Vec Span Global). spots v.items) (sym rows) in
    record {
      alike = alike;
      format = format;
      within = within;
      rows = sym same ∙ placed;
      count = count ∙ ap length same;
      few = few;
      held = subst (λ (l : List Spot). Holds (Some f) ps l) same is.held;
      items = ap (λ (v : Vec Span Global). spots v.items) items ∙ is.items ∙ ap (items_by (Some f) ps) same;
      bytes = is.values ∙ ap (values_len (Some f) ps) same;
    }

pub planned_job : (f : Format) (ps : List Part) (ss : List Spot) (n values : ℕ) (p : Planned) → given_by p.job ≡ ss → IsMeasuredJob f ps n values p.job
    → p.need.len ≡ n → p.need.valid ≡ valid_len ps n → p.need.offsets ≡ offsets_len (Some f) n → p.need.values ≡ values → p.need.sizes ≡ sizes_len (Some f) (part_at ps 0) n
    → IsBelow f ps p.job p.below → ViewsOf (Some f) ps (spots p.job.rows.items) p.job.views.items → IsPlannedJob ps ss p
planned_job f ps ss n values p given is len valid offsets bytes sizes below views =
    let own = given_by p.job in
    let size : n ≡ length own = is.count ∙ ap length is.rows ∙ places_len ps own in
    let held = subst (λ (l : List Spot). Holds (Some f) ps l) is.rows is.held in
    let items = is.items ∙ ap (items_by (Some f) ps) is.rows in
    record {
      given = given;
      done = record {
        many = refl;
        readable = record {
          alike = is.alike;
          rows = is.within;
          few = subst (λ m. m < 2 ^ 60) size is.few;
          held = subst (λ (g : Option Format). Holds g ps (places ps own)) (sym is.format) held;
        };
        rows = is.rows;
        items = items ∙ ap (λ (g : Option Format). items_by g ps (places ps own)) (sym is.format);
        views = subst (λ (g : Option Format). ViewsOf g ps (places ps own) p.job.views.items) (sym is.format) (subst (λ (l : List Spot). ViewsOf (Some f) ps l p.job.views.items) is.rows views);
        asked = need_is ps own f n p.need is.format size len valid offsets (bytes ∙ is.bytes ∙ ap (values_len (Some f) ps) is.rows) sizes;
      };
      below = below_given f ps p.job p.below held is.rows items below
          ∙ ap (λ (g : Option Format). belows_by g ps (places ps own)) (sym is.format) ∙ ap (belows ps) given;
    }

-- ---- lists of their own

-- how many children the nodes have
pub first_children : (nodes : List Node) → 0 < length (parts_of nodes) → (get_or nodes 0 no_node).children ≡ (part_at (parts_of nodes) 0).children
first_children [] h = absurd (omega arith)
first_children (n ∷ ns) h = refl

-- one list more is shared
pub shared_more : (done all more : List (Vec Span Global)) (j : ℕ) (v d : Vec Span Global) → j < length all → more ≡ done ++ v ∷ [] → d ≡ get_or all j d → v.items ≡ d.items → views.lists_in done ≡ take j (views.lists_in all) → views.lists_in more ≡ take (j + 1) (views.lists_in all)
shared_more done all more j v d h push is same e =
    let low : j < length (views.lists_in all) = omega (arith, length-map all rows_in) in
    let own : rows_in v ≡ get_or (views.lists_in all) j [] = ap (λ (l : List Span). spots l) same ∙ sym (list_of all j d h is) in
    ap (map rows_in) push ∙ map-append rows_in done (v ∷ []) ∙ ap₂ (λ (x : List (List Spot)) (y : List Spot). x ++ y ∷ []) e own ∙ sym (take_more (views.lists_in all) j [] low)

pub shared_all : (all : List (Vec Span Global)) (j : ℕ) → length all ≤ j → take j (views.lists_in all) ≡ views.lists_in all
shared_all all j h = take_all j (views.lists_in all) (omega (arith, length-map all rows_in))
