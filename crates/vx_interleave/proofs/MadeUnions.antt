-- Columns of unions, of ids, places and the variants' rows.
use Rattle.std.proofs.Common.{◌≡◌, ℕ, suc, true, List, [], ◌∷◌, ◌++◌, length, map, Option, None, Some, refl, sym, ap, ap₂, ◌∙◌, arith}
use Rattle.std.specs.Prelude.{pos}
use Rattle.std.specs.List.{list_all}
use Rattle.std.proofs.lemmas.Bool.Decides.{nat_tests}
use Rattle.std.proofs.lemmas.List.{length-map}
use Rattle.vx_types.specs.FieldTypes.{VariantTypes}
use Rattle.vx_types.specs.RowValue.{RowValue}
use Rattle.vx_types.specs.Same.{are_same_types}
use Rattle.vx_types.specs.SameLaws.{kind_decides}
use Rattle.vx_types.specs.TypeTree.{TypeKind, TypeTree, primitive_type, struct_kind, types_of, union_type}
use Rattle.vx_types.specs.declared.nullability.Nullability.{Nullability}
use Rattle.vx_types.specs.declared.ptype.PType.TheVariants.{U8}
use Rattle.vx_offsets.specs.Offsets.{offset_positions}
use Rattle.vx_positions.specs.Positions.{positions_of}
use Rattle.vx_model.specs.Column.{Column}
use Rattle.vx_model.specs.Columns.{types_in}
use Rattle.vx_model.specs.Numbers.{integer_by, integers_of, number_in}
use Rattle.vx_model.specs.Records.{RecordParts}
use Rattle.vx_model.specs.Union.{UnionParts, are_inside, are_known, are_union_types, have_rows, is_known, is_union_long, rows_at, tagged_rows, tags_of, union_column, union_fault}
use Rattle.vx_model.specs.VarBin.{are_integers}
use Rattle.vx_offsets.proofs.Cuts.{positions_back}
use Rattle.vx_interleave.specs.Tags.{id_row, places_after, rows_under, tag_in}
use Rattle.vx_interleave.specs.Unions.{AreVariants}
use Rattle.vx_interleave.proofs.VariantRows.{AreRowsUnder, known-made, places-made, rows-made, tags-made}

-- ---- the columns of variants

pub variant_types : (ids : List ℕ) (ts : List TypeTree) (rows : List RowValue) (cs : List Column) → AreVariants ids ts rows cs → types_in cs ≡ ts
variant_types [] [] rows [] h = refl
variant_types [] [] rows (c ∷ cs) h = absurd h
variant_types [] (t ∷ ts) rows cs h = absurd h
variant_types (id ∷ ids) [] rows cs h = absurd h
variant_types (id ∷ ids) (t ∷ ts) rows [] h = absurd h
variant_types (id ∷ ids) (t ∷ ts) rows (c ∷ cs) h = ap₂ (λ (u : TypeTree) us. u ∷ us) h.0.0 (variant_types ids ts rows cs h.1)

pub variants_none : (rows : List RowValue) → AreVariants [] [] rows []
variants_none rows = tt

pub variants_append : (ids : List ℕ) (ts : List TypeTree) (rows : List RowValue) (cs : List Column) (id : ℕ) (t : TypeTree) (c : Column) → AreVariants ids ts rows cs → c.dtype ≡ t → c.rows ≡ rows_under id rows → AreVariants (ids ++ id ∷ []) (ts ++ t ∷ []) rows (cs ++ c ∷ [])
variants_append [] [] rows [] id t c h dtype is = ((dtype, is), tt)
variants_append [] [] rows (d ∷ cs) id t c h dtype is = absurd h
variants_append [] (u ∷ ts) rows cs id t c h dtype is = absurd h
variants_append (v ∷ ids) [] rows cs id t c h dtype is = absurd h
variants_append (v ∷ ids) (u ∷ ts) rows [] id t c h dtype is = absurd h
variants_append (v ∷ ids) (u ∷ ts) rows (d ∷ cs) id t c h dtype is = (h.0, variants_append ids ts rows cs id t c h.1 dtype is)

-- ---- the column of unions

length-places : (before tags : List (Option ℕ)) → length (places_after before tags) ≡ length tags
length-places before [] = refl
length-places before (t ∷ tags) = ap suc (length-places (before ++ t ∷ []) tags)

-- what the ids, the places and the variants' columns are of rows
pub record MakesUnions (ids : Column) (o : RecordParts) (v : VariantTypes) (cs : List Column) (n : Nullability) (rows : List RowValue) : Type 0 where
  pub dtype : ids.dtype ≡ primitive_type U8 n
  pub tags : ids.rows ≡ map id_row (map tag_in rows)
  pub int : are_integers o ≡ true
  pub numbers : integers_of o ≡ map pos (places_after [] (map tag_in rows))
  pub variants : AreVariants v.ids v.types rows cs
  pub under : AreRowsUnder v.ids rows

module _ (ids : Column) (o : RecordParts) (v : VariantTypes) (cs : List Column) (n : Nullability) (rows : List RowValue) (makes : MakesUnions ids o v cs n rows) where
  abbrev parts : UnionParts
  parts = record { ids = ids; offsets = Some o; variants = v; columns = cs }

  tags-are : tags_of parts ≡ map tag_in rows
  tags-are =
      ap₂ (λ (k : TypeKind) (rs : List RowValue). positions_of (map (number_in k) rs)) (ap (λ (t : TypeTree). t.kind) makes.dtype) makes.tags
      ∙ tags-made (map tag_in rows)

  types : are_union_types parts ≡ true
  types =
      let alike : are_same_types (types_in cs) v.types ≡ true =
      ap (λ ts. are_same_types ts v.types) (variant_types v.ids v.types rows cs makes.variants)
      ∙ (kind_decides (struct_kind [] (types_of v.types)) (struct_kind [] (types_of v.types))).1 refl in
      let typed = makes.dtype in let int = makes.int in rw (typed, int, alike) refl

  long : is_union_long (Some o) cs (length ids.rows) ≡ true
  long =
      let offsets : length o.records ≡ length rows =
      sym (length-map o.records (integer_by o.kind)) ∙ ap length makes.numbers
      ∙ length-map (places_after [] (map tag_in rows)) pos ∙ length-places [] (map tag_in rows) ∙ length-map rows tag_in in
      let many : length ids.rows ≡ length rows = ap length makes.tags ∙ length-map (map tag_in rows) id_row ∙ length-map rows tag_in in
      grind (arith, nat_tests, offsets, many)

  inside : are_inside parts (Some o) ≡ true
  inside = ap₂ (have_rows v.ids cs) tags-are makes.numbers ∙ places-made v.ids v.types cs [] rows makes.variants makes.under

  known : are_known parts ≡ true
  known = ap (list_all (is_known v.ids)) tags-are ∙ known-made v.ids rows makes.under

  pub union_sound : union_fault parts ≡ None
  union_sound = rw (types, long, inside, known) refl

  pub union_made : (union_column parts).rows ≡ rows
  union_made =
      ap₂ (λ ts ps. tagged_rows v.ids ts (rows_at cs ps)) tags-are (ap offset_positions makes.numbers ∙ positions_back (places_after [] (map tag_in rows)))
      ∙ rows-made v.ids v.types cs [] rows makes.variants makes.under

  pub union_typed : (union_column parts).dtype ≡ union_type v.ids v.names v.types n
  union_typed = let typed = makes.dtype in rw typed refl
