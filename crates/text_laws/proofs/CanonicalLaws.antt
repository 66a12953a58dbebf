-- The sections of a canonical text, and the lines that it is read as.
use Rattle.std.specs.Prelude.{◌≡◌, not, List, [], ◌∷◌, ◌++◌, map, flat_map}
use Rattle.std.specs.Prelude.{codes, pos, neg_ℤ}
use Rattle.std.specs.List.{enumerate_from}
use Rattle.std.specs.Ordering.{int_eq}
use Rattle.std.proofs.Common.{refl, ap, sym, ◌∙◌}
use Rattle.mps_defs.specs.CanonicalText.{head, pair, triple, bound_line, kind_text, coef_line, column_block, columns_block}
use Rattle.mps_defs.specs.CanonicalText.{rhs_line, constant_line, range_line, canonical_lines, value_text}
use Rattle.ip_defs.specs.declared.programs.Parts.{Parts}
use Rattle.text_laws.proofs.SectionLaws.{Sections, AreSections, IsItem, AreItems, section_lines, lines_in}
use Rattle.text_laws.proofs.ListLaws.{all_flat, all_map, each_when}
use Rattle.text_laws.proofs.EachLineLaws.{each_coef_line, each_rhs_line, each_range_line, each_columns_line}
use Rattle.ip_defs.proofs.ListLaws.{each_append}
use Rattle.std.proofs.lemmas.List.{append_assoc}
use Rattle.mps_defs.specs.Records.{Line}

-- the sections of a program
abbrev pub sections_of : Parts → Sections
sections_of m = record {
  rows = pair (codes "N") m.objective ∷ map (λ r. pair (kind_text r) r.name) m.rows;
  columns = columns_block m;
  right_sides = constant_line m ++ flat_map rhs_line m.rows;
  ranges = flat_map range_line m.rows;
  bounds = flat_map (λ c. bound_line (codes "LO") c.name c.lo ∷ bound_line (codes "UP") c.name c.hi ∷ []) m.columns;
}

joined : {A : Type 0} (a b c d e f g : List A) → a ++ b ++ c ++ d ++ e ++ f ++ g ≡ a ++ (b ++ ((c ++ d) ++ (e ++ (f ++ g))))
joined a b c d e f g =
    append_assoc (a ++ b ++ c ++ d ++ e) f g
    ∙ append_assoc (a ++ b ++ c ++ d) e (f ++ g)
    ∙ append_assoc (a ++ b ++ c) d (e ++ (f ++ g))
    ∙ append_assoc (a ++ b) c (d ++ (e ++ (f ++ g)))
    ∙ append_assoc a b (c ++ (d ++ (e ++ (f ++ g))))
    ∙ ap (λ k. a ++ (b ++ k)) (sym (append_assoc c d (e ++ (f ++ g))))

pub canonical_sections : (m : Parts) → canonical_lines m ≡ section_lines (sections_of m)
canonical_sections m =
    let s = sections_of m in
    joined (head (codes "NAME") ∷ head (codes "ROWS") ∷ s.rows) (head (codes "COLUMNS") ∷ s.columns) (head (codes "RHS") ∷ constant_line m)
    (flat_map rhs_line m.rows) (head (codes "RANGES") ∷ s.ranges) (head (codes "BOUNDS") ∷ s.bounds) (head (codes "ENDATA") ∷ [])

-- ---- data lines

columns_items : (m : Parts) → AreItems (columns_block m)
columns_items m =
    each_columns_line IsItem m refl refl (all_flat IsItem (column_block m) (enumerate_from 0 m.columns)
    (λ p. (refl, all_flat IsItem (coef_line p.0 p.1.name) m.rows (λ r. each_coef_line IsItem p.0 p.1.name r (λ c e. refl)))))

pub are_sections : (m : Parts) → AreSections (sections_of m)
are_sections m = record {
  rows = (refl, all_map IsItem (λ r. pair (kind_text r) r.name) m.rows (λ r. refl));
  columns = columns_items m;
  right_sides = each_append IsItem (constant_line m) (flat_map rhs_line m.rows)
      (each_when IsItem (not (int_eq m.constant (pos 0))) (triple (codes "RHS") m.objective (value_text m (neg_ℤ m.constant))) refl)
      (all_flat IsItem rhs_line m.rows (λ r. each_rhs_line IsItem r refl (λ b e. refl)));
  ranges = all_flat IsItem range_line m.rows (λ r. each_range_line IsItem r (λ low high e f. refl));
  bounds = all_flat IsItem (λ c. bound_line (codes "LO") c.name c.lo ∷ bound_line (codes "UP") c.name c.hi ∷ []) m.columns
      (λ c. (refl, (refl, tt)));
}

-- the lines of the canonical text of a program
abbrev pub program_lines : Parts → List Line
program_lines m = lines_in (sections_of m)
