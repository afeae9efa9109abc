-- Tables within their limits can be opened.
use Rattle.std.proofs.Common.{◌≡◌, ◌+◌, ◌≤◌, ℕ, Option, Some, None, List, [], ◌∷◌, length, map, cond, is_some, refl, ap, ◌∙◌, arith, lit≤, IfSome}
use Rattle.std.specs.List.{cons_option, count_by}
use Rattle.std.specs.Option.{option_map}
use Rattle.std.proofs.lemmas.List.Elements.{All-cons, All-nil, All-head, All-tail}
use Rattle.std.proofs.lemmas.List.Sums.{sum_by-cons}
use Rattle.stick_model.specs.Limits.{IsTableSpec}
use Rattle.rule_model.specs.declared.sections.TableSpec.{TableSpec}
use Rattle.rule_model.specs.declared.sections.Section.{Section}
use Rattle.rule_model.specs.declared.sections.NamedSpec.{NamedSpec}
use Rattle.rule_model.specs.Served.{IsTable, AreTables, AreTableSpecs, named_with_purge, spec_of, tables_of}

spec_of-IsTableSpec : (table : TableSpec) → IsTable table → IsTableSpec (spec_of table)
spec_of-IsTableSpec table h = record { kind = h.kind; size = h.size; expire = h.expire; purge = (lit≤ tt, lit≤ tt); max_refs = (lit≤ tt, lit≤ tt); life = lit≤ tt }

-- one section more in front
with_one : (section : Section) (table : Option TableSpec) (tables : List NamedSpec) → IfSome table IsTable → AreTableSpecs tables
    → AreTableSpecs (cons_option (option_map (λ table. record { name = section.name; spec = spec_of table }) table) tables)
with_one section None tables h more = more
with_one section (Some table) tables h more = All-cons (λ (named : NamedSpec). IsTableSpec named.spec) _ tables (spec_of-IsTableSpec table h) more

tables_of-AreTableSpecs : (sections : List Section) → AreTables sections → AreTableSpecs (tables_of sections)
tables_of-AreTableSpecs [] h = All-nil (λ (named : NamedSpec). IsTableSpec named.spec)
tables_of-AreTableSpecs (section ∷ sections) h =
    let P : Section → Type 0 = λ (s : Section). IfSome s.table IsTable in
    with_one section section.table (tables_of sections) (All-head P section sections h) (tables_of-AreTableSpecs sections (All-tail P section sections h))

-- the same of tables that are these
pub are_specs : (sections : List Section) (tables : List NamedSpec) → tables ≡ tables_of sections → AreTables sections → AreTableSpecs tables
are_specs sections tables e h = rw e (tables_of-AreTableSpecs sections h)

-- as many tables as sections with one
counted_table : (section : Section) (table : Option TableSpec) (count : ℕ) (tables : List NamedSpec) → count ≡ length tables
    → cond (is_some table) 1 0 + count ≡ length (cons_option (option_map (λ table. record { name = section.name; spec = spec_of table }) table) tables)
counted_table section None count tables e = omega (arith, e)
counted_table section (Some table) count tables e = omega (arith, e)

length-tables_of : (sections : List Section) → count_by (λ (section : Section). is_some section.table) sections ≡ length (tables_of sections)
length-tables_of [] = refl
length-tables_of (section ∷ sections) =
    sum_by-cons (λ (section : Section). cond (is_some section.table) 1 0) section sections ∙ counted_table section section.table _ (tables_of sections) (length-tables_of sections)

pub counted_tables : (sections slice : List Section) (count : ℕ) → slice ≡ sections → count ≡ count_by (λ (section : Section). is_some section.table) slice → count ≡ length (tables_of sections)
counted_tables sections slice count e counted = counted ∙ length-tables_of slice ∙ ap (λ s. length (tables_of s)) e

-- tables that purge otherwise, within the limits, are within theirs
pub with_purges : (purge : ℕ) (tables : List NamedSpec) → (1 ≤ purge) × (purge ≤ 1024) → AreTableSpecs tables → AreTableSpecs (map (named_with_purge purge) tables)
with_purges purge [] within h = All-nil (λ (named : NamedSpec). IsTableSpec named.spec)
with_purges purge (named ∷ tables) within h =
    let P : NamedSpec → Type 0 = λ (n : NamedSpec). IsTableSpec n.spec in
    let one : IsTableSpec named.spec = All-head P named tables h in
    All-cons P (named_with_purge purge named) (map (named_with_purge purge) tables)
    (record { kind = one.kind; size = one.size; expire = one.expire; purge = within; max_refs = one.max_refs; life = one.life })
    (with_purges purge tables within (All-tail P named tables h))
