-- What a certificate may name of a program: its blocks, its loops, each under its block, the variables that are visible
-- there, and in facts parts of them (ISO 7185:1990, 6.2.2, 6.4.2, 6.5, 6.6.3, 6.8.3.6). It does not say that what is
-- claimed of them holds.
use Rattle.std.specs.Prelude.{ℕ, Bool, true, false, not, ◌&&◌, ◌||◌, List, [], ◌∷◌, ◌++◌, Option, Some, None, nat_eq}
use Rattle.std.specs.Prelude.{if◌then◌else◌, length, nat_lt, slice_get}
use Rattle.std.specs.List.{list_all}
use Rattle.typed_tree.specs.WellFormed.{is_declared, is_local_kind, is_result_kind, is_value_kind, is_variable_kind}
use Rattle.typed_tree.specs.WellFormed.{is_visible, of_one, outline_of}
use Rattle.checker_state.specs.Loops.{is_among}
use Rattle.certificate.specs.declared.AliasPair.{AliasPair}
use Rattle.typed_tree.specs.declared.tree.Tree.{Tree}
use Rattle.typed_tree.specs.declared.tree.Loop.{Loop}
use Rattle.types.specs.Forms.{Form, Array}
use Rattle.types.specs.Types.{form_at, host_of, integer, is_same, is_scalar}
use Rattle.types.specs.declared.form.TypeId.{TypeId}
use Rattle.domain.specs.declared.facts.Bound.{Bound}
use Rattle.domain.specs.declared.facts.Bound.TheVariants.{Number, Plus}
use Rattle.domain.specs.declared.facts.Path.{Path}
use Rattle.domain.specs.declared.facts.Step.{Step}
use Rattle.domain.specs.declared.facts.Step.TheVariants.{Element, Field}
use Rattle.domain.specs.declared.facts.Span.{Span}
use Rattle.domain.specs.declared.facts.Spans.{Spans}
use Rattle.domain.specs.declared.facts.Spans.TheVariants as kept_spans
use Rattle.domain.specs.Facts.{said_path}
use Rattle.checker_rows.specs.Rows.{Named, is_ordinal_variable, part_named}
use Rattle.certificate.specs.Contents.{is_empty}
use Rattle.certificate.specs.declared.Certificate.{Certificate}
use Rattle.certificate.specs.declared.LoopClaims.{LoopClaims}
use Rattle.certificate.specs.declared.Section.{Section}
use Rattle.certificate.specs.declared.facts.Fact.{Fact}
use Rattle.certificate.specs.declared.facts.Fact.TheVariants.{Range, Defined, Order, Grows}

-- a path names a part that is there, of whose type a test holds
abbrev pub is_named : (TypeId → Bool) → Option Named → Bool
is_named test None = false
is_named test (Some named) = test named.type_id

abbrev pub names : Tree → (TypeId → Bool) → Path → Bool
names tree test path = is_named test (part_named tree (said_path path))

abbrev pub has_elements : Option Form → Bool
has_elements (Some (Array packed index element)) = true
has_elements form = false

abbrev pub is_array : List Form → TypeId → Bool
is_array types id = has_elements (form_at types id)

-- those elements are arrays
abbrev pub has_arrays : List Form → Option Form → Bool
has_arrays types (Some (Array packed index element)) = is_array types element
has_arrays types form = false

abbrev pub is_matrix : List Form → TypeId → Bool
is_matrix types id = has_arrays types (form_at types id)

-- the variable of a bound, if it has one, is of an ordinal type
abbrev pub bound_is_known : Tree → Bound → Bool
bound_is_known tree (Number number) = true
bound_is_known tree (Plus root number) = is_ordinal_variable tree root

-- a part of a type has elements with an index for each span
abbrev pub has_indexes : List Form → Spans → TypeId → Bool
has_indexes types kept_spans.None id = true
has_indexes types (kept_spans.One span) id = is_array types id
has_indexes types (kept_spans.Two span inner) id = is_matrix types id

-- the spans behind the first
abbrev pub inner_spans : Spans → Option Spans
inner_spans kept_spans.None = None
inner_spans (kept_spans.One span) = Some kept_spans.None
inner_spans (kept_spans.Two span inner) = Some (kept_spans.One inner)

-- so is it of a part behind steps, which take a span for each index on the way
abbrev pub has_boxes : List Form → List Step → Option Spans → TypeId → Bool
has_boxes types steps None id = false
has_boxes types [] (Some spans) id = has_indexes types spans id
has_boxes types (Element ∷ steps) (Some spans) id = has_boxes types steps (inner_spans spans) id
has_boxes types (Field name ∷ steps) (Some spans) id = has_boxes types steps (Some spans) id

abbrev pub span_is_known : Tree → Span → Bool
span_is_known tree span = bound_is_known tree span.first && bound_is_known tree span.last

abbrev pub spans_are_known : Tree → Spans → Bool
spans_are_known tree kept_spans.None = true
spans_are_known tree (kept_spans.One span) = span_is_known tree span
spans_are_known tree (kept_spans.Two span inner) = span_is_known tree span && span_is_known tree inner

-- a fact of a block names parts of variables: a range those of an ordinal or a set type, spans elements; its bounds and
-- the variables of an order are of ordinal types; a growth is none of a block
abbrev pub fact_is_known : Tree → Fact → Bool
fact_is_known tree (Range path range) = names tree (is_scalar tree.types) path
fact_is_known tree (Defined path spans) =
    names tree (has_boxes tree.types path.steps.items (Some spans)) path && spans_are_known tree spans
fact_is_known tree (Order root other number) = is_ordinal_variable tree root && is_ordinal_variable tree other
fact_is_known tree (Grows root growth) = false

-- ---- the variables that a fact names

abbrev pub bound_roots : Bound → List ℕ
bound_roots (Number number) = []
bound_roots (Plus root number) = root ∷ []

abbrev pub span_roots : Span → List ℕ
span_roots span = bound_roots span.first ++ bound_roots span.last

abbrev pub spans_roots : Spans → List ℕ
spans_roots kept_spans.None = []
spans_roots (kept_spans.One span) = span_roots span
spans_roots (kept_spans.Two span inner) = span_roots span ++ span_roots inner

abbrev pub fact_roots : Fact → List ℕ
fact_roots (Range path range) = path.root ∷ []
fact_roots (Defined path spans) = path.root ∷ spans_roots spans
fact_roots (Order root other number) = root ∷ other ∷ []
fact_roots (Grows root growth) = root ∷ []

-- a fact names parts that are there, of variables of which a test holds
abbrev pub fact_is_on : Tree → (ℕ → Bool) → Fact → Bool
fact_is_on tree test fact = fact_is_known tree fact && list_all test (fact_roots fact)

-- ---- loops

-- a loop is there, and stands in a block
abbrev pub stands_in : ℕ → Option Loop → Bool
stands_in block None = false
stands_in block (Some one) = nat_eq one.block block

-- a variable that is there is of type integer or a subrange of it (6.4.2.2, 6.4.2.4)
abbrev pub is_integer_variable : Tree → ℕ → Bool
is_integer_variable tree root =
    of_one (λ variable. is_same (host_of tree.types variable.type_id) integer)
    (slice_get tree.variables.items root)

-- a loop is a for statement, and a variable isn't its control variable (6.8.3.9)
abbrev pub is_other : ℕ → Option ℕ → Bool
is_other root None = false
is_other root (Some control) = not (nat_eq root control)

abbrev pub counts_beside : ℕ → Option Loop → Bool
counts_beside root None = false
counts_beside root (Some one) = is_other root one.control

-- a fact of a loop of a block names what one of the block may, of variables that are visible there; or a growth an
-- integer variable that is visible, and the loop is a for statement with another control variable
abbrev pub loop_fact_is_known : Tree → ℕ → Option Loop → Fact → Bool
loop_fact_is_known tree block loop (Grows root growth) =
    is_visible (outline_of tree) block root && (is_integer_variable tree root && counts_beside root loop)
loop_fact_is_known tree block loop fact = fact_is_on tree (is_visible (outline_of tree) block) fact

-- claims are on a loop of a block, and name variables that are visible there
abbrev pub claims_are_known : Tree → ℕ → LoopClaims → Bool
claims_are_known tree block claims =
    stands_in block (slice_get tree.loops.items claims.number)
    && (list_all (is_visible (outline_of tree) block) claims.changes.items
    && list_all (loop_fact_is_known tree block (slice_get tree.loops.items claims.number)) claims.facts.items)

-- ---- blocks

-- a variable parameter of a block
abbrev pub is_variable_parameter : Tree → ℕ → ℕ → Bool
is_variable_parameter tree block root = is_declared (outline_of tree) block is_variable_kind root

-- a variable is visible in a block, and the caller may know it: it is no variable of the block's own, nor its result
abbrev pub is_outward : Tree → ℕ → ℕ → Bool
is_outward tree block root =
    is_visible (outline_of tree) block root
    && not (is_declared (outline_of tree) block is_local_kind root
    || is_declared (outline_of tree) block is_result_kind root)

-- the same of one that is no parameter of the block
abbrev pub is_round_about : Tree → ℕ → ℕ → Bool
is_round_about tree block root =
    is_outward tree block root && not (is_declared (outline_of tree) block is_value_kind root
    || is_variable_parameter tree block root)

-- a pair has a variable parameter of the block, and another or a variable round the block
abbrev pub has_parameter : Tree → ℕ → ℕ → ℕ → Bool
has_parameter tree block root other =
    is_variable_parameter tree block root
    && (is_variable_parameter tree block other || is_round_about tree block other)

abbrev pub pair_is_known : Tree → ℕ → AliasPair → Bool
pair_is_known tree block pair =
    has_parameter tree block pair.first pair.second || has_parameter tree block pair.second pair.first

-- a value parameter that the block changes
abbrev pub is_changed_value : Tree → Section → ℕ → Bool
is_changed_value tree section root =
    is_declared (outline_of tree) section.block is_value_kind root && is_among root section.changes.items

-- what an exit fact may name: what the caller may know, and what is passed as a value if it stays as it was
abbrev pub is_lasting : Tree → Section → ℕ → Bool
is_lasting tree section root =
    is_outward tree section.block root && not (is_changed_value tree section root)

-- the block's own result, whole
abbrev pub is_own_result : Tree → ℕ → Fact → Bool
is_own_result tree block (Range path range) = is_declared (outline_of tree) block is_result_kind path.root
is_own_result tree block (Defined path kept_spans.None) = is_declared (outline_of tree) block is_result_kind path.root
is_own_result tree block fact = false

abbrev pub exit_is_known : Tree → Section → Fact → Bool
exit_is_known tree section fact =
    (fact_is_known tree fact && is_own_result tree section.block fact)
    || fact_is_on tree (is_lasting tree section) fact

-- of the block itself are claimed pairs, changes, and facts where it begins and ends; of the program's, which is never
-- called, nothing
abbrev pub block_is_known : Tree → Section → Bool
block_is_known tree section =
    list_all (pair_is_known tree section.block) section.aliases.items
    && (list_all (is_outward tree section.block) section.changes.items
    && (list_all (fact_is_on tree (is_outward tree section.block)) section.entry.items
    && list_all (exit_is_known tree section) section.exit.items))

abbrev pub is_of_loops : Section → Bool
is_of_loops section =
    is_empty section.aliases.items
    && (is_empty section.changes.items && (is_empty section.entry.items && is_empty section.exit.items))

-- a section is on a block of the program, and on loops of that block
abbrev pub section_is_known : Tree → Section → Bool
section_is_known tree section =
    nat_lt section.block (length tree.blocks.items)
    && ((if nat_eq section.block 0 then is_of_loops section else block_is_known tree section)
    && list_all (claims_are_known tree section.block) section.loops.items)

-- a certificate names what the program has alone
abbrev pub is_known : Tree → Certificate → Bool
is_known tree certificate = list_all (section_is_known tree) certificate.sections.items
