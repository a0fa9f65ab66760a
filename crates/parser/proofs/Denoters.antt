-- The outlines of type denoters, form by form.
use Rattle.std.proofs.Common.{◌≡◌, ℕ, suc, ◌+◌, Bool, List, map, nat_eq, length, Option, Some, Vec, Box, refl, sym, ap, subst, ◌∙◌, arith}
use Rattle.std.specs.declared.alloc.Global.{Global}
use Rattle.place.specs.declared.Place.{Place}
use Rattle.syntax_tree.specs.Places.{fields_of}
use Rattle.syntax_tree.specs.declared.Name.{Name}
use Rattle.syntax_tree.specs.declared.Constant.{Constant}
use Rattle.syntax_tree.specs.declared.TypeDenoter.{TypeDenoter}
use Rattle.syntax_tree.specs.declared.TypeDenoter.TheVariants as denoter
use Rattle.syntax_tree.specs.declared.TypeDenoter.TheOpen as layer
use Rattle.lexer.specs.declared.token.Kind.{Kind}
use Rattle.lexer.specs.declared.token.Kind.TheVariants as kind
use Rattle.lexer.specs.declared.token.Symbol.TheVariants as symbol
use Rattle.lexer.specs.declared.token.Word.{Word}
use Rattle.lexer.specs.declared.token.Token.{Token}
use Rattle.reading.specs.Declarations as read
use Rattle.reading.specs.Reading.{Reading, next_kind}
use Rattle.reading.specs.Lexemes.{identifier}
use Rattle.reading.specs.Outline as form
use Rattle.reading.specs.Outline.{Outline, only_if}
use Rattle.reading.specs.Trees.{name_outline, constant_outline, denoter_outline, fields_outline}
use Rattle.reading.proofs.Outlines.{denoter_is}
use Rattle.parser.proofs.Parts.{lists_of_names}

pub built_name : (name : Name) → denoter_outline (denoter.Name name) ≡ form.named_type (identifier name)
built_name name = ap denoter_outline (sym (denoter.rolls-Name name)) ∙ denoter_is (layer.Name name)

pub built_enumerated : (constants : Vec Name Global)
    → denoter_outline (denoter.Enumerated constants) ≡ form.enumerated (map name_outline constants.items)
built_enumerated constants = ap denoter_outline (sym (denoter.rolls-Enumerated constants)) ∙ denoter_is (layer.Enumerated constants)

pub built_subrange : (first : Constant) (between : Place) (last : Constant)
    → denoter_outline (denoter.Subrange first between last) ≡ form.subrange (constant_outline first) between (constant_outline last)
built_subrange first between last =
    ap denoter_outline (sym (denoter.rolls-Subrange first between last)) ∙ denoter_is (layer.Subrange first between last)

pub built_array : (packed : Bool) (place : Place) (indexes : Vec TypeDenoter Global) (element : Box TypeDenoter Global)
    → denoter_outline (denoter.Array packed place indexes element)
    ≡ form.array packed place (map denoter_outline indexes.items) (denoter_outline element.value)
built_array packed place indexes element =
    ap denoter_outline (sym (denoter.rolls-Array packed place indexes element)) ∙ denoter_is (layer.Array packed place indexes element)

pub built_record : (packed : Bool) (place : Place) (names : Vec (Vec Name Global) Global) (denoters : Vec TypeDenoter Global) (semicolon : Bool)
    → denoter_outline (denoter.Record packed place names denoters semicolon)
    ≡ only_if (nat_eq (length names.items) (length (map denoter_outline denoters.items)))
    (form.record_type packed place (map fields_outline (fields_of names.items (map denoter_outline denoters.items))) semicolon)
built_record packed place names denoters semicolon =
    ap denoter_outline (sym (denoter.rolls-Record packed place names denoters semicolon)) ∙ denoter_is (layer.Record packed place names denoters semicolon)

pub built_set : (packed : Bool) (place : Place) (base : Box TypeDenoter Global)
    → denoter_outline (denoter.Set packed place base) ≡ form.set_type packed place (denoter_outline base.value)
built_set packed place base = ap denoter_outline (sym (denoter.rolls-Set packed place base)) ∙ denoter_is (layer.Set packed place base)

pub ruleset built_denoters = (built_name, built_enumerated, built_subrange, built_array, built_record, built_set)

pub ruleset subranges = (built_name, built_subrange)

pub ruleset enumerations = (built_enumerated, lists_of_names)

-- ---- a denoter by what comes next

pub denoter_at : (levels left : ℕ) → left + 1 ≡ levels → (tokens : List Token)
    → read.denoter levels tokens ≡ read.denoter_by (read.denoter left) (next_kind tokens) tokens
denoter_at levels left e tokens =
    let is : suc left ≡ levels = omega arith in subst (λ n. read.denoter n tokens ≡ read.denoter_by (read.denoter left) (next_kind tokens) tokens) is refl

pub denoter_else : (d : Reading Outline) (k : Option Kind) → (¬ (k ≡ Some (kind.Symbol symbol.OpenParenthesis))) → ((w : Word) → ¬ (k ≡ Some (kind.Word w)))
    → read.denoter_by d k ≡ read.name_or_subrange
denoter_else d (Some (kind.Symbol symbol.OpenParenthesis)) closed none = absurd (closed refl)
denoter_else d (Some (kind.Word w)) closed none = absurd (none w refl)
denoter_else d k closed none = refl
