-- The code of a well formed tree can be written, and has a text.
use Rattle.code_generator.proofs.Words.{◌≡◌, ◌&&◌, true, List, [], ◌∷◌, length, map, refl, sym, ap, ◌∙◌, subst, length-map, Tree, IsWellFormed}
use Rattle.std.specs.List.{list_all, range_with_len}
use Rattle.pcode_assembler.specs.declared.code.Code.{Code}
use Rattle.pcode_assembler.specs.declared.code.Site.{Site as Plain}
use Rattle.pcode_assembler.specs.declared.code.Point.{Point as PlainPoint}
use Rattle.std.proofs.Common.{ℕ, ◌≤◌, ◌||◌, Bool, false, nat_lt, arith}
use Rattle.std.specs.Prelude.{nat_le}
use Rattle.std.proofs.lemmas.Bool.{and_from, and_parts, leb-true}
use Rattle.std.proofs.lemmas.Bool.Decides.{nat_tests}
use Rattle.pcode_assembler.specs.Bounds.{in_bounds}
use Rattle.pcode_assembler.specs.Contents.{HasText}
use Rattle.pcode_assembler.specs.Lines.{is_place}
use Rattle.pcode_assembler.specs.Writable.{AreNumbered, IsWritable, is_kind, names_what_is_there}
use Rattle.typed_tree.specs.declared.site.Point.{Point}
use Rattle.typed_tree.specs.declared.site.Site.{Site}
use Rattle.typed_tree.specs.declared.site.SiteKind.{SiteKind}
use Rattle.typed_tree.specs.declared.site.SiteKind.TheVariants as kind
use Rattle.typed_tree.specs.Sites.{code_of}
use Rattle.code_scheme.specs.Code.{program_code}
use Rattle.code_scheme.specs.Large.{is_too_large, one_passes_too_much}
use Rattle.code_scheme.proofs.Bounds.{program_in_bounds, program_names}
use Rattle.code_generator.specs.Tables.{IsNumbered, has_room, in_plain_numbers, is_spelled, point_in_plain_numbers, point_table, site_table}

kind_is : (k : SiteKind) → is_kind (code_of k) ≡ true
kind_is kind.Index = refl
kind_is kind.Subrange = refl
kind_is kind.UndefinedVariable = refl
kind_is kind.UndefinedResult = refl
kind_is kind.DivisionByZero = refl
kind_is kind.ModByZeroOrLess = refl
kind_is kind.Case = refl
kind_is kind.Chr = refl
kind_is kind.Succ = refl
kind_is kind.Pred = refl
kind_is kind.Overflow = refl
kind_is kind.Width = refl
kind_is kind.SetMember = refl

kinds_are : (sites : List Site) → list_all (λ (site : Plain). is_kind site.kind) (site_table sites) ≡ true
kinds_are [] = refl
kinds_are (site ∷ sites) = ap (λ b. b && list_all (λ (s : Plain). is_kind s.kind) (site_table sites)) (kind_is site.kind) ∙ kinds_are sites

-- plain numbers keep the ids
same_ids : (sites : List Site) → map (λ (site : Plain). site.id) (site_table sites) ≡ map (λ (site : Site). site.id) sites
same_ids [] = refl
same_ids (site ∷ sites) = ap (λ ids. site.id ∷ ids) (same_ids sites)

same_point_ids : (points : List Point) → map (λ (point : PlainPoint). point.id) (point_table points) ≡ map (λ (point : Point). point.id) points
same_point_ids [] = refl
same_point_ids (point ∷ points) = ap (λ ids. point.id ∷ ids) (same_point_ids points)

pub writable : (tree : Tree) (code : Code) → code.instructions.items ≡ program_code tree → code.sites.items ≡ site_table tree.sites.items
    → code.points.items ≡ point_table tree.points.items → IsWellFormed tree → IsNumbered tree → IsWritable code
writable tree code is sites_are points_are well numbered =
    let sites = tree.sites.items in
    let points = tree.points.items in
    let as_many = ap length sites_are ∙ length-map sites in_plain_numbers in
    let as_many_points = ap length points_are ∙ length-map points point_in_plain_numbers in
    let ids = λ (ss : List Site). map (λ (site : Site). site.id) ss in
    record {
      operands = ap (list_all in_bounds) is ∙ program_in_bounds tree;
      names = subst (λ n. list_all (names_what_is_there n (length code.points.items) (length code.instructions.items)) code.instructions.items ≡ true)
          (sym as_many)
          (subst (λ n. list_all (names_what_is_there (length sites) n (length code.instructions.items)) code.instructions.items ≡ true) (sym as_many_points)
          (subst (λ c. list_all (names_what_is_there (length sites) (length points) (length c)) c ≡ true) (sym is) (program_names tree well.blocks)));
      sites = subst (λ (ss : List Plain). AreNumbered (map (λ (site : Plain). site.id) ss)) (sym sites_are)
          (subst AreNumbered (sym (same_ids sites))
          (numbered.sites ∙ ap (range_with_len 0) (sym (length-map sites (λ (site : Site). site.id)))));
      points = subst (λ (ps : List PlainPoint). AreNumbered (map (λ (point : PlainPoint). point.id) ps)) (sym points_are)
          (subst AreNumbered (sym (same_point_ids points))
          (numbered.points ∙ ap (range_with_len 0) (sym (length-map points (λ (point : Point). point.id)))));
      kinds = ap (list_all (λ (site : Plain). is_kind site.kind)) sites_are ∙ kinds_are sites;
    }

-- ---- the text of the code

few_code : (length_is : ℕ) (large other : Bool) → nat_lt 1000000 length_is ≡ large → (large || other) ≡ false → length_is ≤ 1000000
few_code n true other is small = absurd cc
few_code n false other is small = grind (arith, nat_tests)

pub has_text : (tree : Tree) (code : Code) → code.instructions.items ≡ program_code tree → code.sites.items ≡ site_table tree.sites.items
    → code.points.items ≡ point_table tree.points.items → is_too_large tree ≡ false → has_room tree ≡ true → IsWellFormed tree → IsNumbered tree
    → HasText code
has_text tree code is sites_are points_are small fits well numbered =
    let sites = tree.sites.items in
    let points = tree.points.items in
    let few = few_code (length (program_code tree)) _ (one_passes_too_much tree 0 tree.blocks.items) refl small in
    let room = and_parts (nat_le (length sites) 1000000) _ fits in
    let rooms = and_parts (nat_le (length points) 1000000) _ room.1 in
    let places = and_parts (list_all (λ (site : Site). is_spelled site.place) sites) _ rooms.1 in
    record {
      writable = writable tree code is sites_are points_are well numbered;
      few_sites = omega (arith, ap length sites_are, length-map sites in_plain_numbers, leb-true (length sites) 1000000 room.0);
      few_points = omega (arith, ap length points_are, length-map points point_in_plain_numbers, leb-true (length points) 1000000 rooms.0);
      few_instructions = omega (arith, ap length is, few);
      site_places = ap (list_all (λ (site : Plain). is_place site.line && is_place site.column)) sites_are ∙ site_places_are sites places.0;
      point_places = ap (list_all (λ (point : PlainPoint). is_place point.line && is_place point.column)) points_are
          ∙ point_places_are points places.1;
    }
  where
    site_places_are : (sites : List Site) → list_all (λ (site : Site). is_spelled site.place) sites ≡ true
        → list_all (λ (site : Plain). is_place site.line && is_place site.column) (site_table sites) ≡ true
    site_places_are [] all = refl
    site_places_are (site ∷ sites) all =
        let parts = and_parts (is_place site.place.line && is_place site.place.column) _ all in
        and_from _ _ parts.0 (site_places_are sites parts.1)

    point_places_are : (points : List Point) → list_all (λ (point : Point). is_spelled point.place) points ≡ true
        → list_all (λ (point : PlainPoint). is_place point.line && is_place point.column) (point_table points) ≡ true
    point_places_are [] all = refl
    point_places_are (point ∷ points) all =
        let parts = and_parts (is_place point.place.line && is_place point.place.column) _ all in
        and_from _ _ parts.0 (point_places_are points parts.1)
