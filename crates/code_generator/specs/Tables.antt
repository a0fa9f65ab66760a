-- The tables of sites and points of some code: those of the tree, in plain numbers; and which trees have no code, since
-- it would be too large. It does not say where sites stand.
use Rattle.std.specs.Prelude.{◌&&◌, ◌||◌, Bool, List, length, map, nat_le, not}
use Rattle.std.specs.List.{list_all}
use Rattle.pcode_assembler.specs.declared.code.Site.{Site as Plain}
use Rattle.pcode_assembler.specs.declared.code.Point.{Point as PlainPoint}
use Rattle.place.specs.declared.Place.{Place}
use Rattle.typed_tree.specs.declared.site.Site.{Site}
use Rattle.typed_tree.specs.declared.site.Point.{Point}
use Rattle.pcode_assembler.specs.Lines.{is_place}
use Rattle.code_scheme.specs.Large.{is_too_large}
use Rattle.typed_tree.specs.declared.tree.Tree.{Tree}
use Rattle.typed_tree.specs.Ids.{AreInOrder, ArePointsInOrder}
use Rattle.typed_tree.specs.Sites.{code_of}

-- a site in plain numbers
abbrev pub in_plain_numbers : Site → Plain
in_plain_numbers site =
    record { id = site.id; line = site.place.line; column = site.place.column; kind = code_of site.kind }

-- a point in plain numbers
abbrev pub point_in_plain_numbers : Point → PlainPoint
point_in_plain_numbers point = record { id = point.id; line = point.place.line; column = point.place.column }

-- the table of the sites
abbrev pub site_table : List Site → List Plain
site_table sites = map in_plain_numbers sites

-- the table of the points
abbrev pub point_table : List Point → List PlainPoint
point_table points = map point_in_plain_numbers points

-- the sites and the points of a tree are numbered from 0 on, in the order of its tables
pub record IsNumbered (tree : Tree) : Type 0 where
  pub sites : AreInOrder tree.sites.items
  pub points : ArePointsInOrder tree.points.items

-- ---- what a text of code has room for

-- a place that a text of code can spell
abbrev pub is_spelled : Place → Bool
is_spelled place = is_place place.line && is_place place.column

abbrev pub sites_are_spelled : List Site → Bool
sites_are_spelled sites = list_all (λ (site : Site). is_spelled site.place) sites

abbrev pub points_are_spelled : List Point → Bool
points_are_spelled points = list_all (λ (point : Point). is_spelled point.place) points

-- no more sites and points than a text of code may have, at places that it can spell
abbrev pub has_room : Tree → Bool
has_room tree =
    nat_le (length tree.sites.items) 1000000
    && (nat_le (length tree.points.items) 1000000
    && (sites_are_spelled tree.sites.items && points_are_spelled tree.points.items))

-- a tree whose code would be too large: it has too many instructions or cells of parameters, or sites or points
abbrev pub has_no_code : Tree → Bool
has_no_code tree = is_too_large tree || not (has_room tree)
