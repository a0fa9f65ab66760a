-- The tables of sites (ISO 7185:1990, 3.1, for the errors that sites may commit) and of points: the id of each is its
-- place in its table, and sites stand there by place and then by kind. It says nothing of where a program has them.
use Rattle.std.specs.Prelude.{◌≡◌, ◌&&◌, ◌||◌, Bool, IsTrue, List, [], ◌∷◌, map, length, nat_eq, nat_lt}
use Rattle.std.specs.List.{range_with_len}
use Rattle.place.specs.declared.Place.{Place}
use Rattle.place.specs.Place.{comes_before}
use Rattle.typed_tree.specs.declared.site.Point.{Point}
use Rattle.typed_tree.specs.declared.site.Site.{Site}
use Rattle.typed_tree.specs.declared.site.SiteKind.{SiteKind}
use Rattle.typed_tree.specs.Sites.{code_of}

-- from 0, one after another
abbrev pub AreInOrder : List Site → Type 0
AreInOrder sites = map (λ site. site.id) sites ≡ range_with_len 0 (length sites)

-- the same of points
abbrev pub ArePointsInOrder : List Point → Type 0
ArePointsInOrder points = map (λ point. point.id) points ≡ range_with_len 0 (length points)

-- where an error stands: its kind and its place
abbrev pub Stands : Type 0
Stands = SiteKind × Place

-- one stands before another: at an earlier place, or at the same place with a kind of a lower number
abbrev pub stands_before : Stands → Stands → Bool
stands_before first second =
    comes_before first.1 second.1
    || (nat_eq first.1.line second.1.line && nat_eq first.1.column second.1.column
    && nat_lt (code_of first.0) (code_of second.0))

-- each stands before the next
abbrev pub AreByPlace : List Stands → Type 0
AreByPlace [] = Unit {0}
AreByPlace (one ∷ []) = Unit {0}
AreByPlace (one ∷ next ∷ others) = IsTrue (stands_before one next) × AreByPlace (next ∷ others)
