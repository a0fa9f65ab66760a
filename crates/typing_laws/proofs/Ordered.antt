-- Sites that stand at places in their order stand by place and then by kind.
use Rattle.std.proofs.Common.{◌≡◌, ℕ, ◌<◌, IsTrue, List, [], ◌∷◌, ◌++◌, Option, None, Some, map, refl, sym, ap, subst, ◌∙◌, arith}
use Rattle.std.proofs.lemmas.Bool.Decides.{nat_tests}
use Rattle.place.specs.declared.Place.{Place}
use Rattle.place.specs.Place.{comes_before, ArePlacesInOrder}
use Rattle.typed_tree.specs.declared.site.SiteKind.{SiteKind}
use Rattle.typed_tree.specs.Sites.{code_of}
use Rattle.typed_tree.specs.Ids.{Stands, stands_before, AreByPlace}
use Rattle.typing_laws.proofs.Covers.{AreAbove, Ascend, Covers, Stood, group, sites_among}

before_trans : (a b c : Place) → IsTrue (comes_before a b) → IsTrue (comes_before b c) → IsTrue (comes_before a c)
before_trans a b c h k = grind (arith, nat_tests)

at_earlier : (a b : Stands) → IsTrue (comes_before a.1 b.1) → IsTrue (stands_before a b)
at_earlier a b h = grind (arith, nat_tests)

at_same : (place : Place) (first second : SiteKind) → code_of first < code_of second → IsTrue (stands_before (first, place) (second, place))
at_same place first second h = grind (arith, nat_tests)

-- ---- places in order

order_tail : (place : Place) (places : List Place) → ArePlacesInOrder (place ∷ places) → ArePlacesInOrder places
order_tail place [] order = tt
order_tail place (next ∷ places) order = order.1

order_without : (place next : Place) (places : List Place) → ArePlacesInOrder (place ∷ next ∷ places) → ArePlacesInOrder (place ∷ places)
order_without place next [] order = tt
order_without place next (other ∷ places) order = (before_trans place next other order.0 order.1.0, order.1.1)

-- the first of these stands behind the place
abbrev FirstBehind : Place → List Stands → Type 0
FirstBehind place [] = Unit {0}
FirstBehind place (one ∷ others) = IsTrue (comes_before place one.1)

-- the sites of a group of sites and points
abbrev kinds_among : List (Option SiteKind) → List SiteKind
kinds_among [] = []
kinds_among (None ∷ here) = kinds_among here
kinds_among (Some kind ∷ here) = kind ∷ kinds_among here

abbrev all_at : Place → List SiteKind → List Stands
all_at place kinds = map (λ kind. (kind, place)) kinds

among : (place : Place) (here : List (Option SiteKind)) (later : List Stood)
    → sites_among (group place here ++ later) ≡ all_at place (kinds_among here) ++ sites_among later
among place [] later = refl
among place (None ∷ here) later = among place here later
among place (Some kind ∷ here) later = ap (λ l. (kind, place) ∷ l) (among place here later)

above_among : (low : ℕ) (here : List (Option SiteKind)) → Ascend low here → AreAbove low (kinds_among here)
above_among low [] is = tt
above_among low (None ∷ here) is = above_among low here is
above_among low (Some kind ∷ here) is = (is.0, above_among (code_of kind) here is.1)

first_behind : (place : Place) (places : List Place) (added : List Stood) → ArePlacesInOrder (place ∷ places) → Covers 0 places added
    → FirstBehind place (sites_among added)
first_behind place [] added order none = subst (λ (l : List Stood). FirstBehind place (sites_among l)) (sym none) tt
first_behind place (next ∷ places) added order covered =
    subst (FirstBehind place) (sym (ap sites_among covered.2 ∙ among next covered.0 covered.1))
    (by (kinds_among covered.0) (first_behind place places covered.1 (order_without place next places order) covered.4))
  where
    by : (here : List SiteKind) → FirstBehind place (sites_among covered.1) → FirstBehind place (all_at next here ++ sites_among covered.1)
    by [] later = later
    by (kind ∷ here) later = order.0

-- ---- sites by place

group_by_place : (low : ℕ) (place : Place) (here : List SiteKind) (later : List Stands) → AreAbove low here → FirstBehind place later → AreByPlace later
    → AreByPlace (all_at place here ++ later)
group_by_place low place [] later ascending behind ordered = ordered
group_by_place low place (kind ∷ []) [] ascending behind ordered = tt
group_by_place low place (kind ∷ []) (one ∷ others) ascending behind ordered = (at_earlier (kind, place) one behind, ordered)
group_by_place low place (kind ∷ next ∷ here) later ascending behind ordered =
    (at_same place kind next ascending.1.0, group_by_place (code_of kind) place (next ∷ here) later ascending.1 behind ordered)

pub covers_by_place : (places : List Place) (added : List Stood) → ArePlacesInOrder places → Covers 0 places added → AreByPlace (sites_among added)
covers_by_place [] added order none = subst (λ (l : List Stood). AreByPlace (sites_among l)) (sym none) tt
covers_by_place (place ∷ places) added order covered =
    subst AreByPlace (sym (ap sites_among covered.2 ∙ among place covered.0 covered.1))
    (group_by_place 0 place (kinds_among covered.0) (sites_among covered.1) (above_among 0 covered.0 covered.3)
    (first_behind place places covered.1 order covered.4)
    (covers_by_place places covered.1 (order_tail place places order) covered.4))
